-- What a constraint sees of a box: the sets of its places' variables, and the literals that show it possible.
use Rattle.std.specs.Prelude.{◌≡◌, ℕ, ℤ, pos, ◌-ℤ◌, List, [], ◌∷◌, ◌++◌}
use Rattle.std.specs.List.{AllByRecursion}
use Rattle.mn_model.specs.Domain.{Has}
use Rattle.mn_model.specs.Parts.{places}
use Rattle.mn_model.specs.Variable.{number_of}
use Rattle.mn_model.specs.declared.constraint.Con.{Con}
use Rattle.mn_model.specs.declared.constraint.Term.{Term}
use Rattle.mn_model.specs.declared.constraint.Term.TheVariants.{Var, Const, Not}
use Rattle.mn_boxes.specs.Boxes.{set_of}
use Rattle.mn_boxes.specs.Events.{Any, Fires}
use Rattle.mn_boxes.specs.Sets.{Variable}
use Rattle.mn_closure.specs.Supports.{StandsAt}

-- the set of the place's variable is the same in two boxes
abbrev pub IsSameAt : List (List ℤ) → List (List ℤ) → Term → Type 0
IsSameAt one another (Var v) = set_of one (number_of v) ≡ set_of another (number_of v)
IsSameAt one another (Const k) = Unit {0}
IsSameAt one another (Not v) = set_of one (number_of v) ≡ set_of another (number_of v)

-- so it is at each place of a constraint
abbrev pub SamePlaces : List (List ℤ) → List (List ℤ) → Con → Type 0
SamePlaces one another c = AllByRecursion (IsSameAt one another) (places c)

-- no change of the set is fired, from the one box to the other
abbrev pub IsQuietAt : List Variable → List (List ℤ) → List (List ℤ) → Term → Type 0
IsQuietAt vars old new (Var v) = Fires vars (number_of v) Any old new → ⊥
IsQuietAt vars old new (Const k) = Unit {0}
IsQuietAt vars old new (Not v) = Fires vars (number_of v) Any old new → ⊥

-- at some place the set isn't the same
pub record SomeChanged (c : Con) (one another : List (List ℤ)) : Type 0 where
  pub place : ℕ
  pub term : Term
  pub stands : StandsAt c place term
  pub changed : IsSameAt one another term → ⊥

-- a literal: a variable, by its number, and a value
abbrev pub Literal : Type 0
Literal = ℕ × ℤ

-- the variable has the value left
abbrev pub HasLiteral : List (List ℤ) → Literal → Type 0
HasLiteral box literal = Has (set_of box literal.0) literal.1

abbrev pub HasLiterals : List (List ℤ) → List Literal → Type 0
HasLiterals box literals = AllByRecursion (HasLiteral box) literals

-- the literal by which a is at a place. A constant needs none
abbrev pub literal_of : Term → ℤ → List Literal
literal_of (Var v) a = (number_of v, a) ∷ []
literal_of (Const k) a = []
literal_of (Not v) a = (number_of v, pos 1 -ℤ a) ∷ []

-- those of a choice
abbrev pub literals_of : List Term → List ℤ → List Literal
literals_of [] values = []
literals_of (t ∷ ts) [] = []
literals_of (t ∷ ts) (a ∷ values) = literal_of t a ++ literals_of ts values

-- literals of the box show P: it is so in every box that has them
pub record IsShown (P : List (List ℤ) → Type 0) (box : List (List ℤ)) : Type 0 where
  pub literals : List Literal
  pub there : HasLiterals box literals
  pub shows : (another : List (List ℤ)) → HasLiterals another literals → P another
