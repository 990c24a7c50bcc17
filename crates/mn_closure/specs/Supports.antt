-- Which values of a constraint's places are supported in a box, and whether the box can meet it. All is said by what is there,
-- so it stays where the box grows.
use Rattle.std.specs.Prelude.{◌≡◌, ◌≢◌, ℕ, zero, suc, ℤ, pos, ◌-ℤ◌, ◌*ℤ◌, ◌≤ℤ◌, ◌⊎◌, List, slice_get, Some}
use Rattle.std.proofs.Common.{nat_abs}
use Rattle.std.specs.List.{AllZip}
use Rattle.mn_model.specs.Parts.{places}
use Rattle.mn_model.specs.declared.constraint.Con.{Con}
use Rattle.mn_model.specs.declared.constraint.Con.TheVariants as con
use Rattle.mn_model.specs.declared.constraint.Term.{Term}
use Rattle.mn_model.specs.declared.declaration.Tuples.{Tuples}
use Rattle.mn_boxes.specs.Places.{PlaceHas}
use Rattle.mn_meaning.specs.Meaning.{at, Meets}
use Rattle.mn_closure.specs.Levels.{Level, Arc, Fixed, Hull, Last, level}

-- one value from each place's set
abbrev pub Choice : List (List ℤ) → List Term → List ℤ → Type 0
Choice box terms values = AllZip (PlaceHas box) terms values

-- some choice meets the constraint
pub record SomeChoice (lists : List Tuples) (c : Con) (box : List (List ℤ)) : Type 0 where
  pub values : List ℤ
  pub chosen : Choice box (places c) values
  pub meets : Meets lists c values

-- some choice with a at place i does
pub record ChoiceWith (lists : List Tuples) (c : Con) (i : ℕ) (a : ℤ) (box : List (List ℤ)) : Type 0 where
  pub values : List ℤ
  pub chosen : Choice box (places c) values
  pub given : at values i ≡ a
  pub meets : Meets lists c values

-- t is the constraint's place i
abbrev pub StandsAt : Con → ℕ → Term → Type 0
StandsAt c i t = slice_get (places c) i ≡ Some t

-- the place isn't single: two values are there
pub record IsOpen (box : List (List ℤ)) (t : Term) : Type 0 where
  pub one : ℤ
  pub another : ℤ
  pub has_one : PlaceHas box t one
  pub has_another : PlaceHas box t another
  pub differ : one ≢ another

-- some place isn't single
pub record SomeOpen (c : Con) (box : List (List ℤ)) : Type 0 where
  pub place : ℕ
  pub term : Term
  pub stands : StandsAt c place term
  pub is_open : IsOpen box term

-- some place other than i isn't
pub record OtherOpen (c : Con) (i : ℕ) (box : List (List ℤ)) : Type 0 where
  pub place : ℕ
  pub term : Term
  pub stands : StandsAt c place term
  pub other : place ≢ i
  pub is_open : IsOpen box term

-- no other place's set is a alone: each has another value
abbrev pub NoneElse : Con → ℕ → ℤ → List (List ℤ) → Type 0
NoneElse c i a box = (j : ℕ) (t : Term) → StandsAt c j t → j ≢ i → (b : ℤ) × PlaceHas box t b × (b ≢ a)

-- b is between the ends of the place, which is: between two of its values
pub record IsBetweenEnds (box : List (List ℤ)) (t : Term) (b : ℤ) : Type 0 where
  pub low : ℤ
  pub high : ℤ
  pub has_low : PlaceHas box t low
  pub has_high : PlaceHas box t high
  pub from : low ≤ℤ b
  pub to : b ≤ℤ high

-- there are numbers between the ends of t and u that stand in R
pub record SomeBetweenEnds (box : List (List ℤ)) (t u : Term) (R : ℤ → ℤ → Type 0) : Type 0 where
  pub first : ℤ
  pub second : ℤ
  pub within_first : IsBetweenEnds box t first
  pub within_second : IsBetweenEnds box u second
  pub related : R first second

-- a is between the least and the greatest that f gives of numbers between the ends of x and y
pub record IsReached (box : List (List ℤ)) (x y : Term) (f : ℤ → ℤ → ℤ) (a : ℤ) : Type 0 where
  pub below : SomeBetweenEnds box x y (λ b c. f b c ≤ℤ a)
  pub above : SomeBetweenEnds box x y (λ b c. a ≤ℤ f b c)

abbrev pub product : ℤ → ℤ → ℤ
product a b = a *ℤ b

abbrev pub difference : ℤ → ℤ → ℤ
difference a b = pos (nat_abs (a -ℤ b))

-- what f gives of x and y is z, where they are numbers between their ends: so it is with a at a place. The least and the
-- greatest product are at the ends themselves
abbrev pub HullSupported : (ℤ → ℤ → ℤ) → Term → Term → Term → ℕ → ℤ → List (List ℤ) → Type 0
HullSupported f x y z zero a box = SomeBetweenEnds box y z (λ b c. f a b ≡ c)
HullSupported f x y z (suc zero) a box = SomeBetweenEnds box x z (λ b c. f b a ≡ c)
HullSupported f x y z (suc (suc i)) a box = IsReached box x y f a

-- no form but these two has the level Hull
abbrev pub HullSupports : Con → ℕ → ℤ → List (List ℤ) → Type 0
HullSupports (con.Eq x y) i a box = ⊥
HullSupports (con.Diseq x y) i a box = ⊥
HullSupports (con.Ineq x y k) i a box = ⊥
HullSupports (con.Watchless x y) i a box = ⊥
HullSupports (con.Minuseq x y) i a box = ⊥
HullSupports (con.Abs x y) i a box = ⊥
HullSupports (con.Difference x y z) i a box = HullSupported difference x y z i a box
HullSupports (con.Product x y z) i a box = HullSupported product x y z i a box
HullSupports (con.Div x y z) i a box = ⊥
HullSupports (con.Modulo x y z) i a box = ⊥
HullSupports (con.Max v x) i a box = ⊥
HullSupports (con.Min v x) i a box = ⊥
HullSupports (con.Sumleq v x) i a box = ⊥
HullSupports (con.Sumgeq v x) i a box = ⊥
HullSupports (con.Weightedsumleq ks v x) i a box = ⊥
HullSupports (con.Weightedsumgeq ks v x) i a box = ⊥
HullSupports (con.Watchsumleq v k) i a box = ⊥
HullSupports (con.Watchsumgeq v k) i a box = ⊥
HullSupports (con.Litsumgeq v ks k) i a box = ⊥
HullSupports (con.Element v x y) i a box = ⊥
HullSupports (con.Watchelement v x y) i a box = ⊥
HullSupports (con.ElementOne v x y) i a box = ⊥
HullSupports (con.WatchelementOne v x y) i a box = ⊥
HullSupports (con.Table v tab) i a box = ⊥
HullSupports (con.Negativetable v tab) i a box = ⊥
HullSupports (con.Alldiff v) i a box = ⊥
HullSupports (con.Lexleq v w) i a box = ⊥
HullSupports (con.Lexless v w) i a box = ⊥
HullSupports (con.Watchvecneq v w) i a box = ⊥
HullSupports (con.Hamming v w k) i a box = ⊥
HullSupports (con.Occurrence v k x) i a box = ⊥
HullSupports (con.Occurrenceleq v k k2) i a box = ⊥
HullSupports (con.Occurrencegeq v k k2) i a box = ⊥
HullSupports (con.Nvalueleq v x) i a box = ⊥
HullSupports (con.WLiteral x k) i a box = ⊥
HullSupports (con.WNotliteral x k) i a box = ⊥
HullSupports (con.WInset x ks) i a box = ⊥
HullSupports (con.WNotinset x ks) i a box = ⊥
HullSupports (con.WInrange x k k2) i a box = ⊥
HullSupports (con.WNotinrange x k k2) i a box = ⊥
HullSupports (con.WInintervalset x ks) i a box = ⊥
HullSupports con.Always i a box = ⊥
HullSupports con.Never i a box = ⊥
HullSupports (con.WatchedOr cs) i a box = ⊥
HullSupports (con.WatchedAnd cs) i a box = ⊥
HullSupports (con.Reify' p c r) i a box = ⊥
HullSupports (con.Reifyimply' p c r) i a box = ⊥
HullSupports (con.Negated' p c) i a box = ⊥

-- the value a at place i is supported in the box, at a level and at that of the constraint
abbrev pub SupportedAt : Level → List Tuples → Con → ℕ → ℤ → List (List ℤ) → Type 0
SupportedAt Arc lists c i a box = ChoiceWith lists c i a box
SupportedAt Fixed lists c i a box = NoneElse c i a box
SupportedAt Hull lists c i a box = HullSupports c i a box
SupportedAt Last lists c i a box = OtherOpen c i box ⊎ ChoiceWith lists c i a box

abbrev pub Supported : List Tuples → Con → ℕ → ℤ → List (List ℤ) → Type 0
Supported lists c i a box = SupportedAt (level c) lists c i a box

-- a leaf is possible in the box: some choice meets it, or but at level Arc some place isn't single
abbrev pub LeafPossibleAt : Level → List Tuples → Con → List (List ℤ) → Type 0
LeafPossibleAt Arc lists c box = SomeChoice lists c box
LeafPossibleAt Fixed lists c box = SomeOpen c box ⊎ SomeChoice lists c box
LeafPossibleAt Hull lists c box = SomeOpen c box ⊎ SomeChoice lists c box
LeafPossibleAt Last lists c box = SomeOpen c box ⊎ SomeChoice lists c box

abbrev pub LeafPossible : List Tuples → Con → List (List ℤ) → Type 0
LeafPossible lists c box = LeafPossibleAt (level c) lists c box
