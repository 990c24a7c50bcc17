-- What contracts see of the context in which propagators work, and what its changes do.
use Rattle.std.specs.Prelude.{◌≡◌, ◌<◌, ℤ, pos, ◌-ℤ◌, ◌<ℤ◌, ◌≤ℤ◌, ◌⊎◌, Bool, true, false, List, [], ◌∷◌, length, Option, Some, None, Result, Ok, Err}
use Rattle.std.specs.List.{AllByRecursion}
use Rattle.mn_model.specs.Domain.{IsValue}
use Rattle.mn_model.specs.Variable.{number_of}
use Rattle.mn_model.specs.declared.constraint.Term.{Term}
use Rattle.mn_model.specs.declared.constraint.Term.TheVariants.{Var, Const, Not}
use Rattle.mn_model.specs.declared.limits.TheConstants.{VALUE}
use Rattle.mn_boxes.specs.Boxes.{IsBox, count_of, set_of, variable_at}
use Rattle.mn_boxes.specs.Places.{PlaceHas}
use Rattle.mn_boxes.specs.Sets.{MayGo, Variable}
use Rattle.mn_boxes.specs.declared.change.Moved.{Moved}
use Rattle.mn_domains.specs.Changes.{kept, with_sets}
use Rattle.mn_domains.specs.Sets.{Sets}
use Rattle.mn_domains.specs.declared.doms.Emptied.{Emptied}
use Rattle.mn_prop.specs.declared.context.Fail.{Fail}

-- the sets that propagators narrow, and whether any lost a value since the context was last said to be at rest
pub record Context : Type 0 where
  pub doms : Sets
  pub moved : Bool

-- its variables, which never change, and the set of each now
abbrev pub vars_of : Context → List Variable
vars_of c = c.doms.vars

abbrev pub box_of : Context → List (List ℤ)
box_of c = c.doms.now.sets

-- it with these sets and this mark, and all else as it was
abbrev pub with_box : Context → List (List ℤ) → Bool → Context
with_box c box moved = record c { doms = with_sets c.doms box; moved = moved }

-- all that is declared is within the limits of a model
abbrev pub AreValued : List Variable → Type 0
AreValued vars = AllByRecursion (λ var. AllByRecursion IsValue var.declared) vars

-- the term is a constant, or names one of the variables
abbrev pub IsNamed : List Variable → Term → Type 0
IsNamed vars (Var v) = number_of v < length vars
IsNamed vars (Const k) = Unit {0}
IsNamed vars (Not v) = number_of v < length vars

-- the first and the last of some values, and 0 where there are none
abbrev pub first_of : List ℤ → ℤ
first_of [] = pos 0
first_of (x ∷ xs) = x

abbrev pub last_of : List ℤ → ℤ
last_of [] = pos 0
last_of (x ∷ []) = x
last_of (x ∷ y ∷ xs) = last_of (y ∷ xs)

-- the least and the greatest value of a place
abbrev pub place_lo : List (List ℤ) → Term → ℤ
place_lo sets (Var v) = first_of (set_of sets (number_of v))
place_lo sets (Const k) = k
place_lo sets (Not v) = pos 1 -ℤ last_of (set_of sets (number_of v))

abbrev pub place_hi : List (List ℤ) → Term → ℤ
place_hi sets (Var v) = last_of (set_of sets (number_of v))
place_hi sets (Const k) = k
place_hi sets (Not v) = pos 1 -ℤ first_of (set_of sets (number_of v))

-- a is a value of the place, and none there is less, or none greater
pub record IsLeastAt (sets : List (List ℤ)) (t : Term) (a : ℤ) : Type 0 where
  pub there : PlaceHas sets t a
  pub least : (b : ℤ) → PlaceHas sets t b → a ≤ℤ b

pub record IsGreatestAt (sets : List (List ℤ)) (t : Term) (a : ℤ) : Type 0 where
  pub there : PlaceHas sets t a
  pub greatest : (b : ℤ) → PlaceHas sets t b → b ≤ℤ a

-- the least value of the place that is greater than a, if there is one
abbrev pub IsNextAt : List (List ℤ) → Term → ℤ → Option ℤ → Type 0
IsNextAt sets t a None = (b : ℤ) → PlaceHas sets t b → b ≤ℤ a
IsNextAt sets t a (Some next) = PlaceHas sets t next × (a <ℤ next) × ((b : ℤ) → PlaceHas sets t b → (b ≤ℤ a) ⊎ (next ≤ℤ b))

-- a alone may be taken out of the place
abbrev pub MayGoAt : List Variable → Term → List (List ℤ) → ℤ → Type 0
MayGoAt vars (Var v) sets a = MayGo (variable_at vars (number_of v)) (set_of sets (number_of v)) a
MayGoAt vars (Const k) sets a = Unit {0}
MayGoAt vars (Not v) sets a = MayGo (variable_at vars (number_of v)) (set_of sets (number_of v)) (pos 1 -ℤ a)

-- the sets, with those values alone at the place that pass the test. A constant's set never changes
abbrev pub kept_at : (ℤ → Bool) → Term → List (List ℤ) → List (List ℤ)
kept_at p (Var v) sets = kept p (number_of v) sets
kept_at p (Const k) sets = sets
kept_at p (Not v) sets = kept (λ b. p (pos 1 -ℤ b)) (number_of v) sets

-- some value of the place passes the test, and none does
pub record SomePasses (p : ℤ → Bool) (t : Term) (sets : List (List ℤ)) : Type 0 where
  pub value : ℤ
  pub there : PlaceHas sets t value
  pub passes : p value ≡ true

abbrev pub NonePasses : (ℤ → Bool) → Term → List (List ℤ) → Type 0
NonePasses p t sets = (a : ℤ) → PlaceHas sets t a → p a ≡ false

-- the mark says whether values went: where it isn't set now it wasn't before and none did, and where it is set it was before
-- or some did
abbrev pub Notes : Bool → Context → Context → Type 0
Notes false old new = (old.moved ≡ false) × (box_of new ≡ box_of old)
Notes true old new = (old.moved ≡ true) ⊎ (count_of (box_of new) < count_of (box_of old))

-- the values of the place that pass the test stay, of which there is one, and nothing else changed
pub record IsChange (p : ℤ → Bool) (t : Term) (old new : Context) : Type 0 where
  pub some : SomePasses p t (box_of old)
  pub is : new ≡ with_box old (kept_at p t (box_of old)) new.moved
  pub boxes : IsBox (vars_of new) (box_of new)
  pub noted : Notes new.moved old new

-- the values that pass the test stay; where none does nothing changes
abbrev pub ChangedAt : (ℤ → Bool) → Term → Context → Context → Result (Unit {0}) Fail → Type 0
ChangedAt p t old new (Ok done) = IsChange p t old new
ChangedAt p t old new (Err fail) = NonePasses p t (box_of old) × (new ≡ old)

-- turned is 1 - a; or that is greater than all values of a model, and so is turned
abbrev pub IsTurned : ℤ → ℤ → Type 0
IsTurned a turned = (turned ≡ (pos 1 -ℤ a)) ⊎ ((VALUE <ℤ turned) × (VALUE <ℤ (pos 1 -ℤ a)))

-- it is noted if a value went
abbrev pub noted_if : Bool → Bool → Bool
noted_if true before = true
noted_if false before = before

-- what is answered of a change of a variable's set, and of a constant that stays or doesn't
abbrev pub IsAnswer : Result Moved Emptied → Bool → Bool → Result (Unit {0}) Fail → Type 0
IsAnswer (Ok moved) before now (Ok done) = now ≡ noted_if moved.any before
IsAnswer (Ok moved) before now (Err fail) = ⊥
IsAnswer (Err emptied) before now (Ok done) = ⊥
IsAnswer (Err emptied) before now (Err fail) = now ≡ before

abbrev pub IsAnswerIf : Bool → Result (Unit {0}) Fail → Type 0
IsAnswerIf stays (Ok done) = stays ≡ true
IsAnswerIf stays (Err fail) = stays ≡ false
