-- What a step of propagation owes: it takes values alone, keeps every box that has a property, and finds none where it fails.
use Rattle.std.specs.Prelude.{◌≡◌, ℤ, ◌≤ℤ◌, Bool, true, List, OnErr, OnOk, Result}
use Rattle.mn_model.specs.declared.constraint.Term.{Term}
use Rattle.mn_boxes.specs.Boxes.{IsBox, Inside}
use Rattle.mn_boxes.specs.Places.{PlaceHas}
use Rattle.mn_boxes.specs.Sets.{Variable}
use Rattle.mn_prop.specs.Contexts.{Context, box_of, vars_of, with_box}
use Rattle.mn_prop.specs.Losses.{Loses}
use Rattle.mn_prop.specs.declared.context.Fail.{Fail}

-- values may be gone, what is left is a box again, and nothing else changed
pub record OnlyTakes (old new : Context) : Type 0 where
  pub frame : new ≡ with_box old (box_of new) new.moved
  pub boxes : IsBox (vars_of old) (box_of old) → IsBox (vars_of new) (box_of new)
  pub inside : Inside (box_of new) (box_of old)

-- each box inside the old sets that has the property is inside the new ones
abbrev pub Keeps : List Variable → (List (List ℤ) → Type 0) → List (List ℤ) → List (List ℤ) → Type 0
Keeps vars P old new = (box : List (List ℤ)) → IsBox vars box → Inside box old → P box → Inside box new

-- no box inside the sets has it
abbrev pub NoneHas : List Variable → (List (List ℤ) → Type 0) → List (List ℤ) → Type 0
NoneHas vars P sets = (box : List (List ℤ)) → IsBox vars box → Inside box sets → P box → ⊥

-- a step towards the boxes that have a property: each value that it takes is one that the rule lets go, each box with the
-- property stays, it fails only where there is none, and where no value went the sets have the property
pub record IsStep (Rule : List (List ℤ) → Term → ℤ → Type 0) (P : List (List ℤ) → Type 0) (old new : Context) (result : Result (Unit {0}) Fail) : Type 0 where
  pub loses : Loses Rule old new
  pub sound : OnOk result (Keeps (vars_of old) P (box_of old) (box_of new))
  pub fail : OnErr result (NoneHas (vars_of old) P (box_of old))
  pub still : OnOk result (box_of new ≡ box_of old → P (box_of old))

-- the same of one that may leave more to be taken
pub record Narrows (Rule : List (List ℤ) → Term → ℤ → Type 0) (P : List (List ℤ) → Type 0) (old new : Context) (result : Result (Unit {0}) Fail) : Type 0 where
  pub loses : Loses Rule old new
  pub sound : OnOk result (Keeps (vars_of old) P (box_of old) (box_of new))
  pub fail : OnErr result (NoneHas (vars_of old) P (box_of old))

-- properties of a box that a step may be towards: all values of a place pass a test, or are at least or at most a number
abbrev pub AllPass : (ℤ → Bool) → Term → List (List ℤ) → Type 0
AllPass p t box = (a : ℤ) → PlaceHas box t a → p a ≡ true

abbrev pub AtLeastAt : Term → ℤ → List (List ℤ) → Type 0
AtLeastAt t bound box = (a : ℤ) → PlaceHas box t a → bound ≤ℤ a

abbrev pub AtMostAt : Term → ℤ → List (List ℤ) → Type 0
AtMostAt t bound box = (a : ℤ) → PlaceHas box t a → a ≤ℤ bound
