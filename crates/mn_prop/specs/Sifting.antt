-- What it does to a place to keep the values that pass a test, where they may go at the ends alone.
use Rattle.std.specs.Prelude.{◌≡◌, ℤ, pos, ◌⊎◌, Bool, true, cond, IsTrue, List, Result, Ok, Err}
use Rattle.std.specs.Ordering.{int_eq}
use Rattle.mn_model.specs.declared.constraint.Term.{Term}
use Rattle.mn_boxes.specs.Places.{IsPlaceEnd, PlaceHas, is_place_bounded}
use Rattle.mn_boxes.specs.Sets.{Variable}
use Rattle.mn_prop.specs.Contexts.{Context, IsChange, NonePasses, box_of, vars_of}
use Rattle.mn_prop.specs.declared.context.Fail.{Fail}

-- a is a value of the place, and could go: where values go at the ends alone it is an end
pub record MightGo (vars : List Variable) (box : List (List ℤ)) (t : Term) (a : ℤ) : Type 0 where
  pub there : PlaceHas box t a
  pub ends : IsTrue (is_place_bounded vars t) → IsPlaceEnd box t a

-- values went from the place and nothing else changed. What passes stayed, of which there is some, and each value that could
-- still go passes
pub record IsSift (p : ℤ → Bool) (t : Term) (old new : Context) : Type 0 where
  pub test : ℤ → Bool
  pub change : IsChange test t old new
  pub keeps : (a : ℤ) → PlaceHas (box_of old) t a → p a ≡ true → test a ≡ true
  pub passes : (a : ℤ) → MightGo (vars_of old) (box_of new) t a → p a ≡ true

-- the place has no values but 0 and 1
abbrev pub HasBits : Term → List (List ℤ) → Type 0
HasBits t sets = (a : ℤ) → PlaceHas sets t a → (a ≡ pos 0) ⊎ (a ≡ pos 1)

-- the test of 0 and 1, each of which passes or doesn't. Other numbers pass as 1 does
abbrev pub bits_test : Bool → Bool → ℤ → Bool
bits_test zero_passes one_passes a = cond (int_eq a (pos 0)) zero_passes one_passes

-- so it is where some value passes. Where none does nothing changes
abbrev pub IsSifted : (ℤ → Bool) → Term → Context → Context → Result (Unit {0}) Fail → Type 0
IsSifted p t old new (Ok done) = IsSift p t old new
IsSifted p t old new (Err fail) = NonePasses p t (box_of old) × (new ≡ old)
