-- The values that were gathered of places.
use Rattle.std.specs.Prelude.{◌≡◌, ◌↔◌, ◌<◌, ℕ, ℤ, ◌≤ℤ◌, IsTrue, List, slice_get, Some}
use Rattle.mn_model.specs.declared.constraint.Term.{Term}
use Rattle.mn_boxes.specs.Places.{PlaceHas}
use Rattle.mn_boxes.specs.Values.{Values, members}

-- all values of the place are between two numbers
abbrev pub Spans : List (List ℤ) → ℤ → ℤ → Term → Type 0
Spans box lo hi t = (a : ℤ) → PlaceHas box t a → (lo ≤ℤ a) × (a ≤ℤ hi)

-- a is a value of one of the first n places
pub record HasFirst (v : List Term) (n : ℕ) (box : List (List ℤ)) (a : ℤ) : Type 0 where
  pub place : ℕ
  pub term : Term
  pub below : place < n
  pub stands : slice_get v place ≡ Some term
  pub there : PlaceHas box term a

-- the set has those values and no others
abbrev pub IsFoundIn : List Term → ℕ → List (List ℤ) → Values → Type 0
IsFoundIn v n box set = (a : ℤ) → IsTrue (members set a) ↔ HasFirst v n box a
