-- Places of two vectors that differ, and how many can.
use Rattle.std.specs.Prelude.{◌≡◌, ◌≢◌, ℕ, ◌+◌, ℤ, pos, ◌<ℤ◌, ◌⊎◌, Bool, ◌&&◌, if◌then◌else◌, List, [], ◌∷◌}
use Rattle.std.specs.Ordering.{int_eq}
use Rattle.mn_model.specs.declared.constraint.Term.{Term}
use Rattle.mn_boxes.specs.Places.{PlaceHas}
use Rattle.mn_boxes.specs.Sets.{Variable}
use Rattle.mn_closure.specs.Closed.{Asked, IsAlone}
use Rattle.mn_closure.specs.Levels.{Arc}
use Rattle.mn_prop.specs.Contexts.{place_hi, place_lo}

-- two places have values that differ
pub record CanDiffer (box : List (List ℤ)) (x y : Term) : Type 0 where
  pub first : ℤ
  pub second : ℤ
  pub has_first : PlaceHas box x first
  pub has_second : PlaceHas box y second
  pub differ : first ≢ second

-- whether two places have one value, the same, by their ends; and how many pairs of places don't
abbrev pub is_one : List (List ℤ) → Term → Term → Bool
is_one box x y = int_eq (place_lo box x) (place_hi box y) && int_eq (place_hi box x) (place_lo box y)

abbrev pub open_pairs : List (List ℤ) → List Term → List Term → ℕ
open_pairs box [] w = 0
open_pairs box (x ∷ v) [] = 0
open_pairs box (x ∷ v) (y ∷ w) = (if is_one box x y then 0 else 1) + open_pairs box v w

-- the number of pairs that don't, or some number above the one that is asked for, where there are as many at least
abbrev pub IsCountedTo : ℤ → List (List ℤ) → List Term → List Term → ℤ → Type 0
IsCountedTo least box v w count = (count ≡ pos (open_pairs box v w)) ⊎ ((least <ℤ count) × (least <ℤ pos (open_pairs box v w)))

-- each value of x that has to be supported differs from some value of y, and each of y from some of x
abbrev pub AreParted : List Variable → Term → Term → List (List ℤ) → Type 0
AreParted vars x y box =
    ((a : ℤ) → Asked Arc vars box x a → (b : ℤ) × PlaceHas box y b × (a ≢ b)) × ((b : ℤ) → Asked Arc vars box y b → (a : ℤ) × PlaceHas box x a × (a ≢ b))

-- a value of one of the places that the other has alone
abbrev pub IsSharedIn : Term → Term → List (List ℤ) → Term → ℤ → Type 0
IsSharedIn x y box t a = ((t ≡ y) × IsAlone box x a) ⊎ ((t ≡ x) × IsAlone box y a)
