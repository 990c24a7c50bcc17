-- Intervals of numbers.
use Rattle.std.specs.Prelude.{◌≡◌, ℤ, negsuc, ◌≤ℤ◌, ◌<ℤ◌, List}
use Rattle.mn_model.specs.declared.constraint.Term.{Term}
use Rattle.mn_boxes.specs.Places.{PlaceHas}
use Rattle.mn_basic.specs.declared.interval.Interval.{Interval}

-- a is in the interval
abbrev pub IsIn : Interval → ℤ → Type 0
IsIn s a = (s.lo ≤ℤ a) × (a ≤ℤ s.hi)

-- each value of the place is in the interval
abbrev pub AllIn : Interval → Term → List (List ℤ) → Type 0
AllIn s t box = (a : ℤ) → PlaceHas box t a → IsIn s a

-- a value of one place that isn't
abbrev pub OutOf : Interval → Term → List (List ℤ) → Term → ℤ → Type 0
OutOf s t box u a = (u ≡ t) × (IsIn s a → ⊥)

-- its ends have a number on the other side of 0
abbrev pub IsSmall : Interval → Type 0
IsSmall s = (negsuc 9223372036854775807 <ℤ s.lo) × (negsuc 9223372036854775807 <ℤ s.hi)
