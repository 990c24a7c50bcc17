-- Which values of a place are between two ends.
use Rattle.std.specs.Prelude.{IsTrue, ℤ, ◌<ℤ◌, ◌≤ℤ◌, ◌⊎◌, List, Option, Some, None}
use Rattle.mn_model.specs.declared.constraint.Term.{Term}
use Rattle.mn_boxes.specs.Places.{PlaceHas}
use Rattle.mn_boxes.specs.Values.{Values, members}

abbrev pub IsBetween : ℤ → ℤ → ℤ → Type 0
IsBetween lo hi a = (lo ≤ℤ a) × (a ≤ℤ hi)

-- all values of the place are
abbrev pub Spans : List (List ℤ) → ℤ → ℤ → Term → Type 0
Spans box lo hi t = (a : ℤ) → PlaceHas box t a → IsBetween lo hi a

-- the least value of the place that is greater than a, if there is one up to hi
abbrev pub IsNextBefore : List (List ℤ) → Term → ℤ → ℤ → Option ℤ → Type 0
IsNextBefore box t hi a None = (b : ℤ) → PlaceHas box t b → a <ℤ b → b ≤ℤ hi → ⊥
IsNextBefore box t hi a (Some next) = PlaceHas box t next × (a <ℤ next) × (next ≤ℤ hi) × ((b : ℤ) → PlaceHas box t b → (b ≤ℤ a) ⊎ (next ≤ℤ b))

-- the set has all values of the place
abbrev pub HasAllOf : List (List ℤ) → Term → Values → Type 0
HasAllOf box t values = (a : ℤ) → PlaceHas box t a → IsTrue (members values a)
