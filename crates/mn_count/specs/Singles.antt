-- Values that places have alone, and that others then can't have.
use Rattle.std.specs.Prelude.{◌≡◌, ◌≢◌, ℕ, ℤ, List, slice_get, Some}
use Rattle.mn_model.specs.declared.constraint.Term.{Term}
use Rattle.mn_boxes.specs.Sets.{Variable}
use Rattle.mn_closure.specs.Closed.{Asked, IsAlone}
use Rattle.mn_closure.specs.Levels.{Arc}

-- each value of the place that has to be supported is P; and one value of one place
abbrev pub EachAsked : List Variable → Term → (ℤ → Type 0) → List (List ℤ) → Type 0
EachAsked vars t P box = (a : ℤ) → Asked Arc vars box t a → P a

abbrev pub ThatAt : Term → ℤ → List (List ℤ) → Term → ℤ → Type 0
ThatAt t a box u b = (u ≡ t) × (b ≡ a)

-- no value of place j that has to be supported is a, if j is another place than i
abbrev pub IsGoneFrom : List Variable → List Term → ℕ → ℤ → ℕ → List (List ℤ) → Type 0
IsGoneFrom vars v i a j box = (u : Term) → slice_get v j ≡ Some u → j ≢ i → EachAsked vars u (λ b. b ≢ a) box

-- the value that place i has alone is gone from each other place
abbrev pub IsSpread : List Variable → List Term → ℕ → List (List ℤ) → Type 0
IsSpread vars v i box = (t : Term) (a : ℤ) → slice_get v i ≡ Some t → IsAlone box t a → (j : ℕ) → IsGoneFrom vars v i a j box
