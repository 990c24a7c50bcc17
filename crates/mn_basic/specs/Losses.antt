-- The values that propagators of two places and of one let go.
use Rattle.std.specs.Prelude.{◌≡◌, ℤ, List}
use Rattle.mn_model.specs.declared.constraint.Term.{Term}

-- one value of one place
abbrev pub ThatAt : Term → ℤ → List (List ℤ) → Term → ℤ → Type 0
ThatAt t a box u b = (u ≡ t) × (b ≡ a)
