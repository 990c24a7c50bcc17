-- A variable is its number in order of declaration, from 0.
use Rattle.std.specs.Prelude.{ℕ}
use Rattle.mn_model.specs.declared.variable.VarId.{VarId}

abbrev pub number_of : VarId → ℕ
number_of v = v.0

-- the variable with the number
abbrev pub variable : ℕ → VarId
variable n = record { 0 = n }
