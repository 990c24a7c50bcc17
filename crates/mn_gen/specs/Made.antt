-- What is answered where an instance is to be made.
use Rattle.std.specs.Prelude.{◌≡◌, ℕ, ◌≤◌, Result, Ok, Err}
use Rattle.mn_model.specs.Problem.{Problem}
use Rattle.mn_gen.specs.Generated.{generated}
use Rattle.mn_gen.specs.declared.kind.GenKind.{GenKind}
use Rattle.mn_gen.specs.declared.fault.GenFault.{GenFault}
use Rattle.mn_gen.specs.declared.fault.GenFault.TheVariants.{Size, NoMemory}
use Rattle.mn_gen.specs.declared.fault.TheConstants.{GREATEST_SIZE}

-- there are instances of this size
abbrev pub IsSize : ℕ → Type 0
IsSize n = (1 ≤ n) × (n ≤ GREATEST_SIZE)

-- the instance of that kind, seed and size, where there are instances of the size. Else the answer is that size; and memory
-- is wanted only where there are
abbrev pub IsMade : GenKind → ℕ → ℕ → Result Problem GenFault → Type 0
IsMade kind seed n (Ok made) = IsSize n × (made ≡ generated kind seed n)
IsMade kind seed n (Err (Size m)) = (IsSize n → ⊥) × (m ≡ n)
IsMade kind seed n (Err NoMemory) = IsSize n
