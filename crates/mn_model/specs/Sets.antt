-- Sets of values, one for each variable by its number.
use Rattle.std.specs.Prelude.{ℕ, ℤ, List, [], slice_index_or}

-- the set of a variable
abbrev pub set_of : List (List ℤ) → ℕ → List ℤ
set_of sets v = slice_index_or sets v []
