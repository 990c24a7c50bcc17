-- Counts of faults. A count never falls, and stands still at its greatest value.
use Rattle.std.specs.Prelude.{ℕ, ◌<◌, ◌≤◌, List}

-- where a count of faults stands still: the greatest number of 64 bits
abbrev pub greatest_count : ℕ
greatest_count = 18446744073709551615

-- A count rose between two moments: it is greater than before, or stands at its greatest value.
abbrev pub HasRisen : ℕ → ℕ → Type 0
HasRisen before after = after < greatest_count → before < after

-- Of the counts that each name has, none fell.
abbrev pub NoneFell : (List ℕ → ℕ) → (List ℕ → ℕ) → Type 0
NoneFell before after = (name : List ℕ) → before name ≤ after name
