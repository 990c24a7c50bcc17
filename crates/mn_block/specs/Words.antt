-- What a row of words ends as when all of it was lent.
use Rattle.std.specs.Prelude.{ℕ, List, length}
use Rattle.std.specs.Borrow.{Array, Fml, Lends, MutBor, u64}
use Rattle.std.specs.List.{refill}
use Rattle.mn_block.specs.contracts.words.Words.{the_row}

-- the row ends with what is last written through the slice
abbrev pub LendsWords : MutBor (List ℕ) → MutBor (List ℕ) → Fml
LendsWords w r = Lends the_row (Array u64 0) w r (refill (length w.now) w.now)
