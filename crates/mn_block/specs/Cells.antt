-- Raw words: who may free them, and what they end as when all of them were lent.
use Rattle.std.specs.Prelude.{◌≡◌, ℕ, List, Option}
use Rattle.std.specs.Borrow.{Array, Fml, Lends, MutBor, u64}
use Rattle.std.specs.List.{refill, length_refill}
use Rattle.std.specs.Option.{ForSome}
use Rattle.std.specs.declared.alloc.Global.{Global}
use Rattle.mn_block.specs.declared.cells.Cells.{Cells}
use Rattle.mn_block.specs.declared.cells.Lease.{Lease}
use Rattle.mn_block.specs.contracts.cells.Cells.{the_row}

-- a lease is the right to free these cells by this allocator
abbrev pub IsLeased : Cells → Option (Lease Global) → Global → Type 0
IsLeased c lease alloc = ForSome lease (λ l. (l.alloc ≡ alloc) × (l.ptr ≡ c.ptr) × (l.len ≡ c.len))

-- the cells with the words ws in place of theirs, which are as many
abbrev pub with_words : Cells → List ℕ → Cells
with_words c ws = record c { words = refill c.len c.words ws; fits = (length_refill c.len c.words ws c.fits.0, c.fits.1) }

-- the cells end with what is last written through the slice
abbrev pub LendsCells : MutBor Cells → MutBor (List ℕ) → Fml
LendsCells c r = Lends the_row (Array u64 0) c r (with_words c.now)
