use Rattle.std.proofs.Common.{◌<◌, ◌≤◌, ℕ, ◌≤ℤ◌, length}
use Rattle.mn_meaning.specs.Meaning.{at}
use Rattle.mn_table.proofs.room.greatest.Given as goal

-- none of those before is greater
abbrev pub invariant-loop-i : goal.invariant-loop-i
invariant-loop-i l = record {
  within : l.i ≤ length l.cells;
  so_far : (k : ℕ) → k < l.i → at l.cells k ≤ℤ l.hi;
}
