use Rattle.std.proofs.Common.{◌≡◌, length}
use Rattle.mn_bench.proofs.raw.moves.Given as goal

abbrev pub invariant-loop : goal.invariant-loop
invariant-loop l = (l.lists.triggers ≡ 65536) × (length l.lists.lists ≡ 16384)
