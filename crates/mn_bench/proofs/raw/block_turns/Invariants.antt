use Rattle.std.proofs.Common.{◌≡◌, length}
use Rattle.mn_bench.proofs.raw.block_turns.Given as goal

abbrev pub invariant-loop-turn : goal.invariant-loop-turn
invariant-loop-turn l = (length l.block ≡ 8192) × (l.place.first ≡ 0)
