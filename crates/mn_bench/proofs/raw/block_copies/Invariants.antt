use Rattle.std.proofs.Common.{◌≡◌, []}
use Rattle.mn_bench.proofs.raw.block_copies.Given as goal

abbrev pub invariant-loop : goal.invariant-loop
invariant-loop l = l.stack ≡ []
