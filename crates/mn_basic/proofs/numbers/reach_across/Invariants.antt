use Rattle.std.proofs.Common.{length}
use Rattle.mn_basic.proofs.Reached.{Crosses}
use Rattle.mn_basic.proofs.numbers.reach_across.Given as goal

abbrev pub invariant-loop-rest : goal.invariant-loop-rest
invariant-loop-rest l = Crosses l.ends l.rest l.own l.span

abbrev pub decreases-loop-rest : goal.decreases-loop-rest
decreases-loop-rest l = length l.rest
