use Rattle.mn_basic.proofs.Reached.{Remains}
use Rattle.mn_basic.proofs.numbers.raised_past.Given as goal

abbrev pub invariant-loop-k : goal.invariant-loop-k
invariant-loop-k l = Remains l.ks l.fn.own l.span
