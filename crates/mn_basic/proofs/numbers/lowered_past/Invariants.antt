use Rattle.mn_basic.proofs.Reached.{Lowers}
use Rattle.mn_basic.proofs.numbers.lowered_past.Given as goal

abbrev pub invariant-loop-k : goal.invariant-loop-k
invariant-loop-k l = Lowers l.ks l.k-iterator.iter.rest.now l.fn.own l.span
