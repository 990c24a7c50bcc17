use Rattle.mn_basic.proofs.Reached.{Reaches}
use Rattle.mn_basic.proofs.numbers.reach_of.Given as goal

-- the numbers so far are in the span
abbrev pub invariant-loop-k : goal.invariant-loop-k
invariant-loop-k l = Reaches l.ks l.k-index l.own l.span
