use Rattle.mn_count.proofs.Spread.{SpreadTo}
use Rattle.mn_count.proofs.alldiff.Alldiff.spread.Given as goal

-- the value is gone from the other places so far
abbrev pub invariant-loop-j : goal.invariant-loop-j
invariant-loop-j l = SpreadTo l.self.v.now l.self.inst.now.tuples l.i l.a l.initial.c l.c l.j
