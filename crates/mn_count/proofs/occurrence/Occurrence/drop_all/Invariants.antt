use Rattle.mn_count.proofs.Tightening.{DropsTo}
use Rattle.mn_count.proofs.occurrence.Occurrence.drop_all.Given as goal

-- the value is gone from the entries so far that have others
abbrev pub invariant-loop-i : goal.invariant-loop-i
invariant-loop-i l = DropsTo l.self.inst.now.tuples l.self.v.now l.self.k l.self.amount l.initial.c l.c l.i
