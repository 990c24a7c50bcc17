use Rattle.mn_count.proofs.Tightening.{KeepsTo}
use Rattle.mn_count.proofs.occurrence.Occurrence.keep_all.Given as goal

-- the value is alone at the entries so far that have it
abbrev pub invariant-loop-i : goal.invariant-loop-i
invariant-loop-i l = KeepsTo l.self.inst.now.tuples l.self.v.now l.self.k l.self.amount l.initial.c l.c l.i
