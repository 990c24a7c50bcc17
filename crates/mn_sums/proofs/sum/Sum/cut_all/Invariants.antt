use Rattle.mn_sums.proofs.Measuring.{CutTo}
use Rattle.mn_sums.proofs.sum.Sum.cut_all.Given as goal

abbrev pub invariant-loop-p : goal.invariant-loop-p
invariant-loop-p l = CutTo l.self.inst.now.tuples l.self.con.now l.self.parts.items l.self.bound l.initial.c l.c l.p-index
