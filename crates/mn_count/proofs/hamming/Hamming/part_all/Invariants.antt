use Rattle.mn_count.proofs.Apart.{PartedTo}
use Rattle.mn_count.proofs.hamming.Hamming.part_all.Given as goal

abbrev pub invariant-loop-i : goal.invariant-loop-i
invariant-loop-i l = PartedTo l.self.v.now l.self.w.now l.self.least l.self.inst.now.tuples l.initial.c l.c l.i
