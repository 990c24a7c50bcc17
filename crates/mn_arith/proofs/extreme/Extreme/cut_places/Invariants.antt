use Rattle.mn_arith.proofs.Spreading.{CutTo}
use Rattle.mn_arith.proofs.extreme.Extreme.cut_places.Given as goal

abbrev pub invariant-loop-t : goal.invariant-loop-t
invariant-loop-t l = CutTo l.self.greatest l.self.terms.now l.self.x l.self.inst.now.tuples l.far l.t-index l.initial.c l.c
