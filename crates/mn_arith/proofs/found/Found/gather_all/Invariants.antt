use Rattle.mn_prop.specs.Contexts.{box_of}
use Rattle.mn_arith.specs.Finds.{IsFoundIn}
use Rattle.mn_arith.proofs.found.Found.gather_all.Given as goal

abbrev pub invariant-loop-t : goal.invariant-loop-t
invariant-loop-t l = IsFoundIn l.of.terms.now l.t-index (box_of l.c) l.self.set
