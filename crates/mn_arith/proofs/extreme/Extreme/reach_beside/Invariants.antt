use Rattle.mn_prop.specs.Contexts.{box_of}
use Rattle.mn_arith.proofs.Sharing.{ReachTo}
use Rattle.mn_arith.proofs.extreme.Extreme.reach_beside.Given as goal

abbrev pub invariant-loop-j : goal.invariant-loop-j
invariant-loop-j l = ReachTo l.self.terms.now l.i l.a l.self.greatest (box_of l.c) l.j l.reach
