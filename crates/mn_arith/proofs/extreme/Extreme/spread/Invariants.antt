use Rattle.mn_prop.specs.Contexts.{box_of}
use Rattle.mn_arith.proofs.Spreading.{SpreadTo}
use Rattle.mn_arith.proofs.extreme.Extreme.spread.Given as goal

abbrev pub invariant-loop-t : goal.invariant-loop-t
invariant-loop-t l = SpreadTo l.self.greatest l.self.terms.now (box_of l.c) l.t-index l.near l.far
