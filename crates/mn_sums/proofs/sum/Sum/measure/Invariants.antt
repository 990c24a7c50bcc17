use Rattle.mn_prop.specs.Contexts.{box_of}
use Rattle.mn_sums.proofs.Measuring.{MeasuredTo}
use Rattle.mn_sums.proofs.sum.Sum.measure.Given as goal

abbrev pub invariant-loop-p : goal.invariant-loop-p
invariant-loop-p l = MeasuredTo (box_of l.c) l.self.parts.items l.p-index l.least l.widest
