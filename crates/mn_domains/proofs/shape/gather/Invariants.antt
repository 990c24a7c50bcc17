use Rattle.std.specs.Int.{int_gap}
use Rattle.mn_domains.specs.Held.{values_held}
use Rattle.mn_domains.proofs.Sifted.{Gathered}
use Rattle.mn_domains.proofs.shape.gather.Given as goal

abbrev pub invariant-loop-value : goal.invariant-loop-value
invariant-loop-value l = Gathered (values_held l.listed l.bits l.shape l.ends) l.fn.into l.into l.value

abbrev pub decreases-loop-value : goal.decreases-loop-value
decreases-loop-value l = int_gap l.value l.ends.hi
