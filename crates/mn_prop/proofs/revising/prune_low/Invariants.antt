use Rattle.mn_boxes.specs.Boxes.{count_of}
use Rattle.mn_prop.specs.Contexts.{IsLeastAt, box_of}
use Rattle.mn_prop.specs.Losses.{Unsupported}
use Rattle.mn_prop.specs.Revising.{EndSupported}
use Rattle.mn_prop.proofs.Going.{Going}
use Rattle.mn_prop.proofs.revising.prune_low.Given as goal

abbrev pub invariant-loop-t : goal.invariant-loop-t
invariant-loop-t g l = Going (Unsupported (g.T.Scoped.posted l.tested)) (EndSupported IsLeastAt (g.T.Scoped.posted l.tested) l.i l.t) l.initial.c l.c

abbrev pub decreases-loop-t : goal.decreases-loop-t
decreases-loop-t g l = count_of (box_of l.c)
