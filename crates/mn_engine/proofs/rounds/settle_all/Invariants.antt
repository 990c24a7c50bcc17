use Rattle.std.proofs.Common.{map}
use Rattle.mn_boxes.specs.Boxes.{count_of}
use Rattle.mn_prop.specs.Contexts.{box_of}
use Rattle.mn_engine.proofs.Rounding.{Rounds}
use Rattle.mn_engine.proofs.rounds.settle_all.Given as goal

abbrev pub invariant-loop-last : goal.invariant-loop-last
invariant-loop-last g l = Rounds l.back (map g.P.Scoped.posted l.initial.runners.items) (map g.P.Scoped.posted l.runners.items) l.initial.c l.c l.closed

abbrev pub decreases-loop-last : goal.decreases-loop-last
decreases-loop-last g l = count_of (box_of l.c)
