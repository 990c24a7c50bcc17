use Rattle.std.specs.Int.{int_gap}
use Rattle.mn_prop.specs.Contexts.{box_of}
use Rattle.mn_prop.proofs.Trying.{Tried}
use Rattle.mn_prop.proofs.context.Ctx.next_turned.Given as goal

abbrev pub invariant-loop-v : goal.invariant-loop-v
invariant-loop-v l = Tried (box_of l.self) l.v l.a l.b l.hi

abbrev pub decreases-loop-v : goal.decreases-loop-v
decreases-loop-v l = int_gap l.b l.hi
