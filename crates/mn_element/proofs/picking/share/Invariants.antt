use Rattle.std.proofs.Common.{pos}
use Rattle.std.specs.Int.{int_gap}
use Rattle.mn_boxes.specs.Places.{PlaceHas}
use Rattle.mn_prop.specs.Contexts.{box_of}
use Rattle.mn_element.proofs.Looking.{NoneBelow}
use Rattle.mn_element.proofs.picking.share.Given as goal

-- no lesser value of the first place is one of the second
abbrev pub invariant-loop-t : goal.invariant-loop-t
invariant-loop-t l = NoneBelow (box_of l.c) l.t (PlaceHas (box_of l.c) l.u) l.a

abbrev pub decreases-loop-t : goal.decreases-loop-t
decreases-loop-t l = int_gap l.a (pos 9223372036854775807)
