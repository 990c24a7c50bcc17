use Rattle.std.proofs.Common.{pos}
use Rattle.std.specs.Int.{int_gap}
use Rattle.mn_prop.specs.Contexts.{box_of}
use Rattle.mn_element.specs.Elements.{first_index}
use Rattle.mn_element.proofs.Gathering.{LookedTo}
use Rattle.mn_element.proofs.gathered.Picked.look_at_all.Given as goal

-- the indices up to i were looked at
abbrev pub invariant-loop-next : goal.invariant-loop-next
invariant-loop-next l = LookedTo (box_of l.c) (first_index l.of.form) l.of.v.now l.of.x l.of.y l.i l.self

abbrev pub decreases-loop-next : goal.decreases-loop-next
decreases-loop-next l = int_gap l.i (pos 9223372036854775807)
