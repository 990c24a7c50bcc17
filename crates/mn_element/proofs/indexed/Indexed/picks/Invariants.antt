use Rattle.std.proofs.Common.{pos}
use Rattle.std.specs.Int.{int_gap}
use Rattle.mn_prop.specs.Contexts.{box_of}
use Rattle.mn_element.specs.Elements.{first_index}
use Rattle.mn_element.specs.Picks.{PicksAt}
use Rattle.mn_element.proofs.Looking.{NoneBelow}
use Rattle.mn_element.proofs.indexed.Indexed.picks.Given as goal

-- the entry at no lesser index is picked
abbrev pub invariant-loop-wanted : goal.invariant-loop-wanted
invariant-loop-wanted l = NoneBelow (box_of l.c) l.self.x (PicksAt (box_of l.c) (first_index l.self.form) l.self.v.now l.self.y l.wanted) l.i

abbrev pub decreases-loop-wanted : goal.decreases-loop-wanted
decreases-loop-wanted l = int_gap l.i (pos 9223372036854775807)
