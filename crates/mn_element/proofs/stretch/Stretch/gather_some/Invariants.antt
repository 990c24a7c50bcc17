use Rattle.std.proofs.Common.{pos}
use Rattle.std.specs.Int.{int_gap}
use Rattle.mn_prop.specs.Contexts.{box_of}
use Rattle.mn_element.proofs.Filling.{FilledTo}
use Rattle.mn_element.proofs.stretch.Stretch.gather_some.Given as goal

-- the values up to a are in the set
abbrev pub invariant-loop-next : goal.invariant-loop-next
invariant-loop-next l = FilledTo (box_of l.c) l.t l.fn.self l.self l.a

abbrev pub decreases-loop-next : goal.decreases-loop-next
decreases-loop-next l = int_gap l.a (pos 9223372036854775807)
