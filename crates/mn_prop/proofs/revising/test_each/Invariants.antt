use Rattle.std.proofs.Common.{pos}
use Rattle.std.specs.Int.{int_gap}
use Rattle.mn_prop.proofs.Revisions.{TestedBelow}
use Rattle.mn_prop.proofs.revising.test_each.Given as goal

abbrev pub invariant-loop-c : goal.invariant-loop-c
invariant-loop-c g l = TestedBelow (g.T.Scoped.posted l.tested) l.i l.t l.initial.c l.c l.a

-- how many numbers of a word are greater
abbrev pub decreases-loop-c : goal.decreases-loop-c
decreases-loop-c g l = int_gap l.a (pos 9223372036854775807)
