use Rattle.mn_prop.proofs.Revisions.{RevisedTo}
use Rattle.mn_prop.proofs.revising.revise_all.Given as goal

abbrev pub invariant-loop-i : goal.invariant-loop-i
invariant-loop-i g l = RevisedTo (g.T.Scoped.posted l.tested) l.initial.c l.c l.i
