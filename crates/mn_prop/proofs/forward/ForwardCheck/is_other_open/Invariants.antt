use Rattle.mn_prop.specs.Contexts.{box_of}
use Rattle.mn_prop.proofs.Alone.{AloneBefore}
use Rattle.mn_prop.proofs.forward.ForwardCheck.is_other_open.Given as goal

-- the places so far other than i have one value alone
abbrev pub invariant-loop-j : goal.invariant-loop-j
invariant-loop-j l = AloneBefore l.self.terms.items l.j l.i (box_of l.c)
