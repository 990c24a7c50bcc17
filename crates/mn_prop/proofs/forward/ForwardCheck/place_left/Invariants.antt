use Rattle.mn_prop.specs.Contexts.{box_of}
use Rattle.mn_prop.proofs.Alone.{AloneBefore}
use Rattle.mn_prop.proofs.forward.ForwardCheck.place_left.Given as goal

-- the places so far other than the first have one value alone, and so does the first
abbrev pub invariant-loop-j : goal.invariant-loop-j
invariant-loop-j l = AloneBefore l.self.terms.items l.j 0 (box_of l.c)
