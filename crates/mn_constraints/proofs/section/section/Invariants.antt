use Rattle.std.proofs.Common.{◌≡◌, length}
use Rattle.mn_cursor.specs.Progress.{rest, GoesOn}
use Rattle.mn_language.specs.Constructing.{constraints_at}
use Rattle.mn_constraints.proofs.section.section.Given as goal

-- the reader answers the same at the rest as at the start
abbrev pub invariant-loop-c : goal.invariant-loop-c
invariant-loop-c l = (constraints_at l.c.problem (rest l.c) ≡ constraints_at l.fn.c.problem (rest l.fn.c)) × GoesOn l.fn.c l.c

abbrev pub decreases-loop-c : goal.decreases-loop-c
decreases-loop-c l = length (rest l.c)
