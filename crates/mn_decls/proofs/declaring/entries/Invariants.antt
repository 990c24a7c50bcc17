use Rattle.std.proofs.Common.{◌≡◌, length}
use Rattle.mn_cursor.specs.Progress.{rest, GoesOn}
use Rattle.mn_decls.specs.Variables.{entries_at, variables_at}
use Rattle.mn_decls.proofs.declaring.entries.Given as goal

abbrev pub invariant-loop-next : goal.invariant-loop-next
invariant-loop-next l =
    (entries_at (record { problem = l.c.problem; behind = l.behind }) (rest l.c) ≡ variables_at l.fn.c.problem (rest l.fn.c))
    × GoesOn l.fn.c l.c

abbrev pub decreases-loop-next : goal.decreases-loop-next
decreases-loop-next l = length (rest l.c)
