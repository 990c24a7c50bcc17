use Rattle.std.proofs.Common.{◌≡◌, length}
use Rattle.mn_cursor.specs.Progress.{rest, GoesOn}
use Rattle.mn_decls.specs.TupleLists.{tuplelist_at}
use Rattle.mn_decls.proofs.tuplelists.lists.Given as goal

abbrev pub invariant-loop-name : goal.invariant-loop-name
invariant-loop-name l = (tuplelist_at l.c.problem (rest l.c) ≡ tuplelist_at l.fn.c.problem (rest l.fn.c)) × GoesOn l.fn.c l.c

abbrev pub decreases-loop-name : goal.decreases-loop-name
decreases-loop-name l = length (rest l.c)
