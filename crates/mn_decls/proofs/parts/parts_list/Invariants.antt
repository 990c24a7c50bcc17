use Rattle.std.proofs.Common.{◌≡◌, ◌≤◌, length}
use Rattle.mn_model.specs.declared.limits.TheConstants.{SPAN}
use Rattle.mn_cursor.specs.Progress.{rest, Moves}
use Rattle.mn_decls.specs.Variables.{parts_list_at}
use Rattle.mn_decls.proofs.VariableSteps.{parts_from}
use Rattle.mn_decls.proofs.parts.parts_list.Given as goal

abbrev pub invariant-loop-values : goal.invariant-loop-values
invariant-loop-values l =
    (parts_from l.values (rest l.c) ≡ parts_list_at (rest l.fn.c)) × Moves l.fn.c l.c × (length l.values ≤ SPAN)

abbrev pub decreases-loop-values : goal.decreases-loop-values
decreases-loop-values l = length (rest l.c)
