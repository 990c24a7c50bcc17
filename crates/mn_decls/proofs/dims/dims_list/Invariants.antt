use Rattle.std.proofs.Common.{◌≡◌, ◌+◌, ◌≤◌, length}
use Rattle.std.specs.List.{AllByRecursion}
use Rattle.mn_model.specs.Problem.{size_of_dims, variable_count}
use Rattle.mn_model.specs.declared.limits.TheConstants.{VARIABLES}
use Rattle.mn_cursor.specs.Progress.{rest, Moves}
use Rattle.mn_decls.specs.Variables.{dims_list_at}
use Rattle.mn_decls.proofs.VariableSteps.{dims_from}
use Rattle.mn_decls.proofs.dims.dims_list.Given as goal

abbrev pub invariant-loop-shape : goal.invariant-loop-shape
invariant-loop-shape l =
    (dims_from l.fn.c.problem l.shape (rest l.c) ≡ dims_list_at l.fn.c.problem (rest l.fn.c))
    × Moves l.fn.c l.c
    × AllByRecursion (λ dim. 1 ≤ dim) l.shape
    × (1 ≤ size_of_dims l.shape)
    × (variable_count l.fn.c.problem.decls + size_of_dims l.shape ≤ VARIABLES)

abbrev pub decreases-loop-shape : goal.decreases-loop-shape
decreases-loop-shape l = length (rest l.c)
