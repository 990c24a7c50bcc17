use Rattle.std.proofs.Common.{◌≡◌, ◌≤◌, length}
use Rattle.std.specs.List.{AllByRecursion}
use Rattle.mn_cursor.specs.Progress.{rest, Moves}
use Rattle.mn_decls.specs.Variables.{alias_dims_at}
use Rattle.mn_decls.proofs.AliasSteps.{dims_from}
use Rattle.mn_decls.proofs.alias_dims.alias_dims.Given as goal

abbrev pub invariant-loop-dims : goal.invariant-loop-dims
invariant-loop-dims l =
    (dims_from l.dims (rest l.c) ≡ alias_dims_at (rest l.fn.c)) × Moves l.fn.c l.c × AllByRecursion (λ dim. 1 ≤ dim) l.dims

abbrev pub decreases-loop-dims : goal.decreases-loop-dims
decreases-loop-dims l = length (rest l.c)
