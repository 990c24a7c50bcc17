use Rattle.std.proofs.Common.{map, length}
use Rattle.mn_model.specs.declared.constraint.Term.TheVariants.{Var}
use Rattle.mn_references.specs.Entries.{rows_of}
use Rattle.mn_references.proofs.Rowing.{RowsLeft}
use Rattle.mn_references.proofs.rows.rows_of.Given as goal

-- what is done and what is left are the whole
abbrev pub invariant-loop-left : goal.invariant-loop-left
invariant-loop-left l = RowsLeft l.run (map Var l.left) l.rows (rows_of l.dims (map Var l.vars))

abbrev pub decreases-loop-left : goal.decreases-loop-left
decreases-loop-left l = length l.left
