use Rattle.std.proofs.Common.{◌≡◌, ◌+◌, ◌≤◌, length}
use Rattle.mn_grammar.specs.Rows.{row_at}
use Rattle.mn_cursor.specs.Progress.{rest, Moves}
use Rattle.mn_language.specs.Arguments.{behind_argument}
use Rattle.mn_language.specs.Constructing.{argument_at}
use Rattle.mn_constraints.specs.Filling.{row_seen}
use Rattle.mn_constraints.proofs.RowSteps.{row_from}
use Rattle.mn_constraints.proofs.leaves.all_arguments.Given as goal

-- the reader answers the same at the rest, behind the arguments so far, as at the start
abbrev pub invariant-loop-left : goal.invariant-loop-left
invariant-loop-left l = record {
  same : row_from l.fn.scan.problem l.used l.argument l.left (row_seen l.row) (rest l.scan) ≡ row_at behind_argument (argument_at l.fn.scan.problem l.used) l.fn.takes (rest l.fn.scan);
  moves : Moves l.fn.scan l.scan;
  few : length (row_seen l.row) + length l.left ≤ 2;
}

abbrev pub decreases-loop-left : goal.decreases-loop-left
decreases-loop-left l = length l.left
