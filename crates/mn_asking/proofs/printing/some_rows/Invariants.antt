use Rattle.std.proofs.Common.{◌≡◌, [], length}
use Rattle.mn_lexer.specs.declared.marks.Mark.TheVariants.{CloseSquare}
use Rattle.mn_grammar.specs.Lists.{items_at}
use Rattle.mn_cursor.specs.Progress.{rest, Moves}
use Rattle.mn_references.specs.Referring.{row_at}
use Rattle.mn_asking.specs.Search.{all_rows, rows_ends}
use Rattle.mn_asking.proofs.printing.some_rows.Given as goal

-- the reader answers the same at the rest as at the start
abbrev pub invariant-loop-rows : goal.invariant-loop-rows
invariant-loop-rows l = record {
  same : items_at CloseSquare rows_ends all_rows (λ before. row_at l.fn.scan.problem) l.rows.items (rest l.scan)
      ≡ items_at CloseSquare rows_ends all_rows (λ before. row_at l.fn.scan.problem) [] (rest l.fn.scan);
  moves : Moves l.fn.scan l.scan;
}

abbrev pub decreases-loop-rows : goal.decreases-loop-rows
decreases-loop-rows l = length (rest l.scan)
