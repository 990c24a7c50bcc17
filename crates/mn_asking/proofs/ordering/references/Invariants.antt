use Rattle.std.proofs.Common.{◌≡◌, [], length}
use Rattle.mn_lexer.specs.declared.marks.Mark.TheVariants.{CloseSquare}
use Rattle.mn_grammar.specs.Lists.{items_at}
use Rattle.mn_cursor.specs.Progress.{rest, Moves}
use Rattle.mn_references.specs.Referring.{ref_at}
use Rattle.mn_asking.specs.Search.{all_vars, order_aim, order_ends}
use Rattle.mn_asking.proofs.ordering.references.Given as goal

-- the reader answers the same at the rest as at the start
abbrev pub invariant-loop-vars : goal.invariant-loop-vars
invariant-loop-vars l = record {
  same : items_at CloseSquare order_ends all_vars (λ before. ref_at l.fn.scan.problem (order_aim before)) l.vars (rest l.scan)
      ≡ items_at CloseSquare order_ends all_vars (λ before. ref_at l.fn.scan.problem (order_aim before)) [] (rest l.fn.scan);
  moves : Moves l.fn.scan l.scan;
}

abbrev pub decreases-loop-vars : goal.decreases-loop-vars
decreases-loop-vars l = length (rest l.scan)
