use Rattle.std.proofs.Common.{◌≡◌, [], length}
use Rattle.mn_lexer.specs.declared.marks.Mark.TheVariants.{CloseCurly}
use Rattle.mn_grammar.specs.Lists.{items_at}
use Rattle.mn_cursor.specs.Progress.{rest, Moves}
use Rattle.mn_language.specs.Arguments.{tuple_ends, with_tuple}
use Rattle.mn_language.specs.Constructing.{tuple_at}
use Rattle.mn_constraints.specs.Tabling.{tuples_from}
use Rattle.mn_constraints.proofs.tables.tuples_to.Given as goal

-- the reader answers the same at the rest, behind the cells so far, as at the start
abbrev pub invariant-loop-cells : goal.invariant-loop-cells
invariant-loop-cells l = record {
  same : items_at CloseCurly tuple_ends with_tuple (tuple_at l.used l.arity) l.cells (rest l.scan) ≡ tuples_from l.used l.arity [] (rest l.fn.scan);
  moves : Moves l.fn.scan l.scan;
}

abbrev pub decreases-loop-cells : goal.decreases-loop-cells
decreases-loop-cells l = length (rest l.scan)
