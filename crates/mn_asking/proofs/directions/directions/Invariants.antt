use Rattle.std.proofs.Common.{◌≡◌, [], length}
use Rattle.mn_lexer.specs.declared.marks.Mark.TheVariants.{CloseSquare}
use Rattle.mn_grammar.specs.Lists.{items_at}
use Rattle.mn_cursor.specs.Progress.{rest, Moves}
use Rattle.mn_asking.specs.Search.{all_ways, values_ends}
use Rattle.mn_asking.specs.Searching.{way_at}
use Rattle.mn_asking.proofs.directions.directions.Given as goal

-- the reader answers the same at the rest as at the start
abbrev pub invariant-loop-down : goal.invariant-loop-down
invariant-loop-down l = record {
  same : items_at CloseSquare (values_ends l.wanted) all_ways (way_at l.wanted) l.down (rest l.scan)
      ≡ items_at CloseSquare (values_ends l.wanted) all_ways (way_at l.wanted) [] (rest l.fn.scan);
  moves : Moves l.fn.scan l.scan;
}

abbrev pub decreases-loop-down : goal.decreases-loop-down
decreases-loop-down l = length (rest l.scan)
