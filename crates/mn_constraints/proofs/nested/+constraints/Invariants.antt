use Rattle.std.proofs.Common.{◌≡◌, ◌+◌, ◌*◌, ◌≤◌, [], length}
use Rattle.mn_lexer.specs.declared.marks.Mark.TheVariants.{CloseCurly}
use Rattle.mn_grammar.specs.Lists.{items_at}
use Rattle.mn_cursor.specs.Progress.{rest, Moves}
use Rattle.mn_model.specs.Parts.{cell_count}
use Rattle.mn_model.specs.Problem.{total}
use Rattle.mn_model.specs.declared.limits.TheConstants.{CELLS}
use Rattle.mn_language.specs.Constructing.{child_ends, with_child}
use Rattle.mn_constraints.specs.Nesting.{child_at, children_from}
use Rattle.mn_constraints.proofs.nested.+constraints.Given as goal

-- what stands inside has a lesser depth, and a list is made of its turns
abbrev pub decreases-constraint : goal.decreases-constraint
decreases-constraint l = 5 * l.depth

abbrev pub decreases-turn : goal.decreases-turn
decreases-turn l = 5 * l.depth + 1

abbrev pub decreases-some_children : goal.decreases-some_children
decreases-some_children l = 5 * l.depth + 2

abbrev pub decreases-children : goal.decreases-children
decreases-children l = 5 * l.depth + 3

abbrev pub decreases-gather : goal.decreases-gather
decreases-gather l = 5 * l.depth + 4

abbrev pub decreases-tie : goal.decreases-tie
decreases-tie l = 5 * l.depth + 4

-- the reader answers the same at the rest, behind the children so far, as at the start
abbrev pub invariant-some_children-loop-children : goal.invariant-some_children-loop-children
invariant-some_children-loop-children l = record {
  same : items_at CloseCurly child_ends with_child (child_at l.fn.scan.problem l.depth l.first) l.children.items (rest l.scan)
      ≡ children_from l.fn.scan.problem l.depth l.first [] (rest l.fn.scan);
  moves : Moves l.fn.scan l.scan;
  before : l.first ≡ l.fn.used;
  counted : l.used ≡ l.first + total cell_count l.children.items;
  few : l.used ≤ CELLS;
}

abbrev pub decreases-some_children-loop-children : goal.decreases-some_children-loop-children
decreases-some_children-loop-children l = length (rest l.scan)
