use Rattle.std.proofs.Common.{◌≡◌, [], length}
use Rattle.mn_lexer.specs.declared.marks.Mark.TheVariants.{CloseSquare}
use Rattle.mn_grammar.specs.Lists.{items_at}
use Rattle.mn_cursor.specs.Progress.{rest, Moves}
use Rattle.mn_references.specs.Entries.{in_list, list_ends, listed_terms}
use Rattle.mn_references.specs.Referring.{entry_at}
use Rattle.mn_references.proofs.lists.entries.Given as goal

-- the reader answers the same at the rest as at the start
abbrev pub invariant-loop-terms : goal.invariant-loop-terms
invariant-loop-terms l = record {
  same : items_at CloseSquare (list_ends l.bounds) listed_terms (λ before. entry_at l.fn.scan.problem (in_list l.fn.scan.problem l.bounds before)) l.terms (rest l.scan)
      ≡ items_at CloseSquare (list_ends l.bounds) listed_terms (λ before. entry_at l.fn.scan.problem (in_list l.fn.scan.problem l.bounds before)) [] (rest l.fn.scan);
  moves : Moves l.fn.scan l.scan;
}

abbrev pub decreases-loop-terms : goal.decreases-loop-terms
decreases-loop-terms l = length (rest l.scan)
