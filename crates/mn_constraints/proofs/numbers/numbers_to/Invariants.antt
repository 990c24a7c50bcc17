use Rattle.std.proofs.Common.{◌≡◌, ◌≤◌, [], length, drop, take}
use Rattle.mn_grammar.specs.Lists.{items_at}
use Rattle.mn_grammar.specs.Reading.{number_at}
use Rattle.mn_cursor.specs.Progress.{rest, Moves}
use Rattle.mn_language.specs.Arguments.{at_one, number_ends, with_number}
use Rattle.mn_constraints.specs.Numbering.{numbers_from, wanted_seen}
use Rattle.mn_constraints.proofs.numbers.numbers_to.Given as goal

-- the reader answers the same at the rest, behind the numbers so far, as at the start; those that were there stay
abbrev pub invariant-loop-more : goal.invariant-loop-more
invariant-loop-more l = record {
  same : items_at l.shut (number_ends (wanted_seen l.wanted)) with_number (λ b. number_at (at_one (wanted_seen l.wanted) b)) (drop l.first l.numbers) (rest l.scan)
      ≡ numbers_from l.shut (wanted_seen l.wanted) [] (rest l.fn.scan);
  moves : Moves l.fn.scan l.scan;
  there : l.first ≡ length l.fn.numbers;
  keeps : take l.first l.numbers ≡ l.fn.numbers;
  longer : l.first ≤ length l.numbers;
}

abbrev pub decreases-loop-more : goal.decreases-loop-more
decreases-loop-more l = length (rest l.scan)
