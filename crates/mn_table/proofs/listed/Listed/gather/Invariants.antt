use Rattle.std.proofs.Common.{◌≡◌, ◌+◌, ◌≤◌, length, drop}
use Rattle.std.specs.List.{AllByRecursion}
use Rattle.mn_boxes.specs.Values.{IsAsWide, IsCovered}
use Rattle.mn_meaning.specs.Families.{rows_of}
use Rattle.mn_table.proofs.Marking.{FoundTo}
use Rattle.mn_table.proofs.listed.Listed.gather.Given as goal

-- what the tuples before have is there
abbrev pub invariant-loop-rest : goal.invariant-loop-rest
invariant-loop-rest l = record {
  behind : drop l.number (rows_of l.arity l.self.cells.now) ≡ rows_of l.arity l.rest;
  few : l.number + length l.rest ≤ length l.self.cells.now;
  wide : IsAsWide l.fn.found l.found;
  covered : AllByRecursion (IsCovered l.fn.found) l.rest;
  so_far : FoundTo l.alive l.i (rows_of l.arity l.self.cells.now) l.found l.number;
}

abbrev pub decreases-loop-rest : goal.decreases-loop-rest
decreases-loop-rest l = length l.rest
