use Rattle.std.proofs.Common.{◌≡◌, ◌+◌, ◌≤◌, length, drop}
use Rattle.mn_boxes.specs.Values.{IsAsWide}
use Rattle.mn_meaning.specs.Families.{rows_of}
use Rattle.mn_prop.specs.Contexts.{box_of}
use Rattle.mn_table.proofs.Marking.{AliveTo}
use Rattle.mn_table.proofs.listed.Listed.mark.Given as goal

-- those of the tuples before are marked
abbrev pub invariant-loop-rest : goal.invariant-loop-rest
invariant-loop-rest l = record {
  behind : drop l.number (rows_of l.arity l.self.cells.now) ≡ rows_of l.arity l.rest;
  few : l.number + length l.rest ≤ length l.self.cells.now;
  wide : IsAsWide l.fn.alive l.alive;
  so_far : AliveTo (box_of l.c) l.self.v.now (rows_of l.arity l.self.cells.now) l.alive l.number;
}

abbrev pub decreases-loop-rest : goal.decreases-loop-rest
decreases-loop-rest l = length l.rest
