use Rattle.mn_boxes.specs.Values.{IsAsWide}
use Rattle.mn_table.specs.Tables.{listed_of}
use Rattle.mn_table.proofs.Keeping.{KeptTo}
use Rattle.mn_table.proofs.listed.Listed.keep_each.Given as goal

-- the places before are kept
abbrev pub invariant-loop-i : goal.invariant-loop-i
invariant-loop-i l = record {
  wide : IsAsWide l.fn.found l.found;
  kept : KeptTo (listed_of l.self) l.fn.c l.c l.i;
}
