use Rattle.std.proofs.Common.{◌≡◌, map}
use Rattle.std.specs.List.{range_with_len}
use Rattle.mn_gen.specs.Generated.{at_row}
use Rattle.mn_gen.proofs.queens.all_rows.Given as goal

-- the variables of the rows so far
abbrev pub invariant-loop-i : goal.invariant-loop-i
invariant-loop-i l = l.terms ≡ map at_row (range_with_len 0 l.i)
