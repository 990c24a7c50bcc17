use Rattle.std.proofs.Common.{◌≡◌, ◌-◌, ◌≤◌, ◌++◌}
use Rattle.std.specs.List.{flat_map, range_with_len}
use Rattle.mn_gen.specs.Boards.{IsBoard}
use Rattle.mn_gen.specs.Generated.{off_diagonals}
use Rattle.mn_gen.proofs.queens.keep_row_apart.Given as goal

-- the queen of the row is kept apart from those less than d rows after it
abbrev pub invariant-loop-d : goal.invariant-loop-d
invariant-loop-d l = record {
  board : IsBoard l.n l.inst;
  least : 1 ≤ l.d;
  most : l.d ≤ l.d-end;
  cons : l.inst.cons ≡ l.initial.inst.cons ++ flat_map (off_diagonals l.i) (range_with_len 1 (l.d - 1));
}
