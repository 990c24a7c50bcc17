use Rattle.std.proofs.Common.{◌≡◌, ◌∷◌, map}
use Rattle.std.specs.List.{flat_map, range_with_len}
use Rattle.mn_model.specs.declared.constraint.Con.TheVariants.{Alldiff}
use Rattle.mn_gen.specs.Boards.{IsBoard}
use Rattle.mn_gen.specs.Generated.{at_row, pairs_of_row}
use Rattle.mn_gen.proofs.queens.queens.Given as goal

-- the columns differ, and the queens of the rows so far are kept apart from all after them
abbrev pub invariant-loop-i : goal.invariant-loop-i
invariant-loop-i l = record {
  board : IsBoard l.n l.inst;
  cons : l.inst.cons ≡ Alldiff (map at_row (range_with_len 0 l.n)) ∷ flat_map (pairs_of_row l.n) (range_with_len 0 l.i);
}
