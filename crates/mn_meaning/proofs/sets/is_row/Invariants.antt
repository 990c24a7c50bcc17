use Rattle.std.proofs.Common.{◌≡◌, ◌↔◌, length}
use Rattle.std.specs.Iterator.Adapters.{zip_first, zip_second}
use Rattle.std.specs.Slice.Iter.{iter_rest}
use Rattle.mn_meaning.specs.Meaning.{values_at}
use Rattle.mn_meaning.proofs.sets.is_row.Given as goal

-- the places that are left decide of all
abbrev pub invariant-loop-t : goal.invariant-loop-t
invariant-loop-t g l = record {
  whole : (iter_rest (zip_second l.t-iterator) ≡ values_at (g.V.Values.values l.s) (iter_rest (zip_first l.t-iterator))) ↔ (l.row ≡ values_at (g.V.Values.values l.s) l.v);
  level : length (iter_rest (zip_second l.t-iterator)) ≡ length (iter_rest (zip_first l.t-iterator));
}
