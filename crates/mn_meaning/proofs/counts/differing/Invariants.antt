use Rattle.std.proofs.Common.{◌≡◌, pos, ◌+ℤ◌, ◌≤ℤ◌, length}
use Rattle.std.specs.Iterator.Adapters.{zip_first, zip_second}
use Rattle.std.specs.Slice.Iter.{iter_rest}
use Rattle.mn_meaning.specs.Families.{differing}
use Rattle.mn_meaning.specs.Meaning.{values_at}
use Rattle.mn_meaning.proofs.counts.differing.Given as goal

-- those counted and those among the places that are left are all
abbrev pub invariant-loop-x : goal.invariant-loop-x
invariant-loop-x g l = record {
  whole : l.count +ℤ pos (differing (values_at (g.V.Values.values l.s) (iter_rest (zip_first l.x-iterator))) (values_at (g.V.Values.values l.s) (iter_rest (zip_second l.x-iterator)))) ≡ pos (differing (values_at (g.V.Values.values l.s) l.v) (values_at (g.V.Values.values l.s) l.w));
  most : (l.count +ℤ pos (length (iter_rest (zip_first l.x-iterator)))) ≤ℤ pos (length l.v);
  least : pos 0 ≤ℤ l.count;
}
