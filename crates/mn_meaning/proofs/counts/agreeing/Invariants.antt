use Rattle.std.proofs.Common.{◌≡◌, pos, ◌+ℤ◌, ◌≤ℤ◌, length}
use Rattle.std.specs.Iterator.Adapters.{zip_first, zip_second}
use Rattle.std.specs.Slice.Iter.{iter_rest}
use Rattle.mn_meaning.specs.Families.{agreeing}
use Rattle.mn_meaning.specs.Meaning.{values_at}
use Rattle.mn_meaning.proofs.counts.agreeing.Given as goal

-- those counted and those among the places that are left are all
abbrev pub invariant-loop-t : goal.invariant-loop-t
invariant-loop-t g l = record {
  whole : l.count +ℤ pos (agreeing (values_at (g.V.Values.values l.s) (iter_rest (zip_first l.t-iterator))) (iter_rest (zip_second l.t-iterator))) ≡ pos (agreeing (values_at (g.V.Values.values l.s) l.v) l.ks);
  most : (l.count +ℤ pos (length (iter_rest (zip_first l.t-iterator)))) ≤ℤ pos (length l.v);
  least : pos 0 ≤ℤ l.count;
}
