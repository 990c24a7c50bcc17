use Rattle.std.proofs.Common.{◌≡◌, ◌+◌, ◌*◌, pos, neg_ℤ, ◌+ℤ◌, ◌≤ℤ◌, length}
use Rattle.std.specs.Iterator.Adapters.{zip_first, zip_second}
use Rattle.std.specs.List.{AllByRecursion}
use Rattle.std.specs.Slice.Iter.{iter_rest}
use Rattle.mn_model.specs.Lawful.{IsNear, IsNearTerm}
use Rattle.mn_meaning.specs.Families.{weighted_sum}
use Rattle.mn_meaning.specs.Meaning.{values_at}
use Rattle.mn_meaning.proofs.sums.weighted_sum.Given as goal

-- the sum so far and that of the places that are left are the whole; each place adds at most the square of the greatest number
abbrev pub invariant-loop-k : goal.invariant-loop-k
invariant-loop-k g l = record {
  whole : l.sum +ℤ weighted_sum (iter_rest (zip_first l.k-iterator)) (values_at (g.V.Values.values l.s) (iter_rest (zip_second l.k-iterator))) ≡ weighted_sum l.ks (values_at (g.V.Values.values l.s) l.v);
  weights : AllByRecursion IsNear (iter_rest (zip_first l.k-iterator));
  places : AllByRecursion IsNearTerm (iter_rest (zip_second l.k-iterator));
  level : length l.yielded + length (iter_rest (zip_second l.k-iterator)) ≡ length l.v;
  least : neg_ℤ (pos (1000000002000000001 * length l.yielded)) ≤ℤ l.sum;
  most : l.sum ≤ℤ pos (1000000002000000001 * length l.yielded);
}
