use Rattle.std.proofs.Common.{◌≡◌, ◌*◌, pos, neg_ℤ, ◌+ℤ◌, ◌≤ℤ◌, drop}
use Rattle.mn_meaning.specs.Families.{sum_of}
use Rattle.mn_meaning.specs.Meaning.{values_at}
use Rattle.mn_meaning.proofs.sums.sum.Given as goal

-- the sum so far and that of the places that are left are the whole
abbrev pub invariant-loop-t : goal.invariant-loop-t
invariant-loop-t g l = record {
  whole : l.sum +ℤ sum_of (values_at (g.V.Values.values l.s) (drop l.t-index l.v)) ≡ sum_of (values_at (g.V.Values.values l.s) l.v);
  least : neg_ℤ (pos (9223372036854775808 * l.t-index)) ≤ℤ l.sum;
  most : l.sum ≤ℤ pos (9223372036854775808 * l.t-index);
}
