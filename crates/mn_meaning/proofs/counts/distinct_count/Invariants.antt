use Rattle.std.proofs.Common.{◌≡◌, pos, ◌+ℤ◌, ◌≤ℤ◌, drop}
use Rattle.mn_meaning.specs.Families.{distinct_count}
use Rattle.mn_meaning.specs.Meaning.{values_at}
use Rattle.mn_meaning.proofs.counts.distinct_count.Given as goal

-- those counted and those among the places that are left are all
abbrev pub invariant-loop-i : goal.invariant-loop-i
invariant-loop-i g l = record {
  whole : l.count +ℤ pos (distinct_count (values_at (g.V.Values.values l.s) (drop l.i l.terms))) ≡ pos (distinct_count (values_at (g.V.Values.values l.s) l.terms));
  most : l.count ≤ℤ pos l.i;
  least : pos 0 ≤ℤ l.count;
}
