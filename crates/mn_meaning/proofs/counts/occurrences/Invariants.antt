use Rattle.std.proofs.Common.{◌≡◌, pos, ◌+ℤ◌, ◌≤ℤ◌, drop}
use Rattle.mn_meaning.specs.Families.{occurrences}
use Rattle.mn_meaning.specs.Meaning.{values_at}
use Rattle.mn_meaning.proofs.counts.occurrences.Given as goal

-- those counted and those among the places that are left are all
abbrev pub invariant-loop-t : goal.invariant-loop-t
invariant-loop-t g l = record {
  whole : l.count +ℤ pos (occurrences l.k (values_at (g.V.Values.values l.s) (drop l.t-index l.v))) ≡ pos (occurrences l.k (values_at (g.V.Values.values l.s) l.v));
  most : l.count ≤ℤ pos l.t-index;
  least : pos 0 ≤ℤ l.count;
}
