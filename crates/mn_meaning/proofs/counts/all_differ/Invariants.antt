use Rattle.std.proofs.Common.{◌↔◌, drop}
use Rattle.mn_meaning.specs.Families.{AllDiffer}
use Rattle.mn_meaning.specs.Meaning.{values_at}
use Rattle.mn_meaning.proofs.counts.all_differ.Given as goal

-- whether those that are left differ decides of all
abbrev pub invariant-loop-i : goal.invariant-loop-i
invariant-loop-i g l = AllDiffer (values_at (g.V.Values.values l.s) (drop l.i l.terms)) ↔ AllDiffer (values_at (g.V.Values.values l.s) l.terms)
