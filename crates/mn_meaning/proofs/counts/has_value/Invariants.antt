use Rattle.std.proofs.Common.{◌↔◌, drop}
use Rattle.mn_model.specs.Domain.{Has}
use Rattle.mn_meaning.specs.Meaning.{values_at}
use Rattle.mn_meaning.proofs.counts.has_value.Given as goal

-- whether one of those that are left has the value decides of all
abbrev pub invariant-loop-t : goal.invariant-loop-t
invariant-loop-t g l =
    Has (values_at (g.V.Values.values l.s) (drop l.t-index l.v)) l.a ↔ Has (values_at (g.V.Values.values l.s) l.v) l.a
