use Rattle.std.proofs.Common.{◌↔◌, ◌⊎◌, IsTrue, drop}
use Rattle.std.specs.List.{AllByRecursion}
use Rattle.mn_model.specs.Domain.{Has}
use Rattle.mn_meaning.specs.Families.{IsWithin}
use Rattle.mn_meaning.specs.Meaning.{values_at}
use Rattle.mn_meaning.proofs.orders.is_extreme.Given as goal

-- those that are left decide of all, beside whether the value was found
abbrev pub invariant-loop-t : goal.invariant-loop-t
invariant-loop-t g l = record {
  reached : (IsTrue l.found ⊎ Has (values_at (g.V.Values.values l.s) (drop l.t-index l.v)) l.a) ↔ Has (values_at (g.V.Values.values l.s) l.v) l.a;
  bounded : AllByRecursion (IsWithin l.greatest l.a) (values_at (g.V.Values.values l.s) (drop l.t-index l.v)) ↔ AllByRecursion (IsWithin l.greatest l.a) (values_at (g.V.Values.values l.s) l.v);
}
