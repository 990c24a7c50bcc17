use Rattle.std.proofs.Common.{◌≡◌, ◌↔◌, ◌+◌, length}
use Rattle.std.specs.Iterator.Adapters.{zip_first, zip_second}
use Rattle.std.specs.Slice.Iter.{iter_rest}
use Rattle.mn_meaning.specs.Meaning.{values_at}
use Rattle.mn_meaning.proofs.Lexical.{Leads}
use Rattle.mn_meaning.proofs.orders.is_below.Given as goal

-- the places that are left decide of all
abbrev pub invariant-loop-x : goal.invariant-loop-x
invariant-loop-x g l = record {
  leads : Leads l.or_equal (values_at (g.V.Values.values l.s) (iter_rest (zip_first l.x-iterator))) (values_at (g.V.Values.values l.s) (iter_rest (zip_second l.x-iterator))) ↔ Leads l.or_equal (values_at (g.V.Values.values l.s) l.v) (values_at (g.V.Values.values l.s) l.w);
  level : length l.v + length (iter_rest (zip_second l.x-iterator)) ≡ length l.w + length (iter_rest (zip_first l.x-iterator));
}
