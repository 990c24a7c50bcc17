use Rattle.std.proofs.Common.{◌↔◌, ℤ, IsTrue, w64, of_z, to_z, refl, sym, subst, true≢false, ◌∙◌, rules}
use Rattle.std.proofs.lemmas.Int.{to_z-of_z}
use Rattle.std.specs.Int.RustNames.{FitsSigned}
use Rattle.mn_meaning.specs.Families.{IsExtreme, IsWithin}
use Rattle.mn_meaning.specs.Meaning.{values_at}
use Rattle.mn_meaning.proofs.Ends.{found_now, bounded_on, broken, reached_on, ended}
use Rattle.mn_meaning.proofs.Places.{at_next, at_end, same_bits}
use Rattle.mn_meaning.proofs.orders.is_extreme.Goals as goal

pub returns-then-not-is_within : goal.returns-then-not-is_within
returns-then-not-is_within g c =
    let next = at_next (g.V.Values.values c.args.s.now) c.as_slice-t-items.result.now c.args.v.now c.loop-t.t-index _ c.value_at-b.result c.as_slice-t-items.ensures c.loop-t-test.true c.value_at-b.ensures in
    let same = to_z-of_z w64 c.args.a c.ranges.a in
    let fits : FitsSigned w64 c.value_at-b.result = search rules in
    let value = to_z-of_z w64 c.value_at-b.result fits in (
      λ never. absurd (true≢false (sym never)),
      λ is. absurd (broken (IsWithin c.args.greatest) _ _ _ _ _ next (λ within. true≢false (sym (c.is_within.ensures.1 (subst (IsWithin c.args.greatest (to_z w64 (of_z w64 c.args.a))) (sym value) within)) ∙ c.if-not-is_within.true)) c.loop-t.invariant.bounded (subst (λ (k : ℤ). IsExtreme c.args.greatest (values_at (g.V.Values.values c.args.s.now) c.args.v.now) k) (sym same) is).1),
    )

pub loop-t-preserved : goal.loop-t-preserved
loop-t-preserved g c =
    let next = at_next (g.V.Values.values c.args.s.now) c.as_slice-t-items.result.now c.args.v.now c.loop-t.t-index _ c.value_at-b.result c.as_slice-t-items.ensures c.loop-t-test.true c.value_at-b.ensures in
    let fits : FitsSigned w64 c.value_at-b.result = search rules in
    let here = found_now c.loop-t.found _ (same_bits w64 c.value_at-b.result c.args.a _ _ fits c.ranges.a refl (sym (to_z-of_z w64 c.args.a c.ranges.a))) in
    record {
      reached = reached_on (IsWithin c.args.greatest) _ _ _ _ _ next c.loop-t.found _ here c.loop-t.invariant.reached;
      bounded = bounded_on (IsWithin c.args.greatest) _ _ _ _ _ next (subst (IsWithin c.args.greatest (to_z w64 (of_z w64 c.args.a))) (to_z-of_z w64 c.value_at-b.result fits) (c.is_within.ensures.0 c.if-not-is_within.false)) c.loop-t.invariant.bounded;
    }

pub returns : goal.returns
returns g c =
    let end = at_end (g.V.Values.values c.args.s.now) c.as_slice-t-items.result.now c.args.v.now c.loop-t.t-index c.as_slice-t-items.ensures c.loop-t-test.false in
    subst (λ (k : ℤ). IsTrue c.loop-t.found ↔ IsExtreme c.args.greatest (values_at (g.V.Values.values c.args.s.now) c.args.v.now) k) (to_z-of_z w64 c.args.a c.ranges.a) (ended (IsWithin c.args.greatest) _ _ _ end c.loop-t.found c.loop-t.invariant.reached c.loop-t.invariant.bounded)
