use Rattle.std.proofs.Common.{◌≡◌, length, of_z, ap, ◌∙◌, arith, w64}
use Rattle.std.proofs.lemmas.Int.{ints}
use Rattle.std.proofs.lemmas.Slice.Zip.{either_empty_from_Zip}
use Rattle.mn_meaning.proofs.Places.{value_next, differing-same, differing-other, differing-end, both_end}
use Rattle.mn_meaning.proofs.counts.differing.Goals as goal

pub loop-x-preserved-then-a-b : goal.loop-x-preserved-then-a-b
loop-x-preserved-then-a-b g c =
    let step = c.in-Some.ensures.steps in
    let next = value_next (g.V.Values.values c.args.s.now) _ c.in-Some.x.now _ c.value_at-a.result step.0 c.value_at-a.ensures in
    let follows = value_next (g.V.Values.values c.args.s.now) _ c.in-Some.y.now _ c.value_at-b.result step.1 c.value_at-b.ensures in
    let few = ap length c.iter.ensures.rest ∙ ap length c.as_slice.ensures in
    let bound = c.iter.ensures.bound in
    let counted = differing-other _ _ _ _ _ next _ follows (λ e. c.if-a-b.true (ap (of_z w64) e)) in
    let fewer = ap length step.0 in
    record { whole = omega (arith, ints); most = omega (arith, ints); least = omega (arith, ints) }

pub loop-x-preserved : goal.loop-x-preserved
loop-x-preserved g c =
    let step = c.in-Some.ensures.steps in
    let next = value_next (g.V.Values.values c.args.s.now) _ c.in-Some.x.now _ c.value_at-a.result step.0 c.value_at-a.ensures in
    let follows = value_next (g.V.Values.values c.args.s.now) _ c.in-Some.y.now _ c.value_at-b.result step.1 c.value_at-b.ensures in
    let same : c.value_at-a.result ≡ c.value_at-b.result = omega (arith, ints) in
    let counted = differing-same _ _ _ _ _ next _ follows same in
    let fewer = ap length step.0 in
    record { whole = omega (arith, ints); most = omega (arith, ints); least = omega (arith, ints) }

pub returns : goal.returns
returns g c =
    let end = differing-end _ _ (both_end (g.V.Values.values c.args.s.now) _ _ (either_empty_from_Zip c.loop-x.x-iterator c.next.new.self _ c.in-None.is c.next.ensures.steps)) in
    omega (arith, ints)
