use Rattle.std.proofs.Common.{◌≡◌, ◌≢◌, length, of_z, ap, ◌∙◌, arith, w64, rules}
use Rattle.std.proofs.lemmas.Int.{ints}
use Rattle.std.proofs.lemmas.Slice.Zip.{either_empty_from_Zip}
use Rattle.std.specs.Int.RustNames.{FitsSigned}
use Rattle.mn_meaning.proofs.Places.{value_next, agreeing-same, agreeing-other, agreeing-end, values_end}
use Rattle.mn_meaning.proofs.counts.agreeing.Goals as goal

pub loop-t-preserved-then-value_at-k : goal.loop-t-preserved-then-value_at-k
loop-t-preserved-then-value_at-k g c =
    let step = c.in-Some.ensures.steps in
    let next = value_next (g.V.Values.values c.args.s.now) _ c.in-Some.t.now _ c.value_at.result step.0 c.value_at.ensures in
    let fits : FitsSigned w64 c.in-Some.k.now = search rules in
    let same : c.value_at.result ≡ c.in-Some.k.now = omega (arith, ints) in
    let few = ap length c.iter.ensures.rest ∙ ap length c.as_slice.ensures in
    let bound = c.iter.ensures.bound in
    let counted = agreeing-same _ _ _ _ _ next _ step.1 same in
    let fewer = ap length step.0 in
    record { whole = omega (arith, ints); most = omega (arith, ints); least = omega (arith, ints) }

pub loop-t-preserved : goal.loop-t-preserved
loop-t-preserved g c =
    let step = c.in-Some.ensures.steps in
    let next = value_next (g.V.Values.values c.args.s.now) _ c.in-Some.t.now _ c.value_at.result step.0 c.value_at.ensures in
    let other : c.value_at.result ≢ c.in-Some.k.now = λ e. c.if-value_at-k.false (ap (of_z w64) e) in
    let counted = agreeing-other _ _ _ _ _ next _ step.1 other in
    let fewer = ap length step.0 in
    record { whole = omega (arith, ints); most = omega (arith, ints); least = omega (arith, ints) }

pub returns : goal.returns
returns g c =
    let end = agreeing-end _ _ (values_end (g.V.Values.values c.args.s.now) _ _ (either_empty_from_Zip c.loop-t.t-iterator c.next.new.self _ c.in-None.is c.next.ensures.steps)) in
    omega (arith, ints)
