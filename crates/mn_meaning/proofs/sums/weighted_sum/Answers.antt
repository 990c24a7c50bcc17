use Rattle.std.proofs.Common.{◌≡◌, ℤ, ◌*ℤ◌, List, length, to_z, of_z, ap, sym, subst, arith}
use Rattle.std.proofs.lemmas.Int.{ints}
use Rattle.std.proofs.lemmas.List.{length_push}
use Rattle.std.proofs.lemmas.Slice.Zip.{either_empty_from_Zip}
use Rattle.std.specs.List.{AllByRecursion}
use Rattle.mn_model.specs.Lawful.{IsNear, IsNearTerm}
use Rattle.mn_model.specs.declared.constraint.Term.{Term}
use Rattle.mn_meaning.proofs.Near.{near_value, near_product, weighted_sum-next, weighted_sum-end}
use Rattle.mn_meaning.proofs.Places.{value_next, values_follow}
use Rattle.mn_meaning.proofs.sums.weighted_sum.Goals as goal
use mir.Syntax.{w128}

pub overflow_add-sum : goal.overflow_add-sum
overflow_add-sum g c =
    let step = c.in-Some.ensures.steps in
    let heavy = subst (λ (ks : List ℤ). AllByRecursion IsNear ks) step.0 c.loop-k.invariant.weights in
    let light = subst (λ (ts : List Term). AllByRecursion IsNearTerm ts) step.1 c.loop-k.invariant.places in
    let near = subst IsNear (sym c.value_at.ensures) (near_value (g.V.Values.values c.args.s.now) c.requires.valued c.in-Some.t.now light.0) in
    let k : to_z w128 (of_z w128 c.from.result) ≡ c.in-Some.k.now = omega (arith, ints, heavy.0.0, heavy.0.1) in
    let a : to_z w128 (of_z w128 c.from-in-loop-k.result) ≡ c.value_at.result = omega (arith, ints, near.0, near.1) in
    let product : to_z w128 (of_z w128 c.from.result) *ℤ to_z w128 (of_z w128 c.from-in-loop-k.result) ≡ c.in-Some.k.now *ℤ c.value_at.result = λ i. k i *ℤ a i in
    let bounds = near_product c.in-Some.k.now c.value_at.result heavy.0 near in
    let behind = ap length step.1 in
    omega (arith, ints, product, bounds.0, bounds.1, behind)

pub loop-k-preserved : goal.loop-k-preserved
loop-k-preserved g c =
    let step = c.in-Some.ensures.steps in
    let heavy = subst (λ (ks : List ℤ). AllByRecursion IsNear ks) step.0 c.loop-k.invariant.weights in
    let light = subst (λ (ts : List Term). AllByRecursion IsNearTerm ts) step.1 c.loop-k.invariant.places in
    let near = subst IsNear (sym c.value_at.ensures) (near_value (g.V.Values.values c.args.s.now) c.requires.valued c.in-Some.t.now light.0) in
    let k : to_z w128 (of_z w128 c.from.result) ≡ c.in-Some.k.now = omega (arith, ints, heavy.0.0, heavy.0.1) in
    let a : to_z w128 (of_z w128 c.from-in-loop-k.result) ≡ c.value_at.result = omega (arith, ints, near.0, near.1) in
    let product : to_z w128 (of_z w128 c.from.result) *ℤ to_z w128 (of_z w128 c.from-in-loop-k.result) ≡ c.in-Some.k.now *ℤ c.value_at.result = λ i. k i *ℤ a i in
    let bounds = near_product c.in-Some.k.now c.value_at.result heavy.0 near in
    let behind = ap length step.1 in
    let longer = length_push c.loop-k.yielded (c.in-Some.k, c.in-Some.t) in
    let next = weighted_sum-next _ _ _ _ _ _ step.0 (value_next (g.V.Values.values c.args.s.now) _ c.in-Some.t.now _ c.value_at.result step.1 c.value_at.ensures) in
    record {
      whole = omega (arith, ints, product, bounds.0, bounds.1, next, behind);
      weights = heavy.1;
      places = light.1;
      level = omega (arith, behind, longer);
      least = omega (arith, ints, product, bounds.0, bounds.1, behind, longer);
      most = omega (arith, ints, product, bounds.0, bounds.1, behind, longer);
    }

pub returns : goal.returns
returns g c =
    let end = weighted_sum-end _ _ (values_follow (g.V.Values.values c.args.s.now) _ _ (either_empty_from_Zip c.loop-k.k-iterator c.next.new.self _ c.in-None.is c.next.ensures.steps)) in
    omega (arith, ints)
