use Rattle.std.proofs.Common.{◌+◌, refl, sym, ◌∙◌, true≢false, w64, rules, arith}
use Rattle.std.proofs.lemmas.Int.{ints, to_z-of_z}
use Rattle.std.specs.Int.RustNames.{FitsSigned}
use Rattle.mn_meaning.proofs.Places.{at_next}
use Rattle.mn_meaning.proofs.Repeats.{later, distinct_count-again, distinct_count-last}
use Rattle.mn_meaning.proofs.counts.distinct_count.Goals as goal
use Rattle.mn_meaning.proofs.counts.distinct_count.Goals.{then-not-has_value, else-not-has_value}

pub loop-i-preserved : goal.loop-i-preserved
loop-i-preserved g c =
    let fits : FitsSigned w64 c.value_at.result = search rules in
    let next = at_next (g.V.Values.values c.args.s.now) c.as_slice-terms.result.now c.as_slice-terms.result.now c.loop-i.i _ c.value_at.result refl c.loop-i-test.true c.value_at.ensures in
    let again = later (g.V.Values.values c.args.s.now) c.as_slice-terms.result.now (c.loop-i.i + 1) _ c.value_at.result _ (to_z-of_z w64 c.value_at.result fits) c.has_value.ensures in
    elim c.if-not-has_value.branch [
      | then-not-has_value w ↦
          (let counted = distinct_count-last c.value_at.result _ _ next (λ has. true≢false (sym (again.1 has) ∙ w.if-not-has_value.true)) in
          record { whole = omega (arith, ints); most = omega (arith, ints); least = omega (arith, ints) })
      | else-not-has_value w ↦
          (let counted = distinct_count-again c.value_at.result _ _ next (again.0 w.if-not-has_value.false) in
          record { whole = omega (arith, ints); most = omega (arith, ints); least = omega (arith, ints) })
    ]
