use Rattle.std.proofs.Common.{◌+◌, List, refl, sym, subst, ◌∙◌, true≢false, w64, rules}
use Rattle.std.proofs.lemmas.Int.{to_z-of_z}
use Rattle.std.specs.Int.RustNames.{FitsSigned}
use Rattle.mn_model.specs.declared.constraint.Term.{Term}
use Rattle.mn_meaning.specs.Families.{AllDiffer}
use Rattle.mn_meaning.specs.Meaning.{values_at}
use Rattle.mn_meaning.proofs.Places.{at_next}
use Rattle.mn_meaning.proofs.Repeats.{later, repeated, differ_on}
use Rattle.mn_meaning.proofs.counts.all_differ.Goals as goal

pub returns-then-has_value : goal.returns-then-has_value
returns-then-has_value g c =
    let fits : FitsSigned w64 c.value_at.result = search rules in
    let next = at_next (g.V.Values.values c.args.s.now) c.as_slice-terms.result.now c.as_slice-terms.result.now c.loop-i.i _ c.value_at.result refl c.loop-i-test.true c.value_at.ensures in
    let again = later (g.V.Values.values c.args.s.now) c.as_slice-terms.result.now (c.loop-i.i + 1) _ c.value_at.result _ (to_z-of_z w64 c.value_at.result fits) c.has_value.ensures in (
      λ never. absurd (true≢false (sym never)),
      λ differ. absurd (repeated c.value_at.result _ _ next (again.0 c.if-has_value.true) (c.loop-i.invariant.1 (subst (λ (ts : List Term). AllDiffer (values_at (g.V.Values.values c.args.s.now) ts)) (sym c.as_slice-terms.ensures) differ))),
    )

pub loop-i-preserved : goal.loop-i-preserved
loop-i-preserved g c =
    let fits : FitsSigned w64 c.value_at.result = search rules in
    let next = at_next (g.V.Values.values c.args.s.now) c.as_slice-terms.result.now c.as_slice-terms.result.now c.loop-i.i _ c.value_at.result refl c.loop-i-test.true c.value_at.ensures in
    let again = later (g.V.Values.values c.args.s.now) c.as_slice-terms.result.now (c.loop-i.i + 1) _ c.value_at.result _ (to_z-of_z w64 c.value_at.result fits) c.has_value.ensures in
    differ_on c.value_at.result _ _ next _ (λ has. true≢false (sym (again.1 has) ∙ c.if-has_value.false)) c.loop-i.invariant
