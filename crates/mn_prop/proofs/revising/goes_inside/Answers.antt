use Rattle.std.proofs.Common.{◌≡◌, ◌≤ℤ◌, ◌⊎◌, ℤ, ◌∙◌, FitsSigned, ap, of_z, to_z, rules, subst, sym, true≢false, w64}
use Rattle.std.proofs.lemmas.Int.{to_z-of_z}
use Rattle.mn_boxes.specs.Places.{PlaceHas}
use Rattle.mn_prop.specs.Contexts.{box_of, vars_of}
use Rattle.mn_prop.proofs.Revisions.{goes_at_ends, goes_free, no_inner}
use Rattle.mn_prop.proofs.revising.goes_inside.Goals as goal

pub returns-then-a-hi-clause-ends : goal.returns-then-a-hi-clause-ends
returns-then-a-hi-clause-ends c never =
    let s = c.args.c.now in
    let low : FitsSigned w64 c.lo-lo.result = search rules in
    let next = rw (to_z-of_z w64 c.lo-lo.result low) at c.in-Some.ensures in
    let here : FitsSigned w64 c.in-Some.a = search rules in
    let high : FitsSigned w64 c.hi-hi.result = search rules in
    let same : c.in-Some.a ≡ c.hi-hi.result = sym (to_z-of_z w64 c.in-Some.a here) ∙ (ap (to_z w64) c.if-a-hi.true ∙ to_z-of_z w64 c.hi-hi.result high) in
    no_inner (vars_of s) (box_of s) c.args.t c.lo-lo.result c.hi-hi.result c.lo-lo.ensures.least c.hi-hi.ensures.greatest (subst (λ x. (b : ℤ) → PlaceHas (box_of s) c.args.t b → (b ≤ℤ c.lo-lo.result) ⊎ (x ≤ℤ b)) same next.2)

pub returns-else-a-hi-clause-inside : goal.returns-else-a-hi-clause-inside
returns-else-a-hi-clause-inside c may =
    let s = c.args.c.now in
    let low : FitsSigned w64 c.lo-lo.result = search rules in
    let here : FitsSigned w64 c.in-Some.a = search rules in
    let next = rw (to_z-of_z w64 c.lo-lo.result low) at c.in-Some.ensures in
    let exact = rw (to_z-of_z w64 c.in-Some.a here) at c.may_remove.ensures in
    goes_free (vars_of s) (box_of s) c.args.t c.in-Some.a c.lo-lo.result c.hi-hi.result c.lawful.ensures.boxes.now c.lo-lo.ensures.least c.hi-hi.ensures.greatest next.1 (λ same. c.if-a-hi.false (ap (of_z w64) same)) next.0 (exact.0 may)

pub returns-else-a-hi-clause-ends : goal.returns-else-a-hi-clause-ends
returns-else-a-hi-clause-ends c barred =
    let s = c.args.c.now in
    let here : FitsSigned w64 c.in-Some.a = search rules in
    let exact = rw (to_z-of_z w64 c.in-Some.a here) at c.may_remove.ensures in
    goes_at_ends (vars_of s) (box_of s) c.args.t c.in-Some.a (λ may. true≢false (sym (exact.1 may) ∙ barred))
