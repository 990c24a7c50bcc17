use Rattle.std.proofs.Common.{◌≡◌, ◌*ℤ◌, ℤ, FitsSigned, w64, rules, sym, subst, arith}
use Rattle.std.proofs.lemmas.Int.{ints, to_z-of_z}
use Rattle.mn_prop.specs.Contexts.{box_of, vars_of}
use Rattle.mn_sums.specs.Parts.{IsSmall, IsSpan}
use Rattle.mn_sums.specs.declared.part.Part.TheVariants.{Times}
use Rattle.mn_sums.proofs.Cutting.{near_in, span_above, span_below}
use Rattle.mn_sums.proofs.part.weighted_span.Goals as goal

pub product-lo-requires-clause-value : goal.product-lo-requires-clause-value
product-lo-requires-clause-value c =
    let fits : FitsSigned w64 c.lo.result = search rules in
    rw (to_z-of_z w64 c.lo.result fits) (near_in (vars_of c.args.c.now) (box_of c.args.c.now) c.args.t c.lo.result c.lawful.ensures.boxes.now c.lawful.ensures.valued c.requires.near_term c.lo.ensures.least.there)

pub product-hi-requires-clause-value : goal.product-hi-requires-clause-value
product-hi-requires-clause-value c =
    let fits : FitsSigned w64 c.hi.result = search rules in
    rw (to_z-of_z w64 c.hi.result fits) (near_in (vars_of c.args.c.now) (box_of c.args.c.now) c.args.t c.hi.result c.lawful.ensures.boxes.now c.lawful.ensures.valued c.requires.near_term c.hi.ensures.greatest.there)

pub returns-then-w-lt0 : goal.returns-then-w-lt0
returns-then-w-lt0 c =
    let w = c.args.w in
    let box = box_of c.args.c.now in
    let lo : FitsSigned w64 c.lo.result = search rules in
    let hi : FitsSigned w64 c.hi.result = search rules in
    let first : FitsSigned w64 c.product-lo.result = search rules in
    let second : FitsSigned w64 c.product-hi.result = search rules in
    let low : c.product-lo.result ≡ w *ℤ c.lo.result = rw (to_z-of_z w64 w c.ranges.w, to_z-of_z w64 c.lo.result lo) at c.product-lo.ensures.is in
    let high : c.product-hi.result ≡ w *ℤ c.hi.result = rw (to_z-of_z w64 w c.ranges.w, to_z-of_z w64 c.hi.result hi) at c.product-hi.ensures.is in
    let span = span_below w c.lo.result c.hi.result c.args.t box (omega (arith, ints, c.if-w-lt0.true)) c.hi.ensures.is c.lo.ensures.least (subst IsSmall high c.product-hi.ensures.small) (subst IsSmall low c.product-lo.ensures.small) in
    rw (to_z-of_z w64 c.product-lo.result first, to_z-of_z w64 c.product-hi.result second) (subst (λ (z : ℤ). IsSpan box (Times w c.args.t) c.product-hi.result z) (sym low) (subst (λ (z : ℤ). IsSpan box (Times w c.args.t) z (w *ℤ c.lo.result)) (sym high) span))

pub returns-else-w-lt0 : goal.returns-else-w-lt0
returns-else-w-lt0 c =
    let w = c.args.w in
    let box = box_of c.args.c.now in
    let lo : FitsSigned w64 c.lo.result = search rules in
    let hi : FitsSigned w64 c.hi.result = search rules in
    let first : FitsSigned w64 c.product-lo.result = search rules in
    let second : FitsSigned w64 c.product-hi.result = search rules in
    let low : c.product-lo.result ≡ w *ℤ c.lo.result = rw (to_z-of_z w64 w c.ranges.w, to_z-of_z w64 c.lo.result lo) at c.product-lo.ensures.is in
    let high : c.product-hi.result ≡ w *ℤ c.hi.result = rw (to_z-of_z w64 w c.ranges.w, to_z-of_z w64 c.hi.result hi) at c.product-hi.ensures.is in
    let span = span_above w c.lo.result c.hi.result c.args.t box (omega (arith, ints, c.if-w-lt0.false)) c.lo.ensures.is c.hi.ensures.greatest (subst IsSmall low c.product-lo.ensures.small) (subst IsSmall high c.product-hi.ensures.small) in
    rw (to_z-of_z w64 c.product-lo.result first, to_z-of_z w64 c.product-hi.result second) (subst (λ (z : ℤ). IsSpan box (Times w c.args.t) c.product-lo.result z) (sym high) (subst (λ (z : ℤ). IsSpan box (Times w c.args.t) z (w *ℤ c.hi.result)) (sym low) span))
