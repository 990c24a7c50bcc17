use Rattle.std.proofs.Common.{ℤ, FitsSigned, rules, w64, arith, subst, sym}
use Rattle.std.proofs.lemmas.Int.{ints}
use Rattle.mn_closure.specs.Supports.{product}
use Rattle.mn_arith.specs.Spans.{HasPartner, IsPartnerBefore}
use Rattle.mn_arith.proofs.Factors.{next_below, turned_partner}
use Rattle.mn_arith.proofs.Products.{exact_turned}
use Rattle.mn_arith.proofs.span.Span.next_factor.Goals as goal

pub factor_before-requires-clause-none : goal.factor_before-requires-clause-none
factor_before-requires-clause-none c =
    let near = c.requires.near in
    subst (λ (n : ℤ). HasPartner product n c.opposite.result c.args.z → ⊥) (sym (exact_turned c.args.a (omega (arith, ints, near.0)) (omega (arith, ints, near.1)))) (λ some. c.requires.none (turned_partner c.args.a c.args.self c.opposite.result c.args.z c.opposite.ensures.is some))

pub returns-then-a-lt0 : goal.returns-then-a-lt0
returns-then-a-lt0 c =
    let near = c.requires.near in
    let below = c.if-a-lt0.true in
    let fits = c.ranges.a in
    let last : FitsSigned w64 c.factor_before.result = search rules in
    let before = subst (λ (n : ℤ). IsPartnerBefore product n c.opposite.result c.args.z c.factor_before.result) (exact_turned c.args.a (omega (arith, ints, near.0)) (omega (arith, ints, near.1))) c.factor_before.ensures in
    let up = before.up in
    rw (exact_turned c.factor_before.result (omega (arith, ints, up)) (omega (arith, ints, last))) (next_below c.args.a c.factor_before.result c.args.self c.opposite.result c.args.z (omega (arith, ints, below, fits)) c.opposite.ensures.is before)
