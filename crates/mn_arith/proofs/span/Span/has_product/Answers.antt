use Rattle.std.proofs.Common.{◌≡◌, ◌↔◌, IsTrue, ℤ, pos, FitsSigned, rules, w64, arith, subst}
use Rattle.std.proofs.lemmas.Int.{ints, to_z-of_z}
use Rattle.mn_model.proofs.Ordered.{le_true}
use Rattle.mn_closure.specs.Supports.{product}
use Rattle.mn_arith.specs.Spans.{HasPartner}
use Rattle.mn_arith.proofs.Factors.{none_of_zero, partner_turned, partner_zero, turned_partner}
use Rattle.mn_arith.proofs.Products.{exact_turned}
use Rattle.mn_arith.proofs.span.Span.has_product.Goals as goal

pub returns-then-a-gt0 : goal.returns-then-a-gt0
returns-then-a-gt0 c = rw (to_z-of_z w64 c.args.a c.ranges.a) at c.has_multiple.ensures

pub returns-then-a-lt0 : goal.returns-then-a-lt0
returns-then-a-lt0 c =
    let a = c.args.a in
    let near = c.requires.near in
    let told = subst (λ (n : ℤ). IsTrue c.has_multiple-then-a-lt0.result ↔ HasPartner product n c.opposite.result c.args.z) (exact_turned a (omega (arith, ints, near.0)) (omega (arith, ints, near.1))) c.has_multiple-then-a-lt0.ensures in
    (λ e. turned_partner a c.args.self c.opposite.result c.args.z c.opposite.ensures.is (told.0 e), λ some. told.1 (partner_turned a c.args.self c.opposite.result c.args.z c.opposite.ensures.is some))

pub returns : goal.returns
returns c =
    let s = c.args.self in
    let z = c.args.z in
    let lo : FitsSigned w64 c.args.z.lo = search rules in
    let hi : FitsSigned w64 c.args.z.hi = search rules in
    let up = c.if-a-gt0.false in
    let down = c.if-a-lt0.false in
    let low = c.if-z-gt0.false in
    let fits = c.ranges.a in
    let is_zero : c.args.a ≡ pos 0 = omega (arith, ints, up, down, fits) in
    rw (to_z-of_z w64 c.args.z.hi hi) (
      (λ e. partner_zero c.args.a s z is_zero c.requires.own.filled (omega (arith, ints, low, lo)) (omega (arith, ints, e))),
      λ some. le_true (pos 0) c.args.z.hi (none_of_zero c.args.a s z is_zero some).1,
    )
