use Rattle.std.proofs.Common.{FitsSigned, rules, w64}
use Rattle.std.proofs.lemmas.Int.{to_z-of_z}
use Rattle.mn_model.proofs.Ordered.{le_so, le_true}
use Rattle.mn_arith.proofs.Products.{at_least_m, to_m}
use Rattle.mn_arith.proofs.span.Span.has_product_to.Goals as goal

pub returns : goal.returns
returns c =
    let m : FitsSigned w64 c.least_product.result = search rules in
    rw (to_z-of_z w64 c.least_product.result m, to_z-of_z w64 c.args.a c.ranges.a) (
      (λ e. to_m c.args.self c.args.other c.least_product.result c.args.a c.least_product.ensures (le_so c.least_product.result c.args.a e)),
      λ some. le_true c.least_product.result c.args.a (at_least_m c.args.self c.args.other c.least_product.result c.args.a c.least_product.ensures some),
    )
