use Rattle.std.proofs.Common.{FitsSigned, rules, w64}
use Rattle.std.proofs.lemmas.Int.{to_z-of_z}
use Rattle.mn_model.proofs.Ordered.{le_so, le_true}
use Rattle.mn_arith.proofs.Products.{at_most_m, from_m}
use Rattle.mn_arith.proofs.span.Span.has_product_from.Goals as goal

pub returns : goal.returns
returns c =
    let m : FitsSigned w64 c.greatest_product.result = search rules in
    rw (to_z-of_z w64 c.greatest_product.result m, to_z-of_z w64 c.args.a c.ranges.a) (
      (λ e. from_m c.args.self c.args.other c.greatest_product.result c.args.a c.greatest_product.ensures (le_so c.args.a c.greatest_product.result e)),
      λ some. le_true c.args.a c.greatest_product.result (at_most_m c.args.self c.args.other c.greatest_product.result c.args.a c.greatest_product.ensures some),
    )
