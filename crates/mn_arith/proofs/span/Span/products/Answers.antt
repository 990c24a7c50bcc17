use Rattle.std.proofs.Common.{FitsSigned, rules, w64}
use Rattle.std.proofs.lemmas.Int.{to_z-of_z}
use Rattle.mn_arith.proofs.Products.{at_least_m, at_most_m}
use Rattle.mn_arith.proofs.span.Span.products.Goals as goal

pub returns : goal.returns
returns c = λ a below above.
    let low : FitsSigned w64 c.least_product.result = search rules in
    let high : FitsSigned w64 c.greatest_product.result = search rules in
    rw (to_z-of_z w64 c.least_product.result low, to_z-of_z w64 c.greatest_product.result high) (
      at_least_m c.args.self c.args.other c.least_product.result a c.least_product.ensures below,
      at_most_m c.args.self c.args.other c.greatest_product.result a c.greatest_product.ensures above,
    )
