use Rattle.std.proofs.Common.{FitsSigned, rules, w64, arith}
use Rattle.std.proofs.lemmas.Int.{ints, to_z-of_z}
use Rattle.mn_arith.proofs.Products.{exact_turned, greatest_product_so, least_small}
use Rattle.mn_arith.proofs.span.Span.greatest_product.Goals as goal

pub overflow_sub-result : goal.overflow_sub-result
overflow_sub-result c =
    let m : FitsSigned w64 c.least_product.result = search rules in
    let small = least_small c.opposite.result c.args.other c.least_product.result c.opposite.ensures.near c.requires.other c.least_product.ensures in
    rw (to_z-of_z w64 c.least_product.result m) (omega (arith, ints, small.0, small.1))

pub returns : goal.returns
returns c =
    let small = least_small c.opposite.result c.args.other c.least_product.result c.opposite.ensures.near c.requires.other c.least_product.ensures in
    rw (exact_turned c.least_product.result (omega (arith, ints, small.0)) (omega (arith, ints, small.1))) (greatest_product_so c.args.self c.opposite.result c.args.other c.least_product.result c.opposite.ensures.is c.least_product.ensures)
