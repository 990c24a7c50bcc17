use Rattle.std.proofs.Common.{FitsSigned, rules, w64, arith}
use Rattle.std.proofs.lemmas.Int.{ints, to_z-of_z}
use Rattle.mn_arith.proofs.Factors.{around_factors}
use Rattle.mn_arith.proofs.Products.{exact_turned}
use Rattle.mn_arith.proofs.span.Span.factors.Goals as goal

pub returns : goal.returns
returns c =
    let first : FitsSigned w64 c.first_factor.result = search rules in
    let from = c.first_factor-2.ensures.from in
    let to = c.first_factor-2.ensures.to in
    let low = c.opposite-2.ensures.near.low in
    let high = c.opposite-2.ensures.near.high in
    rw (to_z-of_z w64 c.first_factor.result first, exact_turned c.first_factor-2.result (omega (arith, ints, from, low.0)) (omega (arith, ints, to, high.1))) (around_factors c.args.x c.opposite-2.result c.args.self c.opposite.result c.args.z c.first_factor.result c.first_factor-2.result c.opposite-2.ensures.is c.opposite.ensures.is c.first_factor.ensures c.first_factor-2.ensures)
