use Rattle.std.proofs.Common.{FitsSigned, rules, w64}
use Rattle.std.proofs.lemmas.Int.{to_z-of_z}
use Rattle.mn_arith.proofs.Products.{least_product_so}
use Rattle.mn_arith.proofs.span.Span.least_product.Goals as goal

pub returns : goal.returns
returns c =
    let lo : FitsSigned w64 c.args.self.lo = search rules in
    let hi : FitsSigned w64 c.args.self.hi = search rules in
    let p : FitsSigned w64 c.least_multiple.result = search rules in
    let q : FitsSigned w64 c.least_multiple-2.result = search rules in
    let m : FitsSigned w64 c.lesser.result = search rules in
    let one = rw (to_z-of_z w64 c.args.self.lo lo) at c.least_multiple.ensures in
    let two = rw (to_z-of_z w64 c.args.self.hi hi) at c.least_multiple-2.ensures in
    let least = rw (to_z-of_z w64 c.least_multiple.result p, to_z-of_z w64 c.least_multiple-2.result q) at c.lesser.ensures in
    rw (to_z-of_z w64 c.lesser.result m) (least_product_so c.args.self c.args.other c.least_multiple.result c.least_multiple-2.result c.lesser.result c.requires.own.filled one two least.first least.second least.one)
