use Rattle.std.proofs.Common.{◌≤ℤ◌, FitsSigned, rules, w64, subst}
use Rattle.std.proofs.lemmas.Int.{to_z-of_z}
use Rattle.mn_arith.proofs.Distances.{either_is}
use Rattle.mn_arith.proofs.Products.{least_multiple_so}
use Rattle.mn_arith.proofs.span.Span.least_multiple.Goals as goal

pub returns : goal.returns
returns c =
    let lo : FitsSigned w64 c.args.self.lo = search rules in
    let hi : FitsSigned w64 c.args.self.hi = search rules in
    let p : FitsSigned w64 c.times.result = search rules in
    let q : FitsSigned w64 c.times-2.result = search rules in
    let m : FitsSigned w64 c.lesser.result = search rules in
    let one = rw (to_z-of_z w64 c.args.a c.ranges.a, to_z-of_z w64 c.args.self.lo lo) at c.times.ensures in
    let two = rw (to_z-of_z w64 c.args.a c.ranges.a, to_z-of_z w64 c.args.self.hi hi) at c.times-2.ensures in
    let least = rw (to_z-of_z w64 c.times.result p, to_z-of_z w64 c.times-2.result q) at c.lesser.ensures in
    rw (to_z-of_z w64 c.lesser.result m) (least_multiple_so c.args.a c.lesser.result c.args.self c.requires.own.filled (subst (λ x. c.lesser.result ≤ℤ x) one least.first) (subst (λ x. c.lesser.result ≤ℤ x) two least.second) (either_is least.one one two))
