use Rattle.std.proofs.Common.{FitsSigned, rules, w64, subst}
use Rattle.std.proofs.lemmas.Int.{to_z-of_z}
use Rattle.std.specs.Prelude.{◌≤ℤ◌}
use Rattle.mn_arith.proofs.Distances.{distances_so, either_is}
use Rattle.mn_arith.proofs.span.Span.distances.Goals as goal

pub returns : goal.returns
returns c =
    let a : FitsSigned w64 c.args.self.lo = search rules in
    let b : FitsSigned w64 c.args.self.hi = search rules in
    let d : FitsSigned w64 c.args.other.lo = search rules in
    let e : FitsSigned w64 c.args.other.hi = search rules in
    let l : FitsSigned w64 c.less.result = search rules in
    let m : FitsSigned w64 c.less-2.result = search rules in
    let n : FitsSigned w64 c.less-3.result = search rules in
    let o : FitsSigned w64 c.less-4.result = search rules in
    let p : FitsSigned w64 c.greater-apart.result = search rules in
    let q : FitsSigned w64 c.greater.result = search rules in
    let r : FitsSigned w64 c.greater-2.result = search rules in
    let one = rw (to_z-of_z w64 c.args.self.lo a, to_z-of_z w64 c.args.other.hi e) at c.less.ensures in
    let two = rw (to_z-of_z w64 c.args.other.lo d, to_z-of_z w64 c.args.self.hi b) at c.less-2.ensures in
    let three = rw (to_z-of_z w64 c.args.self.hi b, to_z-of_z w64 c.args.other.lo d) at c.less-3.ensures in
    let four = rw (to_z-of_z w64 c.args.other.hi e, to_z-of_z w64 c.args.self.lo a) at c.less-4.ensures in
    let apart = rw (to_z-of_z w64 c.less.result l, to_z-of_z w64 c.less-2.result m) at c.greater-apart.ensures in
    let least = rw (to_z-of_z w64 c.greater-apart.result p) at c.greater.ensures in
    let most = rw (to_z-of_z w64 c.less-3.result n, to_z-of_z w64 c.less-4.result o) at c.greater-2.ensures in
    rw (to_z-of_z w64 c.greater.result q, to_z-of_z w64 c.greater-2.result r) (distances_so c.args.self c.args.other c.greater-apart.result c.greater.result c.greater-2.result (either_is apart.one one two) least.one (subst (λ x. x ≤ℤ c.greater-2.result) three most.first) (subst (λ x. x ≤ℤ c.greater-2.result) four most.second))
