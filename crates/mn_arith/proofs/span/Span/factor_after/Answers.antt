use Rattle.std.proofs.Common.{◌≡◌, ◌+ℤ◌, pos, FitsSigned, to_z, of_z, rules, w64, arith}
use Rattle.std.proofs.lemmas.Int.{ints, to_z-of_z}
use Rattle.mn_arith.proofs.Factors.{after_so}
use Rattle.mn_arith.proofs.span.Span.factor_after.Goals as goal

pub returns : goal.returns
returns c =
    let one : FitsSigned w64 c.leap.result = search rules in
    let two : FitsSigned w64 c.leap-2.result = search rules in
    let near : FitsSigned w64 c.lesser-next.result = search rules in
    let last : FitsSigned w64 c.greater.result = search rules in
    let bounds = c.requires.near in
    let behind : to_z w64 (of_z w64 (to_z w64 (of_z w64 c.args.a) +ℤ pos 1)) ≡ c.args.a +ℤ pos 1 = omega (arith, ints, bounds.0, bounds.1) in
    let first = rw (to_z-of_z w64 c.args.a c.ranges.a) at c.leap.ensures in
    let second = rw (to_z-of_z w64 c.args.a c.ranges.a) at c.leap-2.ensures in
    let lesser = rw (to_z-of_z w64 c.leap.result one, to_z-of_z w64 c.leap-2.result two) at c.lesser-next.ensures in
    let greater = rw (behind, to_z-of_z w64 c.lesser-next.result near) at c.greater.ensures in
    rw (to_z-of_z w64 c.greater.result last) (after_so c.args.a c.leap.result c.leap-2.result c.args.self c.opposite.result c.args.z c.opposite-2.result c.opposite.ensures.is c.opposite-2.ensures.is c.requires.none c.lesser-next.result c.greater.result first second lesser.first lesser.second greater.first greater.one)
