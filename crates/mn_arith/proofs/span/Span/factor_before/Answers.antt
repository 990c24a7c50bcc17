use Rattle.std.proofs.Common.{◌≡◌, ◌-ℤ◌, pos, FitsSigned, to_z, of_z, rules, w64, arith}
use Rattle.std.proofs.lemmas.Int.{ints, to_z-of_z}
use Rattle.mn_arith.proofs.Factors.{before_so}
use Rattle.mn_arith.proofs.span.Span.factor_before.Goals as goal

pub returns : goal.returns
returns c =
    let one : FitsSigned w64 c.leap_back.result = search rules in
    let two : FitsSigned w64 c.leap_back-2.result = search rules in
    let far : FitsSigned w64 c.greater-last.result = search rules in
    let up : FitsSigned w64 c.greater.result = search rules in
    let last : FitsSigned w64 c.lesser.result = search rules in
    let bounds = c.requires.near in
    let front : to_z w64 (of_z w64 (to_z w64 (of_z w64 c.args.a) -ℤ pos 1)) ≡ c.args.a -ℤ pos 1 = omega (arith, ints, bounds.0, bounds.1) in
    let first = rw (to_z-of_z w64 c.args.a c.ranges.a) at c.leap_back.ensures in
    let second = rw (to_z-of_z w64 c.args.a c.ranges.a) at c.leap_back-2.ensures in
    let greatest = rw (to_z-of_z w64 c.leap_back.result one, to_z-of_z w64 c.leap_back-2.result two) at c.greater-last.ensures in
    let rises = rw (to_z-of_z w64 c.greater-last.result far) at c.greater.ensures in
    let lesser = rw (front, to_z-of_z w64 c.greater.result up) at c.lesser.ensures in
    rw (to_z-of_z w64 c.lesser.result last) (before_so c.args.a c.leap_back.result c.leap_back-2.result c.args.self c.opposite.result c.args.z c.opposite-2.result c.opposite.ensures.is c.opposite-2.ensures.is c.requires.none c.greater-last.result c.greater.result c.lesser.result c.requires.above first second greatest.first greatest.second rises.first rises.second lesser.first lesser.one)
