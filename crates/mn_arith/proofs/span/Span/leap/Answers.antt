use Rattle.std.proofs.Common.{FitsSigned, rules, w64, arith}
use Rattle.std.proofs.lemmas.Int.{ints, to_z-of_z}
use Rattle.mn_arith.proofs.Factors.{leap_so, no_leap}
use Rattle.mn_arith.proofs.span.Span.leap.Goals as goal

pub returns-then-most-greater : goal.returns-then-most-greater
returns-then-most-greater c = λ b le some.
    let lo : FitsSigned w64 c.args.self.lo = search rules in
    let hi : FitsSigned w64 c.args.self.hi = search rules in
    let top : FitsSigned w64 c.args.z.hi = search rules in
    let q : FitsSigned w64 c.floor.result = search rules in
    let m : FitsSigned w64 c.lesser-most.result = search rules in
    let g : FitsSigned w64 c.greater.result = search rules in
    let quotient = rw (to_z-of_z w64 c.args.z.hi top, to_z-of_z w64 c.args.a c.ranges.a) at c.floor.ensures in
    let most = rw (to_z-of_z w64 c.args.self.hi hi, to_z-of_z w64 c.floor.result q) at c.lesser-most.ensures in
    let low = rw (to_z-of_z w64 c.args.self.lo lo) at c.greater.ensures in
    let less = c.if-most-greater.true in
    absurd (no_leap c.args.a c.floor.result c.lesser-most.result c.args.self c.args.z c.requires.above quotient most.one c.greater.result (omega (arith, ints, less, m, g)) low.one b le some)

pub returns : goal.returns
returns c = λ b le some.
    let hi : FitsSigned w64 c.args.self.hi = search rules in
    let bottom : FitsSigned w64 c.args.z.lo = search rules in
    let top : FitsSigned w64 c.args.z.hi = search rules in
    let q : FitsSigned w64 c.floor.result = search rules in
    let m : FitsSigned w64 c.lesser-most.result = search rules in
    let n : FitsSigned w64 c.ceiling.result = search rules in
    let quotient = rw (to_z-of_z w64 c.args.z.hi top, to_z-of_z w64 c.args.a c.ranges.a) at c.floor.ensures in
    let most = rw (to_z-of_z w64 c.args.self.hi hi, to_z-of_z w64 c.floor.result q) at c.lesser-most.ensures in
    let enough = rw (to_z-of_z w64 c.args.z.lo bottom, to_z-of_z w64 c.lesser-most.result m) at c.ceiling.ensures in
    rw (to_z-of_z w64 c.ceiling.result n) (leap_so c.args.a c.floor.result c.lesser-most.result c.args.self c.args.z c.requires.above quotient most.one c.ceiling.result enough b le some)
