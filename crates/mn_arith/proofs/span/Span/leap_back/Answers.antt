use Rattle.std.proofs.Common.{FitsSigned, rules, w64, arith}
use Rattle.std.proofs.lemmas.Int.{ints, to_z-of_z}
use Rattle.mn_arith.proofs.Factors.{back_so, no_back}
use Rattle.mn_arith.proofs.span.Span.leap_back.Goals as goal

pub returns-then-self-least : goal.returns-then-self-least
returns-then-self-least c = λ b up le some.
    let lo : FitsSigned w64 c.args.self.lo = search rules in
    let hi : FitsSigned w64 c.args.self.hi = search rules in
    let bottom : FitsSigned w64 c.args.z.lo = search rules in
    let q : FitsSigned w64 c.ceiling.result = search rules in
    let g : FitsSigned w64 c.greater.result = search rules in
    let m : FitsSigned w64 c.greater-least.result = search rules in
    let quotient = rw (to_z-of_z w64 c.args.z.lo bottom, to_z-of_z w64 c.args.a c.ranges.a) at c.ceiling.ensures in
    let low = rw (to_z-of_z w64 c.args.self.lo lo) at c.greater.ensures in
    let least = rw (to_z-of_z w64 c.greater.result g, to_z-of_z w64 c.ceiling.result q) at c.greater-least.ensures in
    let less = c.if-self-least.true in
    absurd (no_back c.args.a c.ceiling.result c.greater.result c.greater-least.result c.args.self c.args.z quotient low.one least.one (omega (arith, ints, less, m, hi)) b le some)

pub returns : goal.returns
returns c = λ b up le some.
    let lo : FitsSigned w64 c.args.self.lo = search rules in
    let bottom : FitsSigned w64 c.args.z.lo = search rules in
    let top : FitsSigned w64 c.args.z.hi = search rules in
    let q : FitsSigned w64 c.ceiling.result = search rules in
    let g : FitsSigned w64 c.greater.result = search rules in
    let m : FitsSigned w64 c.greater-least.result = search rules in
    let n : FitsSigned w64 c.floor.result = search rules in
    let quotient = rw (to_z-of_z w64 c.args.z.lo bottom, to_z-of_z w64 c.args.a c.ranges.a) at c.ceiling.ensures in
    let low = rw (to_z-of_z w64 c.args.self.lo lo) at c.greater.ensures in
    let least = rw (to_z-of_z w64 c.greater.result g, to_z-of_z w64 c.ceiling.result q) at c.greater-least.ensures in
    let fits = rw (to_z-of_z w64 c.args.z.hi top, to_z-of_z w64 c.greater-least.result m) at c.floor.ensures in
    rw (to_z-of_z w64 c.floor.result n) (back_so c.args.a c.ceiling.result c.greater.result c.greater-least.result c.args.self c.args.z quotient low.one least.one c.floor.result fits b up le some)
