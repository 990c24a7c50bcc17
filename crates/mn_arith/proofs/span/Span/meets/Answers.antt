use Rattle.std.proofs.Common.{FitsSigned, arith, refl, rules, w64}
use Rattle.std.proofs.lemmas.Int.{ints}
use Rattle.mn_arith.proofs.Distances.{both_so}
use Rattle.mn_arith.proofs.span.Span.meets.Goals as goal

pub returns : goal.returns
returns c =
    let s = c.args.self in
    let lo : FitsSigned w64 s.lo = search rules in
    let hi : FitsSigned w64 s.hi = search rules in
    let from = c.ranges.lo in
    let to = c.ranges.hi in
    let low = c.if-hi-self.false in
    let high = c.if-self-lo.false in
    (λ e. both_so s c.args.lo c.args.hi c.requires.filled c.requires.other (omega (arith, ints, low, lo, to)) (omega (arith, ints, high, hi, from)), λ some. refl)
