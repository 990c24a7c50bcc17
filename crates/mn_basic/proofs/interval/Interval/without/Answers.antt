use Rattle.std.proofs.Common.{FitsSigned, rules, w64}
use Rattle.std.proofs.lemmas.Int.{to_z-of_z}
use Rattle.mn_basic.proofs.interval.Interval.without.Goals as goal

pub returns : goal.returns
returns c =
    let lo : FitsSigned w64 c.above.result = search rules in
    let hi : FitsSigned w64 c.below.result = search rules in
    let own_lo : FitsSigned w64 c.args.self.lo = search rules in
    let own_hi : FitsSigned w64 c.args.self.hi = search rules in
    let low = rw (to_z-of_z w64 c.args.self.lo own_lo, to_z-of_z w64 c.args.from c.ranges.from, to_z-of_z w64 c.args.to c.ranges.to) at c.above.ensures in
    let high = rw (to_z-of_z w64 c.args.self.hi own_hi, to_z-of_z w64 c.args.from c.ranges.from, to_z-of_z w64 c.args.to c.ranges.to) at c.below.ensures in
    rw (to_z-of_z w64 c.above.result lo, to_z-of_z w64 c.below.result hi) (λ b inside outside. (low b inside.0 outside, high b inside.1 outside))
