use Rattle.std.proofs.Common.{FitsSigned, rules, w64}
use Rattle.std.proofs.lemmas.Int.{to_z-of_z}
use Rattle.mn_domains.proofs.Marks.{high_mark}
use Rattle.mn_domains.proofs.Parts.{Ascends-part}
use Rattle.mn_domains.proofs.ShapeLemmas.{marked_first, stretch_first}
use Rattle.mn_domains.proofs.shape.least_from.Goals as goal

pub least_from-requires-clause-ascends : goal.least_from-requires-clause-ascends
least_from-requires-clause-ascends c =
    let listing = rw c.in-Listed.is at c.requires.shape in
    let within = rw c.in-Listed.is at c.requires.held.within in
    Ascends-part c.args.listed.now c.in-Listed.field-0 c.in-Listed.field-1 c.args.ends listing.ascends within.0 within.1

pub least_from-requires-in-Bits-clause-mark : goal.least_from-requires-in-Bits-clause-mark
least_from-requires-in-Bits-clause-mark c =
    let base : FitsSigned w64 c.in-Bits.lo = search rules in
    let high : FitsSigned w64 c.args.ends.hi = search rules in
    let ends = rw c.in-Bits.is at c.requires.held.ends in
    rw (to_z-of_z w64 c.in-Bits.lo base, to_z-of_z w64 c.args.ends.hi high) (high_mark c.args.bits.now c.in-Bits.lo c.in-Bits.at c.args.ends ends)

pub returns-in-Stretch : goal.returns-in-Stretch
returns-in-Stretch c = rw (to_z-of_z w64 c.args.a c.ranges.a, c.in-Stretch.is) (stretch_first c.args.ends.lo c.args.ends.hi c.args.a c.requires.low c.requires.high)

pub returns-in-Bits : goal.returns-in-Bits
returns-in-Bits c =
    let base : FitsSigned w64 c.in-Bits.lo = search rules in
    let high : FitsSigned w64 c.args.ends.hi = search rules in
    let value : FitsSigned w64 c.least_from-in-Bits.result = search rules in
    let e = rw (to_z-of_z w64 c.in-Bits.lo base, to_z-of_z w64 c.args.a c.ranges.a, to_z-of_z w64 c.args.ends.hi high) at c.least_from-in-Bits.ensures in
    rw (to_z-of_z w64 c.least_from-in-Bits.result value, c.in-Bits.is) (marked_first c.args.bits.now c.in-Bits.lo c.in-Bits.at c.args.ends c.args.a c.least_from-in-Bits.result c.requires.low c.requires.high (record { from = e.from; within = e.within; mark = e.mark; none = e.none }))
