use Rattle.std.proofs.Common.{FitsSigned, rules, w64, arith}
use Rattle.std.proofs.lemmas.Int.{ints, to_z-of_z}
use Rattle.mn_domains.proofs.Parts.{Ascends-part}
use Rattle.mn_domains.proofs.ShapeLemmas.{kept_low, row_held, stretch_from}
use Rattle.mn_domains.proofs.shape.cut_low.Goals as goal

pub cut_low-requires-clause-ascends : goal.cut_low-requires-clause-ascends
cut_low-requires-clause-ascends c =
    let listing = rw c.in-Listed.is at c.requires.shape in
    let within = rw c.in-Listed.is at c.requires.held.within in
    Ascends-part c.args.listed.now c.in-Listed.field-0 c.in-Listed.field-1 c.args.ends listing.ascends within.0 within.1

pub returns-in-Stretch-clause-values : goal.returns-in-Stretch-clause-values
returns-in-Stretch-clause-values c =
    let high : FitsSigned w64 c.args.ends.hi = search rules in
    let lo = rw (to_z-of_z w64 c.args.a c.ranges.a) at c.stretched.ensures.lo in
    let hi = rw (to_z-of_z w64 c.args.ends.hi high) at c.stretched.ensures.hi in
    rw (c.in-Stretch.is, lo, hi) (stretch_from c.args.ends.lo c.args.ends.hi c.args.a (omega (arith, ints)) c.requires.high)

pub returns-then-a-ends-clause-values : goal.returns-then-a-ends-clause-values
returns-then-a-ends-clause-values c = kept_low c.args.listed.now c.args.bits.now _ c.args.shape c.args.ends c.args.a c.requires.shape c.requires.held (omega (arith, ints))

pub cut_low-requires-in-Bits-clause-row : goal.cut_low-requires-in-Bits-clause-row
cut_low-requires-in-Bits-clause-row c =
    let base : FitsSigned w64 c.in-Bits.lo = search rules in
    let shaped = rw c.in-Bits.is at c.requires.shape in
    let within = rw c.in-Bits.is at c.requires.held.within in
    rw (to_z-of_z w64 c.in-Bits.lo base) (row_held c.args.bits.now c.in-Bits.lo c.in-Bits.field-1 c.in-Bits.at c.args.ends shaped.0 shaped.1 within.0 c.requires.held.ends.ordered within.1)

pub returns-in-Bits-clause-held : goal.returns-in-Bits-clause-held
returns-in-Bits-clause-held c =
    let base : FitsSigned w64 c.in-Bits.lo = search rules in
    let e = rw (to_z-of_z w64 c.in-Bits.lo base) at c.cut_low-in-Bits.ensures in
    let within = rw c.in-Bits.is at c.requires.held.within in
    rw c.in-Bits.is (record { ends = e.ends; within = (e.row.low, omega (arith, ints, e.high, within.1)) })
