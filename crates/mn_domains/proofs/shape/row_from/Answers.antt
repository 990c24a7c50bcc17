use Rattle.std.proofs.Common.{FitsSigned, rules, w64, arith}
use Rattle.std.proofs.lemmas.Int.{ints, to_z-of_z}
use Rattle.mn_domains.proofs.Hits.{bits_reads, stretch_reads}
use Rattle.mn_domains.proofs.ShapeLemmas.{row_held, value_between}
use Rattle.mn_domains.proofs.shape.row_from.Goals as goal

pub returns-in-Stretch : goal.returns-in-Stretch
returns-in-Stretch c =
    let high : FitsSigned w64 c.args.ends.hi = search rules in
    let shaped = rw c.in-Stretch.is at c.requires.shape in
    let within = rw c.in-Stretch.is at c.requires.held.within in
    let order = c.requires.high in
    let low = c.requires.low in
    let spans = rw (to_z-of_z w64 c.args.from c.ranges.from, to_z-of_z w64 c.args.ends.hi high) at c.stretch_row.ensures.spans in
    rw c.in-Stretch.is (stretch_reads c.args.bits.now c.args.ends c.args.from c.stretch_row.result (value_between _ _ c.args.from shaped.low shaped.high (omega (arith, ints, within.0, low)) (omega (arith, ints, within.1, order))) (value_between _ _ c.args.ends.hi shaped.low shaped.high (omega (arith, ints, within.0, low, order)) within.1) low order spans c.stretch_row.ensures.full)

pub returns-in-Bits : goal.returns-in-Bits
returns-in-Bits c =
    let base : FitsSigned w64 c.in-Bits.lo = search rules in
    let high : FitsSigned w64 c.args.ends.hi = search rules in
    let shaped = rw c.in-Bits.is at c.requires.shape in
    let within = rw c.in-Bits.is at c.requires.held.within in
    let order = c.requires.high in
    let low = c.requires.low in
    let spans = rw (to_z-of_z w64 c.args.from c.ranges.from, to_z-of_z w64 c.args.ends.hi high) at c.row.ensures.spans in
    let raise = rw (to_z-of_z w64 c.in-Bits.lo base) at c.row.ensures.raise in
    let to = rw (to_z-of_z w64 c.in-Bits.lo base, to_z-of_z w64 c.args.ends.hi high) at c.row.ensures.to in
    let held = row_held c.args.bits.now c.in-Bits.lo c.in-Bits.field-1 c.in-Bits.at c.args.ends shaped.0 shaped.1 within.0 c.requires.held.ends.ordered within.1 in
    let room = held.room.within in
    rw c.in-Bits.is (bits_reads c.args.bits.now c.in-Bits.lo c.in-Bits.at c.args.ends c.args.from c.row.result shaped.0.low (value_between c.in-Bits.lo c.in-Bits.field-1 c.args.from shaped.0.low shaped.0.high (omega (arith, ints, within.0, low)) (omega (arith, ints, within.1, order))) (value_between c.in-Bits.lo c.in-Bits.field-1 c.args.ends.hi shaped.0.low shaped.0.high (omega (arith, ints, within.0, low, order)) within.1) within.0 low order spans raise c.row.ensures.plain (omega (arith, to, room)))
