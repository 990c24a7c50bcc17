use Rattle.std.proofs.Common.{FitsSigned, rules, w64}
use Rattle.std.proofs.lemmas.Int.{to_z-of_z}
use Rattle.mn_domains.proofs.Hits.{marks}
use Rattle.mn_domains.proofs.ShapeLemmas.{row_held}
use Rattle.mn_domains.proofs.shape.marked_row.Goals as goal

pub returns-in-Bits : goal.returns-in-Bits
returns-in-Bits c =
    let base : FitsSigned w64 c.in-Bits.lo = search rules in
    let low : FitsSigned w64 c.args.ends.lo = search rules in
    let high : FitsSigned w64 c.args.ends.hi = search rules in
    let shaped = rw c.in-Bits.is at c.requires.shape in
    let within = rw c.in-Bits.is at c.requires.held.within in
    let ends = rw c.in-Bits.is at c.requires.held.ends in
    let held = row_held c.args.bits.now c.in-Bits.lo c.in-Bits.field-1 c.in-Bits.at c.args.ends shaped.0 shaped.1 within.0 c.requires.held.ends.ordered within.1 in
    let row = rw (to_z-of_z w64 c.in-Bits.lo base, to_z-of_z w64 c.args.ends.lo low, to_z-of_z w64 c.args.ends.hi high) at c.row.ensures in
    rw c.in-Bits.is (marks c.args.bits.now c.in-Bits.lo c.in-Bits.at c.args.ends c.row.result shaped.0.low held ends row.spans row.raise row.plain row.from row.to)
