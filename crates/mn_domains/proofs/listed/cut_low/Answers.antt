use Rattle.std.proofs.Common.{◌+◌, pos, FitsSigned, slice_index_or, rules, w64, arith}
use Rattle.std.proofs.lemmas.Int.{to_z-of_z}
use Rattle.mn_domains.proofs.Parts.{cut_low_part}
use Rattle.mn_domains.proofs.listed.cut_low.Goals as goal

pub bounds-listed-place : goal.bounds-listed-place
bounds-listed-place c =
    let rest = rw (c.part.ensures, to_z-of_z w64 c.args.a c.ranges.a) at c.places_below-skipped.ensures.others in
    let cut = cut_low_part c.args.listed.now c.args.ends c.args.a c.places_below-skipped.result c.requires.room c.requires.ascends c.requires.ends c.requires.high rest in
    omega (arith, cut.within, c.requires.room)

pub returns-clause-ends : goal.returns-clause-ends
returns-clause-ends c =
    let rest = rw (c.part.ensures, to_z-of_z w64 c.args.a c.ranges.a) at c.places_below-skipped.ensures.others in
    let cut = cut_low_part c.args.listed.now c.args.ends c.args.a c.places_below-skipped.result c.requires.room c.requires.ascends c.requires.ends c.requires.high rest in
    let low : FitsSigned w64 (slice_index_or c.args.listed.now (c.args.ends.place + c.places_below-skipped.result) (pos 0)) = search rules in
    let high : FitsSigned w64 c.args.ends.hi = search rules in
    rw (to_z-of_z w64 (slice_index_or c.args.listed.now (c.args.ends.place + c.places_below-skipped.result) (pos 0)) low, to_z-of_z w64 c.args.ends.hi high) cut.ends

pub returns-clause-values : goal.returns-clause-values
returns-clause-values c =
    let rest = rw (c.part.ensures, to_z-of_z w64 c.args.a c.ranges.a) at c.places_below-skipped.ensures.others in
    (cut_low_part c.args.listed.now c.args.ends c.args.a c.places_below-skipped.result c.requires.room c.requires.ascends c.requires.ends c.requires.high rest).values
