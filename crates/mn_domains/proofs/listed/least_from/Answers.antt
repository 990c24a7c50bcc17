use Rattle.std.proofs.Common.{◌+◌, pos, FitsSigned, slice_index_or, rules, w64, arith, subst}
use Rattle.std.proofs.lemmas.Int.{to_z-of_z}
use Rattle.mn_model.specs.Domain.{IsFirst}
use Rattle.mn_domains.proofs.Parts.{cut_low_part}
use Rattle.mn_domains.proofs.listed.least_from.Goals as goal

pub bounds-listed-ends : goal.bounds-listed-ends
bounds-listed-ends c =
    let rest = rw (c.part.ensures, to_z-of_z w64 c.args.a c.ranges.a) at c.places_below-skipped.ensures.others in
    let cut = cut_low_part c.args.listed.now c.args.ends c.args.a c.places_below-skipped.result c.requires.room c.requires.ascends c.requires.ends c.requires.high rest in
    omega (arith, cut.within, c.requires.room)

pub returns : goal.returns
returns c =
    let rest = rw (c.part.ensures, to_z-of_z w64 c.args.a c.ranges.a) at c.places_below-skipped.ensures.others in
    let cut = cut_low_part c.args.listed.now c.args.ends c.args.a c.places_below-skipped.result c.requires.room c.requires.ascends c.requires.ends c.requires.high rest in
    let value : FitsSigned w64 (slice_index_or c.args.listed.now (c.args.ends.place + c.places_below-skipped.result) (pos 0)) = search rules in
    rw (to_z-of_z w64 (slice_index_or c.args.listed.now (c.args.ends.place + c.places_below-skipped.result) (pos 0)) value) (subst (IsFirst (slice_index_or c.args.listed.now (c.args.ends.place + c.places_below-skipped.result) (pos 0))) cut.values cut.ends.first)
