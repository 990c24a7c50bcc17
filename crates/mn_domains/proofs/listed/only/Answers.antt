use Rattle.std.proofs.Common.{w64, arith}
use Rattle.std.proofs.lemmas.Int.{to_z-of_z}
use Rattle.mn_domains.proofs.Parts.{alone_part}
use Rattle.mn_domains.proofs.listed.only.Goals as goal

pub returns-clause-ends : goal.returns-clause-ends
returns-clause-ends c =
    let rest = rw (c.part.ensures, to_z-of_z w64 c.args.a c.ranges.a) at c.places_below-skipped.ensures.others in
    let one = alone_part c.args.listed.now c.args.ends c.args.a c.places_below-skipped.result c.requires.room c.requires.ascends c.requires.ends c.requires.has rest in
    rw (to_z-of_z w64 c.args.a c.ranges.a) one.ends

pub returns-clause-values : goal.returns-clause-values
returns-clause-values c =
    let rest = rw (c.part.ensures, to_z-of_z w64 c.args.a c.ranges.a) at c.places_below-skipped.ensures.others in
    (alone_part c.args.listed.now c.args.ends c.args.a c.places_below-skipped.result c.requires.room c.requires.ascends c.requires.ends c.requires.has rest).values

pub returns-clause-to : goal.returns-clause-to
returns-clause-to c =
    let rest = rw (c.part.ensures, to_z-of_z w64 c.args.a c.ranges.a) at c.places_below-skipped.ensures.others in
    let one = alone_part c.args.listed.now c.args.ends c.args.a c.places_below-skipped.result c.requires.room c.requires.ascends c.requires.ends c.requires.has rest in
    omega (arith, one.within)
