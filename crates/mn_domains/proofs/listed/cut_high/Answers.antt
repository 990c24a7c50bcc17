use Rattle.std.proofs.Common.{◌≡◌, ◌+◌, ◌-◌, pos, ◌+ℤ◌, FitsSigned, int_lt, filter, take, slice_index_or, rules, w64, to_z, of_z, arith}
use Rattle.std.proofs.lemmas.Int.{to_z-of_z}
use Rattle.mn_domains.proofs.Parts.{cut_high_part}
use Rattle.mn_domains.proofs.listed.cut_high.Goals as goal

pub overflow_sub-result : goal.overflow_sub-result
overflow_sub-result c =
    let next : FitsSigned w64 (c.args.a +ℤ pos 1) = search rules in
    let below : filter (λ x. int_lt x (to_z w64 (of_z w64 (to_z w64 (of_z w64 c.args.a) +ℤ pos 1)))) c.part.result.now ≡ take c.places_below-size.result c.part.result.now = c.places_below-size.ensures.below in
    let front = rw (c.part.ensures, to_z-of_z w64 c.args.a c.ranges.a, to_z-of_z w64 (c.args.a +ℤ pos 1) next) at below in
    let within = rw c.part.ensures at c.places_below-size.ensures.within in
    let cut = cut_high_part c.args.listed.now c.args.ends c.args.a c.places_below-size.result c.requires.room c.requires.ascends c.requires.ends c.requires.low within front in
    omega (arith, cut.some)

pub returns-clause-ends : goal.returns-clause-ends
returns-clause-ends c =
    let next : FitsSigned w64 (c.args.a +ℤ pos 1) = search rules in
    let below : filter (λ x. int_lt x (to_z w64 (of_z w64 (to_z w64 (of_z w64 c.args.a) +ℤ pos 1)))) c.part.result.now ≡ take c.places_below-size.result c.part.result.now = c.places_below-size.ensures.below in
    let front = rw (c.part.ensures, to_z-of_z w64 c.args.a c.ranges.a, to_z-of_z w64 (c.args.a +ℤ pos 1) next) at below in
    let within = rw c.part.ensures at c.places_below-size.ensures.within in
    let cut = cut_high_part c.args.listed.now c.args.ends c.args.a c.places_below-size.result c.requires.room c.requires.ascends c.requires.ends c.requires.low within front in
    let low : FitsSigned w64 c.args.ends.lo = search rules in
    let high : FitsSigned w64 (slice_index_or c.args.listed.now (c.args.ends.place + c.places_below-size.result - 1) (pos 0)) = search rules in
    rw (to_z-of_z w64 c.args.ends.lo low, to_z-of_z w64 (slice_index_or c.args.listed.now (c.args.ends.place + c.places_below-size.result - 1) (pos 0)) high) cut.ends

pub returns-clause-values : goal.returns-clause-values
returns-clause-values c =
    let next : FitsSigned w64 (c.args.a +ℤ pos 1) = search rules in
    let below : filter (λ x. int_lt x (to_z w64 (of_z w64 (to_z w64 (of_z w64 c.args.a) +ℤ pos 1)))) c.part.result.now ≡ take c.places_below-size.result c.part.result.now = c.places_below-size.ensures.below in
    let front = rw (c.part.ensures, to_z-of_z w64 c.args.a c.ranges.a, to_z-of_z w64 (c.args.a +ℤ pos 1) next) at below in
    let within = rw c.part.ensures at c.places_below-size.ensures.within in
    (cut_high_part c.args.listed.now c.args.ends c.args.a c.places_below-size.result c.requires.room c.requires.ascends c.requires.ends c.requires.low within front).values
