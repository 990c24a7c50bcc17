use Rattle.std.proofs.Common.{FitsSigned, rules, w64, to_z, of_z, pos, ◌+ℤ◌, ◌<◌, ◌<ℤ◌, ◌≤ℤ◌, arith}
use Rattle.std.specs.Int.{int_gap}
use Rattle.std.proofs.lemmas.Int.{ints, to_z-of_z}
use Rattle.mn_domains.specs.Held.{values_held}
use Rattle.mn_domains.proofs.EndLemmas.{between_ends, has_hi, has_lo}
use Rattle.mn_domains.proofs.ShapeLemmas.{Ascends-held}
use Rattle.mn_domains.proofs.Sifted.{covered_wide, fits_next, follows, gathered_all, gathered_first, gathered_next, gathered_span}
use Rattle.mn_domains.proofs.shape.gather.Goals as goal

pub insert_span-requires-clause-low : goal.insert_span-requires-clause-low
insert_span-requires-clause-low c =
    let low : FitsSigned w64 c.args.ends.lo = search rules in
    let xs = values_held c.args.listed.now c.args.bits.now c.args.shape c.args.ends in
    let up = Ascends-held c.args.listed.now c.args.bits.now _ c.args.shape c.args.ends c.requires.shape c.requires.held.within in
    rw (to_z-of_z w64 c.args.ends.lo low) (c.requires.covered c.args.ends.lo (has_lo xs c.args.ends up c.requires.held.ends))

pub insert_span-requires-clause-high : goal.insert_span-requires-clause-high
insert_span-requires-clause-high c =
    let high : FitsSigned w64 c.args.ends.hi = search rules in
    let xs = values_held c.args.listed.now c.args.bits.now c.args.shape c.args.ends in
    let up = Ascends-held c.args.listed.now c.args.bits.now _ c.args.shape c.args.ends c.requires.shape c.requires.held.within in
    rw (to_z-of_z w64 c.args.ends.hi high) (c.requires.covered c.args.ends.hi (has_hi xs c.args.ends up c.requires.held.ends))

pub returns-in-Stretch-clause-members : goal.returns-in-Stretch-clause-members
returns-in-Stretch-clause-members c =
    let low : FitsSigned w64 c.args.ends.lo = search rules in
    let high : FitsSigned w64 c.args.ends.hi = search rules in
    let tells = rw (to_z-of_z w64 c.args.ends.lo low, to_z-of_z w64 c.args.ends.hi high) at c.insert_span.ensures.members in
    rw c.in-Stretch.is (gathered_span c.args.ends.lo c.args.ends.hi c.args.into.now c.insert_span.new.self c.requires.held.ends.ordered tells)

pub insert-requires : goal.insert-requires
insert-requires c =
    let low : FitsSigned w64 c.args.ends.lo = search rules in
    let xs = values_held c.args.listed.now c.args.bits.now c.args.shape c.args.ends in
    let up = Ascends-held c.args.listed.now c.args.bits.now _ c.args.shape c.args.ends c.requires.shape c.requires.held.within in
    rw (to_z-of_z w64 c.args.ends.lo low) (c.requires.covered c.args.ends.lo (has_lo xs c.args.ends up c.requires.held.ends))

pub loop-value-init : goal.loop-value-init
loop-value-init c =
    let low : FitsSigned w64 c.args.ends.lo = search rules in
    let xs = values_held c.args.listed.now c.args.bits.now c.args.shape c.args.ends in
    let up = Ascends-held c.args.listed.now c.args.bits.now _ c.args.shape c.args.ends c.requires.shape c.requires.held.within in
    let tells = rw (to_z-of_z w64 c.args.ends.lo low) at c.insert.ensures.members in
    rw (to_z-of_z w64 c.args.ends.lo low) (gathered_first xs c.args.ends c.args.into.now c.insert.new.self up c.requires.held.ends c.insert.ensures.wide tells)

pub least_from-value-requires : goal.least_from-value-requires
least_from-value-requires c =
    let value = to_z w64 c.loop-value.value-bits in
    let next : FitsSigned w64 (value +ℤ pos 1) = fits_next value c.args.ends.hi (search rules) (search rules) (omega (arith, ints)) in
    let xs = values_held c.args.listed.now c.args.bits.now c.args.shape c.args.ends in
    let up = Ascends-held c.args.listed.now c.args.bits.now _ c.args.shape c.args.ends c.requires.shape c.requires.held.within in
    let b = between_ends xs c.args.ends value up c.requires.held.ends c.loop-value.invariant.has in
    let low = b.low in
    let less : value <ℤ c.args.ends.hi = omega (arith, ints) in
    rw (to_z-of_z w64 (value +ℤ pos 1) next) (record { shape = c.requires.shape; held = c.requires.held; low = omega (arith, ints, low); high = omega (arith, ints, less) })

pub insert-requires-in-loop-value : goal.insert-requires-in-loop-value
insert-requires-in-loop-value c =
    let value = to_z w64 c.loop-value.value-bits in
    let next : FitsSigned w64 (value +ℤ pos 1) = fits_next value c.args.ends.hi (search rules) (search rules) (omega (arith, ints)) in
    let found : FitsSigned w64 c.least_from-value.result = search rules in
    let xs = values_held c.args.listed.now c.args.bits.now c.args.shape c.args.ends in
    let up = Ascends-held c.args.listed.now c.args.bits.now _ c.args.shape c.args.ends c.requires.shape c.requires.held.within in
    let first = rw (to_z-of_z w64 (value +ℤ pos 1) next) at c.least_from-value.ensures in
    let f = follows xs c.args.ends value c.least_from-value.result up c.requires.held.ends first in
    rw (to_z-of_z w64 c.least_from-value.result found) (covered_wide c.args.into.now c.loop-value.into c.least_from-value.result c.loop-value.invariant.wide (c.requires.covered c.least_from-value.result f.has))

pub loop-value-smaller : goal.loop-value-smaller
loop-value-smaller c =
    let value = to_z w64 c.loop-value.value-bits in
    let next : FitsSigned w64 (value +ℤ pos 1) = fits_next value c.args.ends.hi (search rules) (search rules) (omega (arith, ints)) in
    let found : FitsSigned w64 c.least_from-value.result = search rules in
    let xs = values_held c.args.listed.now c.args.bits.now c.args.shape c.args.ends in
    let up = Ascends-held c.args.listed.now c.args.bits.now _ c.args.shape c.args.ends c.requires.shape c.requires.held.within in
    let first = rw (to_z-of_z w64 (value +ℤ pos 1) next) at c.least_from-value.ensures in
    let f = follows xs c.args.ends value c.least_from-value.result up c.requires.held.ends first in
    let less : int_gap (to_z w64 (of_z w64 c.least_from-value.result)) c.args.ends.hi < int_gap value c.args.ends.hi = rw (to_z-of_z w64 c.least_from-value.result found) f.gap in
    less

pub loop-value-preserved : goal.loop-value-preserved
loop-value-preserved c =
    let value = to_z w64 c.loop-value.value-bits in
    let next : FitsSigned w64 (value +ℤ pos 1) = fits_next value c.args.ends.hi (search rules) (search rules) (omega (arith, ints)) in
    let found : FitsSigned w64 c.least_from-value.result = search rules in
    let xs = values_held c.args.listed.now c.args.bits.now c.args.shape c.args.ends in
    let up = Ascends-held c.args.listed.now c.args.bits.now _ c.args.shape c.args.ends c.requires.shape c.requires.held.within in
    let first = rw (to_z-of_z w64 (value +ℤ pos 1) next) at c.least_from-value.ensures in
    let tells = rw (to_z-of_z w64 c.least_from-value.result found) at c.insert-in-loop-value.ensures.members in
    rw (to_z-of_z w64 c.least_from-value.result found) (gathered_next xs c.args.into.now c.loop-value.into c.insert-in-loop-value.new.self value c.least_from-value.result up c.loop-value.invariant first c.insert-in-loop-value.ensures.wide tells)

pub returns : goal.returns
returns c =
    let value = to_z w64 c.loop-value.value-bits in
    let xs = values_held c.args.listed.now c.args.bits.now c.args.shape c.args.ends in
    let up = Ascends-held c.args.listed.now c.args.bits.now _ c.args.shape c.args.ends c.requires.shape c.requires.held.within in
    let past : c.args.ends.hi ≤ℤ value = omega (arith, ints) in
    record { wide = c.loop-value.invariant.wide; members = gathered_all xs c.args.ends c.args.into.now c.loop-value.into value up c.requires.held.ends c.loop-value.invariant past }
