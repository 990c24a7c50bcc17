use Rattle.std.proofs.Common.{int_le, w64}
use Rattle.std.proofs.lemmas.Int.{to_z-of_z}
use Rattle.mn_model.proofs.Filtered.{filter_has}
use Rattle.mn_model.proofs.Ordered.{le_true}
use Rattle.mn_domains.specs.Held.{values_held}
use Rattle.mn_domains.proofs.EndLemmas.{between_ends}
use Rattle.mn_domains.proofs.ShapeLemmas.{Ascends-held}
use Rattle.mn_domains.proofs.shape.between.Goals as goal

pub cut_low-rest-requires-clause-high : goal.cut_low-rest-requires-clause-high
cut_low-rest-requires-clause-high c =
    let xs = values_held c.args.listed.now c.args.bits.now c.args.shape c.args.ends in
    rw (to_z-of_z w64 c.args.lo c.ranges.lo) (between_ends xs c.args.ends c.args.lo (Ascends-held c.args.listed.now c.args.bits.now _ c.args.shape c.args.ends c.requires.shape c.requires.held.within) c.requires.held.ends c.requires.low).high

pub cut_high-requires-clause-low : goal.cut_high-requires-clause-low
cut_high-requires-clause-low c =
    let values = rw (to_z-of_z w64 c.args.lo c.ranges.lo) at c.cut_low-rest.ensures.values in
    let xs = values_held c.args.listed.now c.args.bits.now c.args.shape c.args.ends in
    let ys = values_held c.args.listed.now c.args.bits.now c.args.shape c.cut_low-rest.result in
    let held = c.cut_low-rest.ensures.held in
    rw (to_z-of_z w64 c.args.hi c.ranges.hi)
    (between_ends ys c.cut_low-rest.result c.args.hi (Ascends-held c.args.listed.now c.args.bits.now _ c.args.shape c.cut_low-rest.result c.requires.shape held.within) held.ends
    (rw values (filter_has (λ x. int_le c.args.lo x) xs c.args.hi c.requires.high (le_true c.args.lo c.args.hi c.requires.order)))).low
