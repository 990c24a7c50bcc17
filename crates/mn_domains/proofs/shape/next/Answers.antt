use Rattle.std.proofs.Common.{pos, ◌+ℤ◌, FitsSigned, int_le, filter, rules, w64, to_z, of_z, arith, sym, ap, ◌∙◌}
use Rattle.std.proofs.lemmas.Int.{ints, to_z-of_z}
use Rattle.mn_model.specs.Domain.{IsFirst}
use Rattle.mn_boxes.specs.Sets.{least}
use Rattle.mn_domains.specs.Held.{values_held}
use Rattle.mn_domains.proofs.ShapeLemmas.{all_greater, greater_is_next, none_greater}
use Rattle.mn_domains.proofs.shape.next.Goals as goal

pub returns-then-a-ends : goal.returns-then-a-ends
returns-then-a-ends c =
    let low : FitsSigned w64 c.args.ends.lo = search rules in
    rw (to_z-of_z w64 c.args.ends.lo low) (sym (ap least (all_greater c.args.listed.now c.args.bits.now _ c.args.shape c.args.ends c.args.a c.requires.shape c.requires.held (omega (arith, ints))) ∙ c.requires.held.ends.first))

pub returns-then-ends-a : goal.returns-then-ends-a
returns-then-ends-a c = sym (ap least (none_greater c.args.listed.now c.args.bits.now _ c.args.shape c.args.ends c.args.a c.requires.shape c.requires.held (omega (arith, ints))))

pub returns : goal.returns
returns c =
    let next : FitsSigned w64 (c.args.a +ℤ pos 1) = search rules in
    let value : FitsSigned w64 c.least_from.result = search rules in
    let found : IsFirst c.least_from.result (filter (λ x. int_le (to_z w64 (of_z w64 (to_z w64 (of_z w64 c.args.a) +ℤ pos 1))) x) (values_held c.args.listed.now c.args.bits.now c.args.shape c.args.ends)) = c.least_from.ensures in
    let first = rw (to_z-of_z w64 c.args.a c.ranges.a, to_z-of_z w64 (c.args.a +ℤ pos 1) next) at found in
    rw (to_z-of_z w64 c.least_from.result value) (sym (sym (ap least (greater_is_next (values_held c.args.listed.now c.args.bits.now c.args.shape c.args.ends) c.args.a)) ∙ first))
