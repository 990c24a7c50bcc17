use Rattle.std.proofs.Common.{FitsSigned, rules, w64, pos, slice_index_or, int_le, ◌&&◌, sym, ◌∙◌, arith}
use Rattle.std.proofs.lemmas.Int.{to_z-of_z}
use Rattle.mn_domains.specs.Rows.{passes}
use Rattle.mn_domains.proofs.Firsts.{first_at, none_before}
use Rattle.mn_domains.proofs.listed.first_passing.Goals as goal

pub returns-then-is_passing : goal.returns-then-is_passing
returns-then-is_passing c =
    let value : FitsSigned w64 (slice_index_or c.args.values.now c.loop-i.i (pos 0)) = search rules in
    let tells = rw (to_z-of_z w64 c.args.from c.ranges.from, to_z-of_z w64 (slice_index_or c.args.values.now c.loop-i.i (pos 0)) value) at c.is_passing.ensures in
    rw (to_z-of_z w64 (slice_index_or c.args.values.now c.loop-i.i (pos 0)) value)
    (sym (first_at (λ x. int_le c.args.from x && passes c.args.set.now c.args.wanted x) c.args.values.now c.loop-i.i c.requires (omega arith) (rw (to_z-of_z w64 c.args.from c.ranges.from) at c.loop-i.invariant) (sym tells ∙ c.if-is_passing.true)))

pub returns : goal.returns
returns c = sym (none_before (λ x. int_le c.args.from x && passes c.args.set.now c.args.wanted x) c.args.values.now c.loop-i.i (omega arith) (rw (to_z-of_z w64 c.args.from c.ranges.from) at c.loop-i.invariant))
