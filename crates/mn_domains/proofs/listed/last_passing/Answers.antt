use Rattle.std.proofs.Common.{FitsSigned, rules, w64, pos, slice_index_or, int_le, ◌&&◌, ◌-◌, sym, ◌∙◌, arith}
use Rattle.std.proofs.lemmas.Int.{to_z-of_z}
use Rattle.mn_domains.specs.Rows.{passes}
use Rattle.mn_domains.proofs.Firsts.{last_at, none_behind}
use Rattle.mn_domains.proofs.listed.last_passing.Goals as goal

pub returns-then-is_passing : goal.returns-then-is_passing
returns-then-is_passing c =
    let value : FitsSigned w64 (slice_index_or c.args.values.now (c.loop-behind.behind - 1) (pos 0)) = search rules in
    let tells = rw (to_z-of_z w64 c.args.from c.ranges.from, to_z-of_z w64 (slice_index_or c.args.values.now (c.loop-behind.behind - 1) (pos 0)) value) at c.is_passing.ensures in
    let within = c.loop-behind.invariant.within in
    let none = rw (to_z-of_z w64 c.args.from c.ranges.from) at c.loop-behind.invariant.none in
    rw (to_z-of_z w64 (slice_index_or c.args.values.now (c.loop-behind.behind - 1) (pos 0)) value)
    (sym (last_at (λ x. int_le c.args.from x && passes c.args.set.now c.args.wanted x) c.args.values.now (c.loop-behind.behind - 1) c.requires (omega (arith, within)) (λ j at inside. none j (omega (arith, at)) inside) (sym tells ∙ c.if-is_passing.true)))

pub returns : goal.returns
returns c = sym (none_behind (λ x. int_le c.args.from x && passes c.args.set.now c.args.wanted x) c.args.values.now c.loop-behind.behind (omega arith) (rw (to_z-of_z w64 c.args.from c.ranges.from) at c.loop-behind.invariant.none))
