use Rattle.std.proofs.Common.{rules, ◌+ℤ◌, pos, FitsSigned, to_z, of_z, w64, ap, ◌∙◌, ◌++◌}
use Rattle.std.proofs.lemmas.Int.{to_z-of_z}
use Rattle.mn_model.specs.Domain.{stretch}
use Rattle.mn_decls.proofs.Ranges.{push_step, push_end}
use Rattle.mn_decls.proofs.values.push_all.Goals as goal

pub loop-value-preserved : goal.loop-value-preserved
loop-value-preserved c =
    let v = to_z w64 c.loop-value.value-bits in
    let fits : FitsSigned w64 (v +ℤ pos 1) = search rules in
    push_step c.loop-value.items.items c.push.new.self.items c.args.items.now.items v (to_z w64 (of_z w64 (v +ℤ pos 1))) (to_z w64 (of_z w64 c.args.lo)) (to_z w64 (of_z w64 c.args.hi))
    c.loop-value.invariant.0 c.loop-value.invariant.1 (search rules) (to_z-of_z w64 (v +ℤ pos 1) fits) (search rules)

pub returns : goal.returns
returns c =
    let low = to_z-of_z w64 c.args.lo c.ranges.lo in
    let high = to_z-of_z w64 c.args.hi c.ranges.hi in
    push_end c.loop-value.items.items c.push-2.new.self.items c.args.items.now.items (to_z w64 c.loop-value.value-bits) (to_z w64 (of_z w64 c.args.lo)) (to_z w64 (of_z w64 c.args.hi))
    c.loop-value.invariant.0 c.loop-value.invariant.2 (search rules) (search rules)
    ∙ ap (λ z. c.args.items.now.items ++ stretch z (to_z w64 (of_z w64 c.args.hi))) low ∙ ap (λ z. c.args.items.now.items ++ stretch c.args.lo z) high
