use Rattle.std.proofs.Common.{FitsSigned, int_le, rules, w64}
use Rattle.std.proofs.lemmas.Int.{to_z-of_z}
use Rattle.mn_model.specs.Variable.{number_of}
use Rattle.mn_prop.specs.Contexts.{ChangedAt}
use Rattle.mn_prop.proofs.Changing.{changed_not, changed_var, turned_le}
use Rattle.mn_prop.proofs.PlaceLemmas.{seen_at}
use Rattle.mn_prop.proofs.Valued.{valued_at}
use Rattle.mn_prop.proofs.context.Ctx.set_lo.Goals as goal

pub returns-in-Var : goal.returns-in-Var
returns-in-Var c =
    let d = c.self.inside.doms in
    let change = rw (to_z-of_z w64 c.args.a c.ranges.a) at c.set_lo.ensures in
    seen_at (λ s t. ChangedAt (λ x. int_le c.args.a x) t s (record { doms = c.set_lo.new.self; moved = c.answer.new.noted }) c.answer.result) c.self.view_is c.in-Var.is
    (changed_var (λ x. int_le c.args.a x) c.in-Var.v d c.set_lo.new.self c.self.inside.moved c.answer.new.noted c.set_lo.result c.answer.result c.answer.ensures.boxes.now change c.answer.ensures.answer)

pub returns-in-Not : goal.returns-in-Not
returns-in-Not c =
    let d = c.self.inside.doms in
    let fits : FitsSigned w64 c.turned.result = search rules in
    let is = rw (to_z-of_z w64 c.args.a c.ranges.a) at c.turned.ensures in
    let change = rw (to_z-of_z w64 c.turned.result fits) at c.set_hi.ensures in
    seen_at (λ s t. ChangedAt (λ x. int_le c.args.a x) t s (record { doms = c.set_hi.new.self; moved = c.answer-in-Not.new.noted }) c.answer-in-Not.result) c.self.view_is c.in-Not.is
    (changed_not (λ x. int_le c.args.a x) (λ x. int_le x c.turned.result) c.in-Not.v d c.set_hi.new.self c.self.inside.moved c.answer-in-Not.new.noted c.set_hi.result c.answer-in-Not.result
    (λ b has. turned_le c.args.a c.turned.result b is (valued_at d.vars d.now.sets (number_of c.in-Not.v) b c.lawful.ensures.now c.self.invariant has)) c.answer-in-Not.ensures.boxes.now change c.answer-in-Not.ensures.answer)
