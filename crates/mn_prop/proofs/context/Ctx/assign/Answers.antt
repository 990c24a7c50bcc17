use Rattle.std.proofs.Common.{FitsSigned, rules, w64}
use Rattle.std.proofs.lemmas.Int.{to_z-of_z}
use Rattle.std.specs.Ordering.{int_eq}
use Rattle.mn_model.specs.Variable.{number_of}
use Rattle.mn_prop.specs.Contexts.{ChangedAt}
use Rattle.mn_prop.proofs.Changing.{changed_not, changed_var, turned_eq}
use Rattle.mn_prop.proofs.PlaceLemmas.{seen_at}
use Rattle.mn_prop.proofs.Valued.{valued_at}
use Rattle.mn_prop.proofs.context.Ctx.assign.Goals as goal

pub returns-in-Var : goal.returns-in-Var
returns-in-Var c =
    let d = c.self.inside.doms in
    let change = rw (to_z-of_z w64 c.args.a c.ranges.a) at c.assign.ensures in
    seen_at (λ s t. ChangedAt (λ x. int_eq x c.args.a) t s (record { doms = c.assign.new.self; moved = c.answer.new.noted }) c.answer.result) c.self.view_is c.in-Var.is
    (changed_var (λ x. int_eq x c.args.a) c.in-Var.v d c.assign.new.self c.self.inside.moved c.answer.new.noted c.assign.result c.answer.result c.answer.ensures.boxes.now change c.answer.ensures.answer)

pub returns-in-Not : goal.returns-in-Not
returns-in-Not c =
    let d = c.self.inside.doms in
    let fits : FitsSigned w64 c.turned.result = search rules in
    let is = rw (to_z-of_z w64 c.args.a c.ranges.a) at c.turned.ensures in
    let change = rw (to_z-of_z w64 c.turned.result fits) at c.assign-in-Not.ensures in
    seen_at (λ s t. ChangedAt (λ x. int_eq x c.args.a) t s (record { doms = c.assign-in-Not.new.self; moved = c.answer-in-Not.new.noted }) c.answer-in-Not.result) c.self.view_is c.in-Not.is
    (changed_not (λ x. int_eq x c.args.a) (λ x. int_eq x c.turned.result) c.in-Not.v d c.assign-in-Not.new.self c.self.inside.moved c.answer-in-Not.new.noted c.assign-in-Not.result c.answer-in-Not.result
    (λ b has. turned_eq c.args.a c.turned.result b is (valued_at d.vars d.now.sets (number_of c.in-Not.v) b c.lawful.ensures.now c.self.invariant has)) c.answer-in-Not.ensures.boxes.now change c.answer-in-Not.ensures.answer)
