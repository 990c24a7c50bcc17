use Rattle.std.proofs.Common.{FitsSigned, rules, subst, sym, w64}
use Rattle.std.proofs.lemmas.Int.{to_z-of_z}
use Rattle.mn_domains.specs.Changes.{is_not}
use Rattle.mn_model.specs.Variable.{number_of}
use Rattle.mn_boxes.specs.Boxes.{set_of, variable_at}
use Rattle.mn_prop.specs.Contexts.{ChangedAt, Context, MayGoAt, box_of, vars_of}
use Rattle.mn_prop.proofs.Changing.{changed_not, changed_var, turned_not, turned_may}
use Rattle.mn_prop.proofs.PlaceLemmas.{seen_at}
use Rattle.mn_prop.proofs.Valued.{valued_at}
use Rattle.mn_prop.proofs.context.Ctx.remove.Goals as goal

pub returns-in-Var : goal.returns-in-Var
returns-in-Var c =
    let d = c.self.inside.doms in
    let change = rw (to_z-of_z w64 c.args.a c.ranges.a) at c.remove.ensures in
    seen_at (λ s t. ChangedAt (is_not c.args.a) t s (record { doms = c.remove.new.self; moved = c.answer.new.noted }) c.answer.result) c.self.view_is c.in-Var.is
    (changed_var (is_not c.args.a) c.in-Var.v d c.remove.new.self c.self.inside.moved c.answer.new.noted c.remove.result c.answer.result c.answer.ensures.boxes.now change c.answer.ensures.answer)

pub returns-in-Not : goal.returns-in-Not
returns-in-Not c =
    let d = c.self.inside.doms in
    let fits : FitsSigned w64 c.turned.result = search rules in
    let is = rw (to_z-of_z w64 c.args.a c.ranges.a) at c.turned.ensures in
    let change = rw (to_z-of_z w64 c.turned.result fits) at c.remove-in-Not.ensures in
    seen_at (λ s t. ChangedAt (is_not c.args.a) t s (record { doms = c.remove-in-Not.new.self; moved = c.answer-in-Not.new.noted }) c.answer-in-Not.result) c.self.view_is c.in-Not.is
    (changed_not (is_not c.args.a) (is_not c.turned.result) c.in-Not.v d c.remove-in-Not.new.self c.self.inside.moved c.answer-in-Not.new.noted c.remove-in-Not.result c.answer-in-Not.result
    (λ b has. turned_not c.args.a c.turned.result b is (valued_at d.vars d.now.sets (number_of c.in-Not.v) b c.lawful.ensures.now c.self.invariant has)) c.answer-in-Not.ensures.boxes.now change c.answer-in-Not.ensures.answer)

pub remove-requires-in-Not-clause-may : goal.remove-requires-in-Not-clause-may
remove-requires-in-Not-clause-may c =
    let d = c.self.inside.doms in
    let fits : FitsSigned w64 c.turned.result = search rules in
    let is = rw (to_z-of_z w64 c.args.a c.ranges.a) at c.turned.ensures in
    let both = turned_may (variable_at d.vars (number_of c.in-Not.v)) (set_of d.now.sets (number_of c.in-Not.v)) c.args.a c.turned.result (λ b has. valued_at d.vars d.now.sets (number_of c.in-Not.v) b c.lawful.ensures.now c.self.invariant has) is in
    rw (to_z-of_z w64 c.turned.result fits)
    (both.1 (subst (λ t. MayGoAt d.vars t d.now.sets c.args.a) c.in-Not.is (subst (λ (x : Context). MayGoAt (vars_of x) c.args.t (box_of x) c.args.a) (sym c.self.view_is) c.requires.may)))
