use Rattle.std.proofs.Common.{FitsSigned, IsTrue, rules, w64}
use Rattle.std.proofs.lemmas.Int.{to_z-of_z}
use Rattle.mn_model.specs.Variable.{number_of}
use Rattle.mn_boxes.specs.Boxes.{set_of, variable_at}
use Rattle.mn_prop.specs.Contexts.{MayGoAt, box_of, vars_of}
use Rattle.mn_prop.proofs.Changing.{turned_may}
use Rattle.mn_prop.proofs.PlaceLemmas.{seen_at}
use Rattle.mn_prop.proofs.Valued.{valued_at}
use Rattle.mn_prop.proofs.context.Ctx.may_remove.Goals as goal

pub returns-in-Not : goal.returns-in-Not
returns-in-Not c =
    let d = c.self.inside.doms in
    let fits : FitsSigned w64 c.turned.result = search rules in
    let is = rw (to_z-of_z w64 c.args.a c.ranges.a) at c.turned.ensures in
    let here = rw (to_z-of_z w64 c.turned.result fits) at c.may_remove-in-Not.ensures in
    let both = turned_may (variable_at d.vars (number_of c.in-Not.v)) (set_of d.now.sets (number_of c.in-Not.v)) c.args.a c.turned.result (λ b has. valued_at d.vars d.now.sets (number_of c.in-Not.v) b c.lawful.ensures.now c.self.invariant has) is in
    seen_at (λ s t. (IsTrue c.may_remove-in-Not.result → MayGoAt (vars_of s) t (box_of s) c.args.a) × (MayGoAt (vars_of s) t (box_of s) c.args.a → IsTrue c.may_remove-in-Not.result)) c.self.view_is c.in-Not.is
    (λ true. both.0 (here.0 true), λ may. here.1 (both.1 may))
