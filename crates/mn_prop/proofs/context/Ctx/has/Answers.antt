use Rattle.std.proofs.Common.{FitsSigned, IsTrue, rules, w64}
use Rattle.std.proofs.lemmas.Int.{to_z-of_z}
use Rattle.mn_model.specs.Variable.{number_of}
use Rattle.mn_boxes.specs.Boxes.{set_of}
use Rattle.mn_boxes.specs.Places.{PlaceHas}
use Rattle.mn_prop.specs.Contexts.{box_of}
use Rattle.mn_prop.proofs.Changing.{turned_has}
use Rattle.mn_prop.proofs.PlaceLemmas.{seen_at}
use Rattle.mn_prop.proofs.Valued.{valued_at}
use Rattle.mn_prop.proofs.context.Ctx.has.Goals as goal

pub returns-in-Not : goal.returns-in-Not
returns-in-Not c =
    let d = c.self.inside.doms in
    let fits : FitsSigned w64 c.turned.result = search rules in
    let is = rw (to_z-of_z w64 c.args.a c.ranges.a) at c.turned.ensures in
    let here = rw (to_z-of_z w64 c.turned.result fits) at c.has-in-Not.ensures in
    let both = turned_has (set_of d.now.sets (number_of c.in-Not.v)) c.args.a c.turned.result (λ b has. valued_at d.vars d.now.sets (number_of c.in-Not.v) b c.lawful.ensures.now c.self.invariant has) is in
    seen_at (λ s t. (IsTrue c.has-in-Not.result → PlaceHas (box_of s) t c.args.a) × (PlaceHas (box_of s) t c.args.a → IsTrue c.has-in-Not.result)) c.self.view_is c.in-Not.is
    (λ true. both.0 (here.0 true), λ has. here.1 (both.1 has))
