use Rattle.std.proofs.Common.{◌↔◌, IsTrue, false, sym, subst}
use Rattle.mn_boxes.specs.Values.{members}
use Rattle.mn_model.specs.Lawful.{IsLawfulTerm}
use Rattle.mn_closure.specs.Ready.{declared_sets}
use Rattle.mn_prop.specs.Contexts.{Context, SomePasses, box_of, vars_of}
use Rattle.mn_prop.specs.Sifting.{HasBits}
use Rattle.mn_prop.proofs.PlaceLemmas.{seen_at}
use Rattle.mn_prop.proofs.Sifting.{has_bits}
use Rattle.mn_prop.proofs.context.Ctx.gather.Goals as goal

pub gather_bits-requires-clause-bits : goal.gather_bits-requires-clause-bits
gather_bits-requires-clause-bits c =
    let d = c.self.inside.doms in
    let lawful = subst (λ t. IsLawfulTerm (declared_sets d.vars) t) c.in-Not.is (subst (λ (x : Context). IsLawfulTerm (declared_sets (vars_of x)) c.args.t) (sym c.self.view_is) c.requires.lawful) in
    seen_at (λ s t. HasBits t (box_of s)) c.self.view_is c.in-Not.is (has_bits d.vars d.now.sets c.in-Not.field-0 c.lawful.ensures.now lawful)
