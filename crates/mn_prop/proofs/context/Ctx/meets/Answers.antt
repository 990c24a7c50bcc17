use Rattle.std.proofs.Common.{◌↔◌, IsTrue, false, sym, subst}
use Rattle.mn_boxes.specs.Values.{members}
use Rattle.mn_model.specs.Lawful.{IsLawfulTerm}
use Rattle.mn_closure.specs.Ready.{declared_sets}
use Rattle.mn_prop.specs.Contexts.{Context, SomePasses, box_of, vars_of}
use Rattle.mn_prop.specs.Sifting.{HasBits}
use Rattle.mn_prop.proofs.PlaceLemmas.{seen_at}
use Rattle.mn_prop.proofs.Sifting.{has_bits, met_bits, met_var}
use Rattle.mn_prop.proofs.context.Ctx.meets.Goals as goal

pub returns-in-Var : goal.returns-in-Var
returns-in-Var c =
    seen_at (λ s t. IsTrue c.meets.result ↔ SomePasses (members c.args.values.now) t (box_of s)) c.self.view_is c.in-Var.is
    (met_var (members c.args.values.now) c.in-Var.v c.self.inside.doms.now.sets c.meets.result c.meets.ensures)

pub returns-else-has_bit_in : goal.returns-else-has_bit_in
returns-else-has_bit_in c =
    let d = c.self.inside.doms in
    let lawful = subst (λ t. IsLawfulTerm (declared_sets d.vars) t) c.in-Not.is (subst (λ (x : Context). IsLawfulTerm (declared_sets (vars_of x)) c.args.t) (sym c.self.view_is) c.requires) in
    let bits = seen_at (λ s t. HasBits t (box_of s)) c.self.view_is c.in-Not.is (has_bits d.vars d.now.sets c.in-Not.field-0 c.lawful.ensures.now lawful) in
    met_bits (members c.args.values.now) c.args.t (box_of c.args.self.now) c.has_bit_in.result c.has_bit_in-else-has_bit_in.result bits c.if-has_bit_in.false c.has_bit_in.ensures c.has_bit_in-else-has_bit_in.ensures
