use Rattle.std.proofs.Common.{ap, sym, subst, not}
use Rattle.mn_boxes.specs.Values.{members}
use Rattle.mn_model.specs.Lawful.{IsLawfulTerm}
use Rattle.mn_closure.specs.Ready.{declared_sets}
use Rattle.mn_prop.specs.Contexts.{Context, box_of, vars_of}
use Rattle.mn_prop.specs.Sifting.{HasBits, IsSifted}
use Rattle.mn_prop.proofs.PlaceLemmas.{seen_at}
use Rattle.mn_prop.proofs.Sifting.{bits_agree, has_bits, sift_inside, sift_same, sifted_var}
use Rattle.mn_prop.proofs.context.Ctx.exclude.Goals as goal

pub returns-in-Var : goal.returns-in-Var
returns-in-Var c =
    seen_at (λ s t. IsSifted (λ a. not (members c.args.values.now a)) t s (record { doms = c.exclude.new.self; moved = c.answer.new.noted }) c.answer.result) c.self.view_is c.in-Var.is
    (sifted_var (λ a. not (members c.args.values.now a)) c.in-Var.v c.self.inside.doms c.exclude.new.self c.self.inside.moved c.answer.new.noted c.exclude.result c.answer.result c.answer.ensures.boxes.now c.exclude.ensures c.answer.ensures.answer)

pub keep_bits-requires-clause-bits : goal.keep_bits-requires-clause-bits
keep_bits-requires-clause-bits c =
    let d = c.self.inside.doms in
    let lawful = subst (λ t. IsLawfulTerm (declared_sets d.vars) t) c.in-Not.is (subst (λ (x : Context). IsLawfulTerm (declared_sets (vars_of x)) c.args.t) (sym c.self.view_is) c.requires) in
    seen_at (λ s t. HasBits t (box_of s)) c.self.view_is c.in-Not.is (has_bits d.vars d.now.sets c.in-Not.field-0 c.lawful.ensures.now lawful)

pub returns-in-Not : goal.returns-in-Not
returns-in-Not c =
    let d = c.self.inside.doms in
    let lawful = subst (λ t. IsLawfulTerm (declared_sets d.vars) t) c.in-Not.is (subst (λ (x : Context). IsLawfulTerm (declared_sets (vars_of x)) c.args.t) (sym c.self.view_is) c.requires) in
    let bits = seen_at (λ s t. HasBits t (box_of s)) c.self.view_is c.in-Not.is (has_bits d.vars d.now.sets c.in-Not.field-0 c.lawful.ensures.now lawful) in
    sift_same (λ a. not (members c.args.values.now a)) _ c.args.t c.args.self.now c.keep_bits.new.self c.keep_bits.result
    (bits_agree (λ a. not (members c.args.values.now a)) _ _ c.args.t (box_of c.args.self.now) bits (ap not (sym c.has-in-Not.ensures)) (ap not (sym c.has-in-Not-2.ensures))) (sift_inside _ c.args.t c.args.self.now c.keep_bits.new.self c.keep_bits.result c.keep_bits.ensures) c.keep_bits.ensures
