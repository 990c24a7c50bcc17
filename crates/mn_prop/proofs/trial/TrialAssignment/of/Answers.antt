use Rattle.std.proofs.Common.{pos, ◌-ℤ◌, Some, None, sym, subst, w64}
use Rattle.std.proofs.lemmas.Int.{to_z-of_z}
use Rattle.mn_model.specs.Variable.{number_of}
use Rattle.mn_boxes.specs.Places.{PlaceHas}
use Rattle.mn_prop.specs.Contexts.{box_of, vars_of}
use Rattle.mn_prop.proofs.Valued.{valued_at}
use Rattle.mn_prop.specs.Trials.{IsTrial, tried_value}
use Rattle.mn_prop.proofs.Tried.{const_trial, near_fits, not_trial, var_trial}
use Rattle.mn_prop.proofs.trial.TrialAssignment.of.Goals as goal

pub overflow_sub-result : goal.overflow_sub-result
overflow_sub-result c = rw (to_z-of_z w64 c.args.a c.ranges.a) (near_fits c.args.a (valued_at (vars_of c.args.c.now) (box_of c.args.c.now) (number_of c.in-Not.v) (pos 1 -ℤ c.args.a) c.lawful.ensures.boxes.now c.lawful.ensures.valued (subst (λ t. PlaceHas (box_of c.args.c.now) t c.args.a) c.in-Not.is c.requires.there)))

pub returns-in-Var : goal.returns-in-Var
returns-in-Var c =
    let d = c.args.c.now in
    rw (to_z-of_z w64 c.args.a c.ranges.a)
    (subst (λ t. IsTrial (vars_of d) (box_of d) t c.args.a (tried_value (box_of d) (Some c.in-Var.v) c.args.a)) (sym c.in-Var.is) (var_trial (vars_of d) (box_of d) c.in-Var.v c.args.a c.lawful.ensures.boxes.now c.lawful.ensures.valued (subst (λ t. PlaceHas (box_of d) t c.args.a) c.in-Var.is c.requires.there)))

pub returns-in-Const : goal.returns-in-Const
returns-in-Const c =
    let d = c.args.c.now in
    subst (λ t. IsTrial (vars_of d) (box_of d) t c.args.a (tried_value (box_of d) None (pos 0))) (sym c.in-Const.is) (const_trial (vars_of d) (box_of d) c.in-Const.field-0 c.args.a c.lawful.ensures.boxes.now c.lawful.ensures.valued (subst (λ t. PlaceHas (box_of d) t c.args.a) c.in-Const.is c.requires.there))

pub returns-in-Not : goal.returns-in-Not
returns-in-Not c =
    let d = c.args.c.now in
    let has = subst (λ t. PlaceHas (box_of d) t c.args.a) c.in-Not.is c.requires.there in
    let fits = near_fits c.args.a (valued_at (vars_of d) (box_of d) (number_of c.in-Not.v) (pos 1 -ℤ c.args.a) c.lawful.ensures.boxes.now c.lawful.ensures.valued has) in
    rw (to_z-of_z w64 c.args.a c.ranges.a, to_z-of_z w64 (pos 1 -ℤ c.args.a) fits)
    (subst (λ t. IsTrial (vars_of d) (box_of d) t c.args.a (tried_value (box_of d) (Some c.in-Not.v) (pos 1 -ℤ c.args.a))) (sym c.in-Not.is) (not_trial (vars_of d) (box_of d) c.in-Not.v c.args.a c.lawful.ensures.boxes.now c.lawful.ensures.valued has))
