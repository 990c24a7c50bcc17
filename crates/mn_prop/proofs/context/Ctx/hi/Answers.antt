use Rattle.std.proofs.Common.{FitsSigned, pos, ◌-ℤ◌, rules, w64}
use Rattle.std.proofs.lemmas.Int.{to_z-of_z}
use Rattle.mn_model.specs.Variable.{number_of}
use Rattle.mn_boxes.specs.Boxes.{set_of}
use Rattle.mn_boxes.proofs.Quiet.{ascends_at}
use Rattle.mn_boxes.proofs.Members.{stands_first}
use Rattle.mn_prop.specs.Contexts.{box_of}
use Rattle.mn_prop.proofs.PlaceLemmas.{TellsHigh, high_not, high_var, seen_at}
use Rattle.mn_prop.proofs.Valued.{less_fits, valued_at}
use Rattle.mn_prop.proofs.context.Ctx.hi.Goals as goal

pub overflow_sub-result : goal.overflow_sub-result
overflow_sub-result c =
    let d = c.self.inside.doms in
    let fits : FitsSigned w64 c.lo.result = search rules in
    let ends = stands_first (set_of d.now.sets (number_of c.in-Not.v)) c.lo.result (ascends_at d.vars d.now.sets (number_of c.in-Not.v) c.lawful.ensures.now) c.lo.ensures in
    rw (to_z-of_z w64 c.lo.result fits) (less_fits c.lo.result (valued_at d.vars d.now.sets (number_of c.in-Not.v) c.lo.result c.lawful.ensures.now c.self.invariant ends.has))

pub returns-in-Var : goal.returns-in-Var
returns-in-Var c =
    let d = c.self.inside.doms in
    let fits : FitsSigned w64 c.hi.result = search rules in
    let up = ascends_at d.vars d.now.sets (number_of c.in-Var.v) c.lawful.ensures.now in
    let tells = seen_at (λ s t. TellsHigh (box_of s) t c.hi.result) c.self.view_is c.in-Var.is (high_var d.now.sets c.in-Var.v c.hi.result up c.hi.ensures) in
    rw (to_z-of_z w64 c.hi.result fits) (record { is = tells.is; greatest = tells.greatest; end = tells.end })

pub returns-in-Not : goal.returns-in-Not
returns-in-Not c =
    let d = c.self.inside.doms in
    let fits : FitsSigned w64 c.lo.result = search rules in
    let up = ascends_at d.vars d.now.sets (number_of c.in-Not.v) c.lawful.ensures.now in
    let ends = stands_first (set_of d.now.sets (number_of c.in-Not.v)) c.lo.result up c.lo.ensures in
    let fits_less = less_fits c.lo.result (valued_at d.vars d.now.sets (number_of c.in-Not.v) c.lo.result c.lawful.ensures.now c.self.invariant ends.has) in
    let tells = seen_at (λ s t. TellsHigh (box_of s) t (pos 1 -ℤ c.lo.result)) c.self.view_is c.in-Not.is (high_not d.now.sets c.in-Not.v c.lo.result up c.lo.ensures) in
    rw (to_z-of_z w64 c.lo.result fits, to_z-of_z w64 (pos 1 -ℤ c.lo.result) fits_less) (record { is = tells.is; greatest = tells.greatest; end = tells.end })
