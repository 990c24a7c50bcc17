use Rattle.mn_model.specs.Variable.{number_of}
use Rattle.std.proofs.Common.{w64}
use Rattle.std.proofs.lemmas.Int.{to_z-of_z}
use Rattle.mn_boxes.proofs.Quiet.{ascends_at}
use Rattle.mn_prop.specs.Contexts.{IsNextAt, box_of}
use Rattle.mn_prop.proofs.PlaceLemmas.{seen_at}
use Rattle.mn_prop.proofs.Trying.{next_of}
use Rattle.mn_prop.proofs.context.Ctx.next.Goals as goal

pub returns-in-Var : goal.returns-in-Var
returns-in-Var c =
    let d = c.self.inside.doms in
    let up = ascends_at d.vars d.now.sets (number_of c.in-Var.v) c.lawful.ensures.now in
    seen_at (λ s t. IsNextAt (box_of s) t c.args.a c.next.result) c.self.view_is c.in-Var.is
    (next_of d.now.sets c.in-Var.v c.args.a c.next.result up (rw (to_z-of_z w64 c.args.a c.ranges.a) at c.next.ensures))
