use Rattle.std.proofs.Common.{subst, sym}
use Rattle.mn_model.specs.Problem.{Problem}
use Rattle.mn_boxes.specs.Boxes.{declared_variables}
use Rattle.mn_prop.specs.Posts.{IsReadyToRun}
use Rattle.mn_element.specs.Elements.{indexed_of}
use Rattle.mn_element.proofs.element.Element.build.Goals as goal

pub build-requires : goal.build-requires
build-requires c =
    subst (λ (problem : Problem). IsReadyToRun (declared_variables problem.decls) (indexed_of c.of-of.result)) (sym c.of-of.ensures.inst)
    (subst (IsReadyToRun (declared_variables c.args.inst.now.decls)) (sym c.of-of.ensures.posted) c.requires.ready)
