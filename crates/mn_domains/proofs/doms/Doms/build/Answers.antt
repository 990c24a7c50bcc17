use Rattle.std.proofs.Common.{map, ap, ◌∙◌}
use Rattle.mn_model.specs.Problem.{variables_of}
use Rattle.mn_boxes.specs.Sets.{Variable}
use Rattle.mn_domains.proofs.Full.{declared_domains}
use Rattle.mn_domains.proofs.doms.Doms.build.Goals as goal

pub returns-clause-sets : goal.returns-clause-sets
returns-clause-sets c = c.in_ok-current.ensures.sets ∙ (ap (map (λ (v : Variable). v.declared)) c.in_ok-layout.ensures.shapes.holds ∙ declared_domains (variables_of c.args.inst.now.decls))
