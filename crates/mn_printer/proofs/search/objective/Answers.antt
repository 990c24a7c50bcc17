use Rattle.std.proofs.Common.{Option, ap}
use Rattle.mn_model.specs.declared.search.Goal.{Goal}
use Rattle.mn_canonical.specs.Search.{goal_text}
use Rattle.mn_printer.proofs.Joining.{onto_none}
use Rattle.mn_printer.proofs.search.objective.Goals as goal

pub returns-in-None : goal.returns-in-None
returns-in-None c = onto_none _ _ (ap (λ (g : Option Goal). goal_text c.args.inst.now g) c.in-None.is)
