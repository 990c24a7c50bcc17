use Rattle.mn_sections.proofs.Whole.{instances_said}
use Rattle.mn_sections.proofs.law.instances_are_said.Goals as goal

pub returns : goal.returns
returns c = instances_said
