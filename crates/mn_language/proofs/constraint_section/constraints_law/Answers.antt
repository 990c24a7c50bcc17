use Rattle.mn_language.proofs.SectionLaw as section
use Rattle.mn_language.proofs.constraint_section.constraints_law.Goals as goal

pub returns : goal.returns
returns c = section.constraints_law
