use Rattle.mn_decls.proofs.VariableLaw.{section_law}
use Rattle.mn_decls.proofs.declaring.variables_law.Goals as goal

pub returns : goal.returns
returns c = section_law
