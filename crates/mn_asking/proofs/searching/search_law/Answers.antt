use Rattle.mn_asking.proofs.Askable.{section_law}
use Rattle.mn_asking.proofs.searching.search_law.Goals as goal

pub returns : goal.returns
returns c = section_law
