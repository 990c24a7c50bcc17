use Rattle.mn_search.proofs.Cutting.{left_uncut}
use Rattle.mn_search.proofs.laws.left_parts_are_uncut.Goals as goal

pub returns : goal.returns
returns c = left_uncut
