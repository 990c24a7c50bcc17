use Rattle.mn_closure.proofs.Only.{one_is_only}
use Rattle.mn_closure.proofs.laws.one_is_the_only.Goals as goal

pub returns : goal.returns
returns c = one_is_only
