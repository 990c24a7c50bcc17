use Rattle.mn_meaning.proofs.Plain.{plain_assignments}
use Rattle.mn_meaning.proofs.laws.without_an_order.Goals as goal

pub returns : goal.returns
returns c = plain_assignments
