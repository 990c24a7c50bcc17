use Rattle.mn_closure.proofs.Solving.{closure_unique, closure_there}
use Rattle.mn_closure.proofs.laws.closure_is_unique.Goals as goal

pub returns-clause-unique : goal.returns-clause-unique
returns-clause-unique c = closure_unique

pub returns-clause-there : goal.returns-clause-there
returns-clause-there c = closure_there
