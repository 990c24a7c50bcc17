use Rattle.mn_closure.proofs.Readying.{lawful_ready, negated_ready}
use Rattle.mn_closure.proofs.laws.lawful_constraints_are_ready.Goals as goal

pub returns-clause-lawful : goal.returns-clause-lawful
returns-clause-lawful c = lawful_ready

pub returns-clause-negation : goal.returns-clause-negation
returns-clause-negation c = negated_ready
