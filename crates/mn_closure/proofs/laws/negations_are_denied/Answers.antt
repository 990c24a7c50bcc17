use Rattle.mn_closure.proofs.Denied.{negation_closed, negation_possible}
use Rattle.mn_closure.proofs.laws.negations_are_denied.Goals as goal

pub returns-clause-closed : goal.returns-clause-closed
returns-clause-closed c = negation_closed

pub returns-clause-possible : goal.returns-clause-possible
returns-clause-possible c = negation_possible
