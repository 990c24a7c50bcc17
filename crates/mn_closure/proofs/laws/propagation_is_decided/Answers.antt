use Rattle.mn_closure.specs.Deciding.{decide_closed, decide_possible}
use Rattle.mn_closure.proofs.Meetable.{closed_met}
use Rattle.mn_closure.proofs.laws.propagation_is_decided.Goals as goal

pub returns-clause-possible : goal.returns-clause-possible
returns-clause-possible c = decide_possible

pub returns-clause-closed : goal.returns-clause-closed
returns-clause-closed c = decide_closed

pub returns-clause-met : goal.returns-clause-met
returns-clause-met c = closed_met
