use Rattle.mn_closure.proofs.Solving.{singles_closed, singles_possible}
use Rattle.mn_closure.proofs.laws.singles_tell.Goals as goal

pub returns-clause-closed : goal.returns-clause-closed
returns-clause-closed c = singles_closed

pub returns-clause-possible : goal.returns-clause-possible
returns-clause-possible c = singles_possible
