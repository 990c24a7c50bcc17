use Rattle.mn_meaning.proofs.Solving.{solutions_hold, solutions_ordered, solutions_distinct}
use Rattle.mn_meaning.proofs.laws.solutions_are_those_that_hold.Goals as goal

pub returns-clause-members : goal.returns-clause-members
returns-clause-members c = solutions_hold

pub returns-clause-ordered : goal.returns-clause-ordered
returns-clause-ordered c = solutions_ordered

pub returns-clause-distinct : goal.returns-clause-distinct
returns-clause-distinct c = solutions_distinct
