use Rattle.mn_meaning.proofs.Solving.{assignments_all, assignments_ordered, assignments_distinct}
use Rattle.mn_meaning.proofs.laws.assignments_are_all.Goals as goal

pub returns-clause-members : goal.returns-clause-members
returns-clause-members c = assignments_all

pub returns-clause-ordered : goal.returns-clause-ordered
returns-clause-ordered c = assignments_ordered

pub returns-clause-distinct : goal.returns-clause-distinct
returns-clause-distinct c = assignments_distinct
