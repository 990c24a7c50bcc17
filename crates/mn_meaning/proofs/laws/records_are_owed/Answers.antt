use Rattle.mn_meaning.proofs.Records.{all_owed, records_owed, records_improve, records_reach, listed_ordered, listed_distinct}
use Rattle.mn_meaning.proofs.laws.records_are_owed.Goals as goal

pub returns-clause-all : goal.returns-clause-all
returns-clause-all c = all_owed

pub returns-clause-members : goal.returns-clause-members
returns-clause-members c = records_owed

pub returns-clause-improve : goal.returns-clause-improve
returns-clause-improve c = records_improve

pub returns-clause-reach : goal.returns-clause-reach
returns-clause-reach c = records_reach

pub returns-clause-ordered : goal.returns-clause-ordered
returns-clause-ordered c = listed_ordered

pub returns-clause-distinct : goal.returns-clause-distinct
returns-clause-distinct c = listed_distinct
