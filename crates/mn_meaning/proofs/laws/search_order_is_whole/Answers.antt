use Rattle.mn_meaning.proofs.Turns.{order_whole, order_distinct}
use Rattle.mn_meaning.proofs.laws.search_order_is_whole.Goals as goal

pub returns-clause-members : goal.returns-clause-members
returns-clause-members c = order_whole

pub returns-clause-distinct : goal.returns-clause-distinct
returns-clause-distinct c = order_distinct
