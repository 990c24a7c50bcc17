use Rattle.mn_closure.proofs.Denied.{leaf_closed, leaf_or_parts, leaf_parts}
use Rattle.mn_closure.proofs.laws.leaves_are_whole.Goals as goal

pub returns-clause-forms : goal.returns-clause-forms
returns-clause-forms c = leaf_or_parts

pub returns-clause-possible : goal.returns-clause-possible
returns-clause-possible c = leaf_parts

pub returns-clause-closed : goal.returns-clause-closed
returns-clause-closed c = leaf_closed
