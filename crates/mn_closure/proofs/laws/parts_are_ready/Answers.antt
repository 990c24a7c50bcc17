use Rattle.std.proofs.Common.{⊎_elim}
use Rattle.mn_closure.proofs.Readying.{all_ready, denied_ready, implied_ready, negation_ready, reified_ready, some_ready}
use Rattle.mn_closure.proofs.laws.parts_are_ready.Goals as goal

pub returns-clause-children : goal.returns-clause-children
returns-clause-children c = λ vars lists cs. ⊎_elim (some_ready vars lists cs) (all_ready vars lists cs)

pub returns-clause-reified : goal.returns-clause-reified
returns-clause-reified c = λ vars lists con r ready. (reified_ready vars lists con r ready, denied_ready vars lists con r ready)

pub returns-clause-implied : goal.returns-clause-implied
returns-clause-implied c = implied_ready

pub returns-clause-negation : goal.returns-clause-negation
returns-clause-negation c = negation_ready
