use Rattle.mn_closure.proofs.Solving.{lawful_suits, lawful_ascends}
use Rattle.mn_closure.proofs.laws.lawful_constraints_suit.Goals as goal

pub returns-clause-suit : goal.returns-clause-suit
returns-clause-suit c = lawful_suits

pub returns-clause-ascend : goal.returns-clause-ascend
returns-clause-ascend c = lawful_ascends
