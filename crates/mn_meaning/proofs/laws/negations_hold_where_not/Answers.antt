use Rattle.mn_meaning.proofs.Meant.{lawful_bits}
use Rattle.mn_meaning.proofs.Negating.{negation_holds}
use Rattle.mn_meaning.proofs.laws.negations_hold_where_not.Goals as goal

pub returns-clause-holds : goal.returns-clause-holds
returns-clause-holds c = negation_holds

pub returns-clause-bits : goal.returns-clause-bits
returns-clause-bits c = lawful_bits
