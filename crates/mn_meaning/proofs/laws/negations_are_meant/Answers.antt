use Rattle.mn_meaning.proofs.Meant.{lawful_meant, negation_meant, shaped_negation, same_tables}
use Rattle.mn_meaning.proofs.laws.negations_are_meant.Goals as goal

pub returns-clause-lawful : goal.returns-clause-lawful
returns-clause-lawful c = lawful_meant

pub returns-clause-negation : goal.returns-clause-negation
returns-clause-negation c = negation_meant

pub returns-clause-shaped : goal.returns-clause-shaped
returns-clause-shaped c = shaped_negation

pub returns-clause-tables : goal.returns-clause-tables
returns-clause-tables c = same_tables
