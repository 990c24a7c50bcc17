use Rattle.mn_closure.proofs.Shown.{choice_literals, choice_shown, open_shown, possible_shown}
use Rattle.mn_closure.proofs.laws.literals_show.Goals as goal

pub returns-clause-possible : goal.returns-clause-possible
returns-clause-possible c = possible_shown

pub returns-clause-choice : goal.returns-clause-choice
returns-clause-choice c = choice_shown

pub returns-clause-literals : goal.returns-clause-literals
returns-clause-literals c = choice_literals

pub returns-clause-places : goal.returns-clause-places
returns-clause-places c = open_shown
