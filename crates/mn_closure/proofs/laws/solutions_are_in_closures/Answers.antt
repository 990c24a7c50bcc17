use Rattle.mn_closure.proofs.Solving.{solutions_inside, no_solutions}
use Rattle.mn_closure.proofs.laws.solutions_are_in_closures.Goals as goal

pub returns-clause-kept : goal.returns-clause-kept
returns-clause-kept c = solutions_inside

pub returns-clause-none : goal.returns-clause-none
returns-clause-none c = no_solutions
