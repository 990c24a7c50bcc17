use Rattle.mn_search.proofs.Improving.{all_solutions_improve, solutions_improve}
use Rattle.mn_search.proofs.laws.solutions_improve.Goals as goal

pub returns-clause-of_box : goal.returns-clause-of_box
returns-clause-of_box c = solutions_improve

pub returns-clause-all : goal.returns-clause-all
returns-clause-all c = all_solutions_improve
