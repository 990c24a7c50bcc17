use Rattle.mn_closure.specs.Computed.{closure_of}
use Rattle.mn_closure.proofs.Computing.{answer_none, answer_some, closure_answers, closure_or_none}
use Rattle.mn_closure.proofs.laws.closures_are_computed.Goals as goal

pub returns-clause-there : goal.returns-clause-there
returns-clause-there c = λ vars lists cons outer inner ascend suit is. answer_some vars lists cons outer (closure_of vars lists cons outer) (closure_answers vars lists cons outer ascend suit is) inner

pub returns-clause-none : goal.returns-clause-none
returns-clause-none c = λ vars lists cons outer ascend suit is. answer_none vars lists cons outer (closure_of vars lists cons outer) (closure_answers vars lists cons outer ascend suit is)

pub returns-clause-either : goal.returns-clause-either
returns-clause-either c = closure_or_none
