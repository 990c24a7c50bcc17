use Rattle.mn_grammar.proofs.Exact as exact
use Rattle.mn_grammar.proofs.one_verdict.Goals as goal

pub returns-clause-some : goal.returns-clause-some
returns-clause-some g c = exact.some_verdict

pub returns-clause-one : goal.returns-clause-one
returns-clause-one g c = exact.one_verdict
