use Rattle.mn_meaning.proofs.Solving.{domains_ascend}
use Rattle.mn_meaning.proofs.laws.lawful_problems_are_fit.Goals as goal

pub returns-clause-ascend : goal.returns-clause-ascend
returns-clause-ascend c = λ p lawful. domains_ascend p.decls lawful.decls

pub returns-clause-known : goal.returns-clause-known
returns-clause-known c = λ p lawful. lawful.order.known
