use Rattle.mn_prop.proofs.Narrowing.{as_pass}
use Rattle.mn_arith.specs.Ariths.{posted_of}
use Rattle.mn_arith.proofs.arith.ArithRunner.pass.Goals as goal

pub returns-clause-step : goal.returns-clause-step
returns-clause-step c = as_pass (posted_of c.args.self.now) c.filter.ensures.step
