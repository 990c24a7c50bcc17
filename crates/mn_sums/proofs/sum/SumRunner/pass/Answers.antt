use Rattle.mn_prop.specs.Posts.{beside}
use Rattle.mn_prop.proofs.Narrowing.{as_pass}
use Rattle.mn_sums.proofs.sum.SumRunner.pass.Goals as goal

pub returns-clause-step : goal.returns-clause-step
returns-clause-step c = let s = c.args.self.now in as_pass (beside s.inst.now.tuples s.con.now) c.filter.ensures
