use Rattle.mn_constraints.proofs.Odd.{odd_is}
use Rattle.mn_constraints.proofs.numbers.is_odd.Goals as goal

pub returns : goal.returns
returns c = odd_is c.args.count
