use Rattle.mn_arith.proofs.Spreading.{revised_part}
use Rattle.mn_arith.proofs.extreme.Extreme.revise_extreme.Goals as goal

pub returns : goal.returns
returns c = let s = c.args.self.now in revised_part s.greatest s.terms.now s.x s.inst.now.tuples c.len.ensures c.revise.ensures
