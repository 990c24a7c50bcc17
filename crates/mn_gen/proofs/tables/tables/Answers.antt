use Rattle.mn_gen.proofs.Rings.{ring_begun, ring_done}
use Rattle.mn_gen.proofs.tables.tables.Goals as goal

pub fill-requires-clause-ring : goal.fill-requires-clause-ring
fill-requires-clause-ring c = ring_begun c.args.seed c.args.n c.in_ok-inst.inst c.in_ok-inst.ensures

pub returns : goal.returns
returns c = ring_done c.args.seed c.args.n c.fill.new.inst c.in_ok-fill.ensures
