use Rattle.std.proofs.Common.{rules}
use Rattle.mn_references.proofs.Rowing.{run_done}
use Rattle.mn_references.proofs.rows.run.Goals as goal

pub returns : goal.returns
returns c = run_done c.loop-left.run c.loop-left.left.now c.args.dims.now (search rules) c.loop-left.invariant
