use Rattle.mn_boxes.proofs.Windows.{run_bits}
use Rattle.mn_boxes.proofs.bits.run.Goals as goal

pub returns : goal.returns
returns c = λ t less. run_bits c.args.first c.args.last t c.requires.order c.requires.last less
