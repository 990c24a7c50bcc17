use Rattle.std.proofs.Common.{arith}
use Rattle.mn_printer.proofs.Joining.{page_steps}
use Rattle.mn_printer.proofs.lists.each_behind.Goals as goal

pub loop-item-init : goal.loop-item-init
loop-item-init g c = grind (arith, page_steps)

pub loop-item-preserved : goal.loop-item-preserved
loop-item-preserved g c = grind (arith, page_steps)

pub returns : goal.returns
returns g c = grind (arith, page_steps)
