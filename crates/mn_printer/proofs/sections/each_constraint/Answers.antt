use Rattle.std.proofs.Common.{sym, arith}
use Rattle.mn_canonical.specs.Canonical.{constraint_line}
use Rattle.mn_printer.proofs.Joining.{onto_nothing}
use Rattle.mn_printer.proofs.Separating.{item_more, twice}
use Rattle.mn_printer.proofs.sections.each_constraint.Goals as goal

pub loop-con-init : goal.loop-con-init
loop-con-init c = sym (onto_nothing _)

pub loop-con-preserved : goal.loop-con-preserved
loop-con-preserved c =
    item_more _ _ _ (constraint_line c.args.inst.now) _ c.loop-con.con-index _ c.con-item.is (omega arith) c.loop-con.invariant (twice _ _ _ _ _ c.in_ok-constraint.ensures c.in_ok-put.ensures)
