use Rattle.std.proofs.Common.{sym, arith}
use Rattle.mn_canonical.specs.Tables.{tuple_list_text}
use Rattle.mn_printer.proofs.Joining.{onto_nothing}
use Rattle.mn_printer.proofs.Separating.{item_more}
use Rattle.mn_printer.proofs.sections.each_tuple_list.Goals as goal

pub loop-list-init : goal.loop-list-init
loop-list-init c = sym (onto_nothing _)

pub loop-list-preserved : goal.loop-list-preserved
loop-list-preserved c = item_more _ _ _ tuple_list_text _ c.loop-list.list-index _ c.list-item.is (omega arith) c.loop-list.invariant c.in_ok-tuple_list.ensures
