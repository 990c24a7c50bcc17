use Rattle.std.proofs.Common.{sym, arith}
use Rattle.mn_canonical.specs.Declarations.{alias_text}
use Rattle.mn_printer.proofs.Joining.{onto_nothing}
use Rattle.mn_printer.proofs.Separating.{item_more}
use Rattle.mn_printer.proofs.sections.aliases.Goals as goal

pub loop-a-init : goal.loop-a-init
loop-a-init c = sym (onto_nothing _)

pub loop-a-preserved : goal.loop-a-preserved
loop-a-preserved c = item_more _ _ _ (alias_text c.args.inst.now) _ c.loop-a.a-index _ c.a-item.is (omega arith) c.loop-a.invariant c.in_ok-alias.ensures
