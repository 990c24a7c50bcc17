use Rattle.std.proofs.Common.{sym, arith}
use Rattle.mn_canonical.specs.Declarations.{declaration_text}
use Rattle.mn_printer.proofs.Joining.{onto_nothing}
use Rattle.mn_printer.proofs.Separating.{item_more}
use Rattle.mn_printer.proofs.sections.declarations.Goals as goal

pub loop-decl-init : goal.loop-decl-init
loop-decl-init c = sym (onto_nothing _)

pub loop-decl-preserved : goal.loop-decl-preserved
loop-decl-preserved c = item_more _ _ _ declaration_text _ c.loop-decl.decl-index _ c.decl-item.is (omega arith) c.loop-decl.invariant c.in_ok-declaration.ensures
