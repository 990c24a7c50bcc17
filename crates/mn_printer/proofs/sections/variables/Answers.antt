use Rattle.std.proofs.Common.{refl}
use Rattle.mn_printer.proofs.Separating.{then_onto, twice}
use Rattle.mn_printer.proofs.sections.variables.Goals as goal

pub returns : goal.returns
returns c = then_onto c.aliases.result _ _ _ _ _ _ (twice _ _ _ _ _ c.in_ok-put.ensures c.in_ok-declarations.ensures) refl c.aliases.ensures
