use Rattle.std.proofs.Common.{refl}
use Rattle.mn_printer.proofs.Separating.{then_onto}
use Rattle.mn_printer.proofs.sections.how_to_search.Goals as goal

pub returns : goal.returns
returns c = then_onto c.search.result _ _ _ _ _ _ c.in_ok-put.ensures refl c.search.ensures
