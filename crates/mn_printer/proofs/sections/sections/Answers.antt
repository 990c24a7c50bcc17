use Rattle.std.proofs.Common.{refl}
use Rattle.mn_canonical.specs.Canonical.{canonical_text}
use Rattle.mn_printer.proofs.Separating.{then_onto, thrice}
use Rattle.mn_printer.proofs.sections.sections.Goals as goal

pub returns : goal.returns
unfolding canonical_text
returns c =
    then_onto c.put-2.result _ _ _ _ _ _
    (thrice _ _ _ _ _ _ _ (thrice _ _ _ _ _ _ _ c.in_ok-put.ensures c.in_ok-variables.ensures c.in_ok-tuple_lists.ensures) c.in_ok-how_to_search.ensures c.in_ok-constraints.ensures)
    refl c.put-2.ensures
