use Rattle.std.proofs.Common.{◌≡◌, ℕ, ◌<◌, List, [], ◌∷◌, length, refl, arith}
use Rattle.mn_canonical.specs.Names.{subscript_text}
use Rattle.mn_printer.proofs.Joining.{onto_none}
use Rattle.mn_printer.proofs.names.subscript.Goals as goal

pub returns-in-empty : goal.returns-in-empty
returns-in-empty c = onto_none _ _ (none _ c.in-empty.len_below)
  where
    none : (dims : List ℕ) → length dims < 1 → subscript_text dims ≡ []
    none [] few = refl
    none (dim ∷ dims) few = absurd (omega arith)
