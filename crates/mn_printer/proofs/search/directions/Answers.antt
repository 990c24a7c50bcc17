use Rattle.std.proofs.Common.{Bool, ◌++◌, map, codes, ap, sym}
use Rattle.mn_canonical.specs.Lists.{bracketed}
use Rattle.mn_canonical.specs.Search.{line_if, direction_text}
use Rattle.mn_printer.proofs.Joining.{onto_none}
use Rattle.mn_printer.proofs.search.directions.Goals as goal

pub returns-then-not-any : goal.returns-then-not-any
returns-then-not-any c = onto_none _ _ (ap (λ (says : Bool). line_if says (codes "VALORDER " ++ bracketed (map direction_text c.args.down.now) ++ codes "\n")) (sym c.if-not-any.ensures))
