use Rattle.std.proofs.Common.{slice_get, ap, sym, ◌∙◌}
use Rattle.std.proofs.lemmas.Option.{slice_get_past}
use Rattle.mn_canonical.specs.Tables.{list_name}
use Rattle.mn_printer.proofs.Joining.{onto_none}
use Rattle.mn_printer.proofs.tables.list_called.Goals as goal

pub returns-in-None : goal.returns-in-None
returns-in-None c =
    onto_none _ _ (ap (λ lists. list_name (slice_get lists c.args.n)) (sym c.tuples.ensures) ∙ ap list_name (slice_get_past c.tuples.result.now c.args.n c.in-None.ensures.lookup.3))
