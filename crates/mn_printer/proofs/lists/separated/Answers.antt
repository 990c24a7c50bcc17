use Rattle.std.proofs.Common.{ap, sym, ◌∙◌}
use Rattle.mn_printer.specs.Pages.{onto}
use Rattle.mn_printer.proofs.Joining.{onto_nothing}
use Rattle.mn_printer.proofs.Separating.{separated_first, separated_none, then_onto}
use Rattle.mn_printer.proofs.lists.separated.Goals as goal

pub returns-in-empty : goal.returns-in-empty
returns-in-empty g c = sym (ap (λ t. onto c.args.page.now t) (separated_none _ (g.T.Printed.text c.args.inst.now) _ c.in-empty.len_below) ∙ onto_nothing _)

pub returns-in_ok-print_on-in-len1-up : goal.returns-in_ok-print_on-in-len1-up
returns-in_ok-print_on-in-len1-up g c =
    then_onto c.each_behind.result _ _ _ _ _ _ c.in_ok-print_on-in-len1-up.ensures
    (separated_first c.args.separator.now (g.T.Printed.text c.args.inst.now) _ _ c.in-len1-up.len_at_least c.first-item.is) c.each_behind.ensures
