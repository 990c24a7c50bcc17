use Rattle.std.proofs.Common.{ap, sym, ◌∙◌}
use Rattle.mn_printer.specs.Pages.{onto}
use Rattle.mn_printer.proofs.Joining.{onto_nothing}
use Rattle.mn_printer.proofs.Ones.{one_more_repeated, no_more_repeated}
use Rattle.mn_printer.proofs.declarations.repeat.Goals as goal

pub loop-left-preserved : goal.loop-left-preserved
loop-left-preserved c = one_more_repeated _ _ c.loop-left.left c.args.bytes.now c.loop-left-test.true c.in_ok-put.ensures ∙ c.loop-left.invariant

pub returns : goal.returns
returns c = sym (onto_nothing _) ∙ ap (onto c.loop-left.page) (sym (no_more_repeated c.loop-left.left c.args.bytes.now c.loop-left-test.false)) ∙ c.loop-left.invariant
