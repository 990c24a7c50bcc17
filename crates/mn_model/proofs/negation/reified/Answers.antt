use Rattle.std.proofs.Common.{ap, ◌∙◌}
use Rattle.mn_model.specs.Negation.{reified}
use Rattle.mn_model.proofs.Children.{made_reified}
use Rattle.mn_model.proofs.negation.reified.Goals as goal

pub returns : goal.returns
returns c = made_reified c.in_ok-new.field-0 c.args.r ∙ ap (λ d. reified d c.args.r) (c.in_ok-new.ensures ∙ c.in_ok-copy.ensures)
