use Rattle.std.proofs.Common.{ap, ◌∙◌}
use Rattle.mn_model.specs.Negation.{negated}
use Rattle.mn_model.proofs.Children.{made_negated}
use Rattle.mn_model.proofs.negation.negated.Goals as goal

pub returns : goal.returns
returns c = made_negated c.in_ok-new.field-0 ∙ ap negated (c.in_ok-new.ensures ∙ c.in_ok-copy.ensures)
