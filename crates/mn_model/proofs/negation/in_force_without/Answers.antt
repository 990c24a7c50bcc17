use Rattle.std.proofs.Common.{ap, ◌∙◌}
use Rattle.mn_model.specs.Negation.{more}
use Rattle.mn_model.specs.declared.constraint.Con.TheVariants.{WatchedAnd}
use Rattle.mn_model.proofs.Children.{made_more}
use Rattle.mn_model.proofs.negation.in_force_without.Goals as goal

pub returns : goal.returns
returns c =
    let last = made_more c.in_ok-new.field-0 c.in_ok-new-2.field-0 ∙ (λ i. more (c.in_ok-new.ensures i) (c.in_ok-new-2.ensures i)) in
    ap WatchedAnd (made_more c.in_ok-literal.literal c.in_ok-new-3.field-0 ∙ (λ i. more (c.in_ok-literal.ensures i) ((c.in_ok-new-3.ensures ∙ last) i)))
