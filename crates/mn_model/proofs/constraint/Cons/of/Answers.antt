use Rattle.std.proofs.Common.{ap, sym, ◌∙◌}
use Rattle.mn_model.specs.Negation.{followed_by, more}
use Rattle.mn_model.proofs.Children.{followed_by-push, made_more}
use Rattle.mn_model.proofs.constraint.Cons.of.Goals as goal

pub loop-last-preserved : goal.loop-last-preserved
loop-last-preserved c =
    ap (followed_by c.pop.new.self.items) (made_more c.in_ok-new.field-0 c.in_ok-new-2.field-0 ∙ (λ i. more (c.in_ok-new.ensures i) (c.in_ok-new-2.ensures i)))
    ∙ (sym (followed_by-push c.pop.new.self.items c.in-Some.last c.loop-last.cons) ∙ (ap (λ cs. followed_by cs c.loop-last.cons) (sym c.in-Some.ensures.items) ∙ c.loop-last.invariant))
