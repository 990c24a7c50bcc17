use Rattle.std.proofs.Common.{ap, sym, ◌∙◌, ◌∷◌, ◌++◌, [], arith}
use Rattle.mn_model.specs.Negation.{followed_by, more}
use Rattle.mn_model.specs.declared.constraint.Cons.{size-Cons}
use Rattle.mn_model.proofs.Children.{followed_by-push, made_more, others_below}
use Rattle.mn_model.proofs.constraint.+copying.Goals as goal

pub Cons::copy-loop-rest-preserved : goal.Cons::copy-loop-rest-preserved
Cons::copy-loop-rest-preserved t c = record {
  whole = ap (λ cs. followed_by cs c.get-rest.result.now) (c.in_ok-push.ensures.items ∙ ap (λ d. c.loop-rest.copies.items ++ d ∷ []) c.in_ok-copy.ensures)
      ∙ (followed_by-push c.loop-rest.copies.items c.get.result.now c.get-rest.result.now
      ∙ (ap (followed_by c.loop-rest.copies.items) ((λ i. more (c.get.ensures i) (c.get-rest.ensures i)) ∙ (sym (made_more c.in-More.first c.in-More.others) ∙ sym c.in-More.is)) ∙ c.loop-rest.invariant.whole));
  depth = omega (arith, ap size-Cons c.in-More.is, others_below c.in-More.first c.in-More.others, ap size-Cons c.get-rest.ensures, c.loop-rest.invariant.depth);
}
