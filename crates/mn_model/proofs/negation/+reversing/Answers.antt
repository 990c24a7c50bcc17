use Rattle.std.proofs.Common.{◌≡◌, ◌<◌, ◌++◌, ◌∷◌, [], pos, ap, sym, ◌∙◌, arith, subst}
use Rattle.std.specs.Result.{IfOk}
use Rattle.mn_model.specs.Lawful.{HasNearConstants, HaveNearConstants}
use Rattle.mn_model.specs.Negation.{negation, negations, followed_by, more, reified}
use Rattle.mn_model.specs.declared.constraint.Con.TheVariants.{WatchedAnd, WLiteral, End}
use Rattle.mn_model.specs.declared.constraint.Cons.{size-Cons}
use Rattle.mn_model.specs.declared.constraint.Con.{size-Con}
use Rattle.mn_model.proofs.Children.{near_reified, near_implied, near_first, near_others, negation_reified, negation_implied, negation_negated, negations_more, followed_by-push, others_below, first_below, implied_below}
use Rattle.mn_model.proofs.negation.+reversing.Goals as goal

pub reverse-other-requires : goal.reverse-other-requires
reverse-other-requires t c = near_reified c.args.con.now c.in-Reify.part c.in-Reify.r c.in-Reify.is c.requires

pub reverse-reverse-requires : goal.reverse-reverse-requires
reverse-reverse-requires t c =
    let at : size-Con c.args.con.now ≡ t = c.decreases in
    let below : size-Con c.get-in-Reifyimply.result.now < t = omega (arith, at, ap size-Con c.get-in-Reifyimply.ensures, implied_below c.args.con.now c.in-Reifyimply.part c.in-Reifyimply.r c.in-Reifyimply.is) in
    (below, subst HasNearConstants (sym c.get-in-Reifyimply.ensures) (near_implied c.args.con.now c.in-Reifyimply.part c.in-Reifyimply.r c.in-Reifyimply.is c.requires))

pub reverse-returns-in-Reify : goal.reverse-returns-in-Reify
reverse-returns-in-Reify t c = subst (λ n. IfOk c.reified.result (λ reversed. reversed ≡ n)) ((λ i. reified (c.get.ensures i) (c.other.ensures i)) ∙ sym (negation_reified c.args.con.now c.in-Reify.part c.in-Reify.r c.in-Reify.is)) c.reified.ensures

pub reverse-returns-in_ok-reversed-in-Reifyimply : goal.reverse-returns-in_ok-reversed-in-Reifyimply
reverse-returns-in_ok-reversed-in-Reifyimply t c =
    let last = c.in_ok-reversed-in-Reifyimply.ensures ∙ ap negation c.get-in-Reifyimply.ensures in
    let whole = ap (λ last. WatchedAnd (more (WLiteral c.in-Reifyimply.r (pos 1)) (more last End))) last ∙ sym (negation_implied c.args.con.now c.in-Reifyimply.part c.in-Reifyimply.r c.in-Reifyimply.is) in
    subst (λ n. IfOk c.in_force_without.result (λ reversed. reversed ≡ n)) whole c.in_force_without.ensures

pub reverse-returns-in-Negated : goal.reverse-returns-in-Negated
reverse-returns-in-Negated t c = subst (λ n. IfOk c.copy.result (λ reversed. reversed ≡ n)) (c.get-in-Negated.ensures ∙ sym (negation_negated c.args.con.now c.in-Negated.part c.in-Negated.is)) c.copy.ensures

pub reverse_each-reverse-requires : goal.reverse_each-reverse-requires
reverse_each-reverse-requires t c =
    let at : size-Cons c.args.children.now ≡ t = c.decreases in
    let below : size-Con c.get.result.now < t = omega (arith, at, ap size-Con c.get.ensures, first_below c.loop-rest.rest.now c.in-More.first c.in-More.others c.in-More.is, c.loop-rest.invariant.depth) in
    (below, subst HasNearConstants (sym c.get.ensures) (near_first c.loop-rest.rest.now c.in-More.first c.in-More.others c.in-More.is c.loop-rest.invariant.near))

pub reverse_each-loop-rest-preserved : goal.reverse_each-loop-rest-preserved
reverse_each-loop-rest-preserved t c = record {
  whole = ap (λ cs. followed_by cs (negations c.get-rest.result.now)) (c.in_ok-push.ensures.items ∙ ap (λ d. c.loop-rest.reversed.items ++ d ∷ []) (c.in_ok-reverse.ensures ∙ ap negation c.get.ensures))
      ∙ (followed_by-push c.loop-rest.reversed.items (negation c.in-More.first) (negations c.get-rest.result.now)
      ∙ (ap (followed_by c.loop-rest.reversed.items) (ap (λ cs. more (negation c.in-More.first) (negations cs)) c.get-rest.ensures ∙ sym (negations_more c.loop-rest.rest.now c.in-More.first c.in-More.others c.in-More.is)) ∙ c.loop-rest.invariant.whole));
  near = subst HaveNearConstants (sym c.get-rest.ensures) (near_others c.loop-rest.rest.now c.in-More.first c.in-More.others c.in-More.is c.loop-rest.invariant.near);
  depth = omega (arith, ap size-Cons c.in-More.is, others_below c.in-More.first c.in-More.others, ap size-Cons c.get-rest.ensures, c.loop-rest.invariant.depth);
}
