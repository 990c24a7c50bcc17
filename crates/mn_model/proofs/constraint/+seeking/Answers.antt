use Rattle.std.proofs.Common.{◌∷◌, [], ◌++◌, ◌∙◌, Err, Ok, ap, arith, refl, subst, sym}
use Rattle.mn_model.specs.Parts.{places, places_of}
use Rattle.mn_model.specs.Places.{IsAt}
use Rattle.mn_model.specs.declared.constraint.Cons.{size-Cons}
use Rattle.mn_model.proofs.Children.{others_below}
use Rattle.mn_model.proofs.Placed.{at_behind, at_front, more_places}
use Rattle.mn_model.proofs.constraint.+seeking.Goals as goal

pub Con::place_or_left-returns-in-Vectors : goal.Con::place_or_left-returns-in-Vectors
Con::place_or_left-returns-in-Vectors t c =
    subst (λ ts. IsAt ts c.args.i c.or_at.result) ((λ i. c.as_slice-in-Vectors.ensures i ++ c.as_slice-in-Vectors-2.ensures i) ∙ c.in-Vectors.ensures.placed)
    (c.or_at.ensures c.as_slice-in-Vectors.result.now c.args.i c.term_at-in-Vectors.ensures)

pub Con::place_or_left-returns-in-Before : goal.Con::place_or_left-returns-in-Before
Con::place_or_left-returns-in-Before t c =
    subst (λ ts. IsAt ts c.args.i c.or_at-in-Before.result) ((λ i. c.as_slice-in-Before.ensures i ++ c.in-Before.x ∷ []) ∙ c.in-Before.ensures.placed)
    (c.or_at-in-Before.ensures c.as_slice-in-Before.result.now c.args.i c.term_at-in-Before.ensures)

pub Con::place_or_left-returns-in-BeforeTwo : goal.Con::place_or_left-returns-in-BeforeTwo
Con::place_or_left-returns-in-BeforeTwo t c =
    subst (λ ts. IsAt ts c.args.i c.or_at-in-BeforeTwo.result) ((λ i. c.as_slice-in-BeforeTwo.ensures i ++ c.in-BeforeTwo.x ∷ c.in-BeforeTwo.y ∷ []) ∙ c.in-BeforeTwo.ensures.placed)
    (c.or_at-in-BeforeTwo.ensures c.as_slice-in-BeforeTwo.result.now c.args.i c.term_at-in-BeforeTwo.ensures)

pub Con::place_or_left-returns-in-InsideBefore : goal.Con::place_or_left-returns-in-InsideBefore
Con::place_or_left-returns-in-InsideBefore t c =
    subst (λ ts. IsAt ts c.args.i c.or_at-in-InsideBefore.result) c.in-InsideBefore.ensures.placed
    (c.or_at-in-InsideBefore.ensures _ c.args.i c.place_or_left-in-InsideBefore.ensures)

pub Cons::place_or_left-returns-in-Ok : goal.Cons::place_or_left-returns-in-Ok
Cons::place_or_left-returns-in-Ok t c =
    c.loop-rest.invariant.found (Ok c.in-Ok.term)
    (subst (λ ts. IsAt ts c.loop-rest.left (Ok c.in-Ok.term)) (more_places c.loop-rest.rest.now c.get.result.now c.in-More.first c.in-More.others c.in-More.others c.in-More.is c.get.ensures refl)
    (at_front (places c.get.result.now) (places_of c.in-More.others) c.loop-rest.left c.in-Ok.term (subst (IsAt (places c.get.result.now) c.loop-rest.left) c.in-Ok.is c.place_or_left.ensures)))

pub Cons::place_or_left-loop-rest-preserved : goal.Cons::place_or_left-loop-rest-preserved
Cons::place_or_left-loop-rest-preserved t c = record {
  found = λ r at. c.loop-rest.invariant.found r
      (subst (λ ts. IsAt ts c.loop-rest.left r) (more_places c.loop-rest.rest.now c.get.result.now c.in-More.first c.get-rest.result.now c.in-More.others c.in-More.is c.get.ensures c.get-rest.ensures)
      (at_behind (places c.get.result.now) (places_of c.get-rest.result.now) c.loop-rest.left c.in-Err.behind r (subst (IsAt (places c.get.result.now) c.loop-rest.left) c.in-Err.is c.place_or_left.ensures) at));
  depth = omega (arith, ap size-Cons c.in-More.is, others_below c.in-More.first c.in-More.others, ap size-Cons c.get-rest.ensures, c.loop-rest.invariant.depth);
}

pub Cons::place_or_left-returns : goal.Cons::place_or_left-returns
Cons::place_or_left-returns t c = c.loop-rest.invariant.found (Err c.loop-rest.left) (subst (λ ts. IsAt ts c.loop-rest.left (Err c.loop-rest.left)) (sym (ap places_of c.in_default.is)) (omega arith))
