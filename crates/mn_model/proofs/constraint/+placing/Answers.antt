use Rattle.std.proofs.Common.{ap, ◌∙◌, arith}
use Rattle.mn_model.specs.declared.constraint.Cons.{size-Cons}
use Rattle.mn_model.proofs.Children.{others_below}
use Rattle.mn_model.proofs.Placed.{added_places}
use Rattle.mn_model.proofs.constraint.+placing.Goals as goal

pub Cons::add_places-loop-rest-preserved : goal.Cons::add_places-loop-rest-preserved
Cons::add_places-loop-rest-preserved t c = record {
  whole = added_places c.loop-rest.rest.now c.get.result.now c.in-More.first c.get-rest.result.now c.in-More.others c.loop-rest.terms.items c.add_places.new.terms.items c.in-More.is c.get.ensures c.get-rest.ensures c.in_ok-add_places.ensures ∙ c.loop-rest.invariant.whole;
  depth = omega (arith, ap size-Cons c.in-More.is, others_below c.in-More.first c.in-More.others, ap size-Cons c.get-rest.ensures, c.loop-rest.invariant.depth);
}
