use Rattle.std.proofs.Common.{◌+◌, min, ap, length, sym, ◌∙◌, arith}
use Rattle.std.proofs.lemmas.List.{length-append}
use Rattle.mn_model.specs.Parts.{places, places_of}
use Rattle.mn_model.specs.declared.constraint.Cons.{size-Cons}
use Rattle.mn_model.proofs.Children.{others_below}
use Rattle.mn_model.proofs.Placed.{counted_more, more_places}
use Rattle.mn_model.proofs.constraint.+counting_places.Goals as goal

pub Cons::place_count-loop-rest-preserved : goal.Cons::place_count-loop-rest-preserved
Cons::place_count-loop-rest-preserved t c = record {
  whole = counted_more c.loop-rest.count (length (places c.get.result.now)) (length (places_of c.get-rest.result.now)) c.place_count.result c.saturating_add-count.result 18446744073709551615 c.place_count.ensures c.saturating_add-count.ensures
      ∙ (ap (λ n. min (c.loop-rest.count + n) 18446744073709551615) (sym (length-append (places c.get.result.now) (places_of c.get-rest.result.now)) ∙ ap length (more_places c.loop-rest.rest.now c.get.result.now c.in-More.first c.get-rest.result.now c.in-More.others c.in-More.is c.get.ensures c.get-rest.ensures)) ∙ c.loop-rest.invariant.whole);
  most = omega (arith, c.saturating_add-count.ensures);
  depth = omega (arith, ap size-Cons c.in-More.is, others_below c.in-More.first c.in-More.others, ap size-Cons c.get-rest.ensures, c.loop-rest.invariant.depth);
}

pub Cons::place_count-returns : goal.Cons::place_count-returns
Cons::place_count-returns t c =
    let none = ap (λ cs. length (places_of cs)) c.in_default.is in
    omega (arith, none, c.loop-rest.invariant.whole, c.loop-rest.invariant.most)
