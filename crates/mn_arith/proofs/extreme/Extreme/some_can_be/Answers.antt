use Rattle.std.proofs.Common.{◌≡◌, FitsSigned, of_z, rules, w64, sym, ap, ◌∙◌, true≢false}
use Rattle.std.proofs.lemmas.Int.{to_z-of_z}
use Rattle.mn_boxes.specs.Places.{PlaceHas}
use Rattle.mn_prop.specs.Contexts.{box_of}
use Rattle.mn_arith.proofs.Sharing.{rest_can}
use Rattle.mn_arith.proofs.extreme.Extreme.some_can_be.Goals as goal
use Rattle.mn_arith.proofs.extreme.Extreme.some_can_be.Goals.{else-reach-a-via-then-reach-a+else-has, else-reach-a-via-else-reach-a}

pub returns : goal.returns
returns c =
    let s = c.args.self.now in
    let r : FitsSigned w64 c.reach_beside-reach.result = search rules in
    let is = rw (to_z-of_z w64 c.args.a c.ranges.a) at c.reach_beside-reach.ensures in
    let tells = rw (to_z-of_z w64 c.reach_beside-reach.result r) at c.other_shares.ensures in
    rest_can s.terms.now c.args.i c.args.a s.greatest (box_of c.args.c.now) s.x c.reach_beside-reach.result is c.other_shares.result absent tells
  where
    absent : c.reach_beside-reach.result ≡ c.args.a → PlaceHas (box_of c.args.c.now) c.args.self.now.x c.args.a → ⊥
    absent same has = elim c.else-reach-a.branch [
      | else-reach-a-via-then-reach-a+else-has w ↦ (let tells = rw (to_z-of_z w64 c.args.a c.ranges.a) at w.has.ensures in true≢false (sym (tells.1 has) ∙ w.if-has.false))
      | else-reach-a-via-else-reach-a w ↦ w.if-reach-a.false (ap (of_z w64) same)
    ]
