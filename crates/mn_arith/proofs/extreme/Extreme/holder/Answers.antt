use Rattle.std.proofs.Common.{length, w64, arith}
use Rattle.std.proofs.lemmas.Int.{to_z-of_z}
use Rattle.std.proofs.lemmas.Option.{slice_get_within}
use Rattle.mn_boxes.specs.Places.{PlaceHas}
use Rattle.mn_prop.specs.Contexts.{box_of}
use Rattle.mn_arith.proofs.Others.{all_others}
use Rattle.mn_arith.proofs.extreme.Extreme.holder.Goals as goal

pub returns : goal.returns
returns c =
    let v = c.args.self.now.terms.now in
    let none = rw (to_z-of_z w64 c.args.m c.ranges.m) at c.loop-j.invariant in
    λ j t stands. (
    let below = slice_get_within v j t stands in
    all_others c.as_slice-t-items.result.now v c.loop-j.j (length v) (λ t. PlaceHas (box_of c.args.c.now) t c.args.m → ⊥) c.as_slice-t-items.ensures (omega (arith, c.loop-j-test.false)) none j t stands (λ e. omega (arith, below, e)))
