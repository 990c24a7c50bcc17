use Rattle.std.proofs.Common.{w64}
use Rattle.std.proofs.lemmas.Int.{to_z-of_z}
use Rattle.mn_arith.proofs.hull.Operation.spans.Goals as goal

pub returns : goal.returns
returns c =
    let below = rw (to_z-of_z w64 c.args.a c.ranges.a) at c.gives_below.ensures in
    let above = rw (to_z-of_z w64 c.args.a c.ranges.a) at c.gives_above.ensures in
    (λ e. (below.0 c.if-not-gives_below.false, above.0 e), λ both. above.1 both.1)
