use Rattle.std.proofs.Common.{FitsSigned, rules, w64, arith}
use Rattle.std.proofs.lemmas.Int.{to_z-of_z}
use Rattle.mn_domains.proofs.Marks.{found_last}
use Rattle.mn_domains.proofs.marked.greatest_to.Goals as goal

pub returns : goal.returns
returns c =
    let start = rw (to_z-of_z w64 c.args.lo c.ranges.lo, to_z-of_z w64 c.args.low c.ranges.low) at c.bit_number-start.ensures in
    let end = rw (to_z-of_z w64 c.args.lo c.ranges.lo, to_z-of_z w64 c.args.to c.ranges.to) at c.bit_number-end.ensures in
    let value = rw (to_z-of_z w64 c.args.lo c.ranges.lo) at c.value_at.ensures in
    let fits : FitsSigned w64 c.value_at.result = search rules in
    let found = found_last c.args.bits.now c.args.lo c.args.at c.previous_set-found.result c.args.low c.args.to c.requires.low c.requires.order (omega (arith, start, c.previous_set-found.ensures.from)) (omega (arith, end, c.previous_set-found.ensures.within)) c.previous_set-found.ensures.set
    (λ k above below. c.previous_set-found.ensures.none k above (omega (arith, end, below))) in
    rw (to_z-of_z w64 c.value_at.result fits, value) (record { from = found.from; within = found.within; mark = found.mark; none = found.none })
