use Rattle.std.proofs.Common.{FitsSigned, rules, w64, arith}
use Rattle.std.proofs.lemmas.Int.{to_z-of_z}
use Rattle.mn_domains.proofs.Marks.{found_first}
use Rattle.mn_domains.proofs.marked.least_from.Goals as goal

pub returns-clause-mark : goal.returns-clause-mark
returns-clause-mark c =
    let start = rw (to_z-of_z w64 c.args.lo c.ranges.lo, to_z-of_z w64 c.args.from c.ranges.from) at c.bit_number-start.ensures in
    let end = rw (to_z-of_z w64 c.args.lo c.ranges.lo, to_z-of_z w64 c.args.hi c.ranges.hi) at c.bit_number-end.ensures in
    let value = rw (to_z-of_z w64 c.args.lo c.ranges.lo) at c.value_at.ensures in
    let fits : FitsSigned w64 c.value_at.result = search rules in
    let found = found_first c.args.bits.now c.args.lo c.args.at c.next_set-found.result c.args.from c.args.hi c.requires.low c.requires.order (omega (arith, start, c.next_set-found.ensures.from)) (omega (arith, end, c.next_set-found.ensures.within)) c.next_set-found.ensures.set
    (λ k above below. c.next_set-found.ensures.none k (omega (arith, start, above)) below) in
    rw (to_z-of_z w64 c.value_at.result fits, value) found.mark

pub returns-clause-none : goal.returns-clause-none
returns-clause-none c =
    let start = rw (to_z-of_z w64 c.args.lo c.ranges.lo, to_z-of_z w64 c.args.from c.ranges.from) at c.bit_number-start.ensures in
    let end = rw (to_z-of_z w64 c.args.lo c.ranges.lo, to_z-of_z w64 c.args.hi c.ranges.hi) at c.bit_number-end.ensures in
    let value = rw (to_z-of_z w64 c.args.lo c.ranges.lo) at c.value_at.ensures in
    let fits : FitsSigned w64 c.value_at.result = search rules in
    let found = found_first c.args.bits.now c.args.lo c.args.at c.next_set-found.result c.args.from c.args.hi c.requires.low c.requires.order (omega (arith, start, c.next_set-found.ensures.from)) (omega (arith, end, c.next_set-found.ensures.within)) c.next_set-found.ensures.set
    (λ k above below. c.next_set-found.ensures.none k (omega (arith, start, above)) below) in
    rw (to_z-of_z w64 c.value_at.result fits, value) found.none
