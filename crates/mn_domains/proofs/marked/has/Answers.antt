use Rattle.std.proofs.Common.{◌∙◌, w64, ap, sym, true≢false}
use Rattle.std.proofs.lemmas.Int.{to_z-of_z}
use Rattle.mn_domains.specs.Held.{bit_of}
use Rattle.mn_domains.proofs.Marks.{is_marked, told_marked}
use Rattle.mn_domains.proofs.marked.has.Goals as goal

pub returns-then-reach : goal.returns-then-reach
returns-then-reach c =
    let number = rw (to_z-of_z w64 c.args.lo c.ranges.lo, to_z-of_z w64 c.args.a c.ranges.a) at c.bit_number.ensures in
    let between = rw (to_z-of_z w64 c.args.a c.ranges.a) at (c.reach.ensures.0 c.if-reach.true) in
    told_marked c.args.bits.now c.args.lo c.args.at c.args.ends c.args.a c.requires.ordered between c.is_set.result (c.is_set.ensures ∙ ap (bit_of c.args.bits.now) number)

pub returns-else-reach : goal.returns-else-reach
returns-else-reach c = (
  λ t. absurd (true≢false (sym t ∙ c.if-reach.false)),
  λ has. (let m = is_marked c.args.bits.now c.args.lo c.args.at c.args.ends c.args.a c.requires.ordered has in rw (to_z-of_z w64 c.args.a c.ranges.a) at c.reach.ensures.1 (m.low, m.high)),
)
