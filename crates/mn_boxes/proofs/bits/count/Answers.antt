use Rattle.std.proofs.Common.{◌+◌, ◌-◌, sym, ap, ◌∙◌, arith}
use Rattle.mn_boxes.specs.Bits.{bit_of}
use Rattle.mn_boxes.proofs.Counts.{count_from-none, count_on}
use Rattle.mn_boxes.proofs.bits.count.Goals as goal

pub loop-i-init : goal.loop-i-init
loop-i-init c = record { from = omega arith; within = omega arith; count = sym (count_from-none (bit_of c.args.words.now) c.args.from (c.args.from - c.args.from) (omega arith)); few = omega arith }

pub loop-i-preserved : goal.loop-i-preserved
loop-i-preserved c = record {
  from = omega arith;
  within = omega arith;
  count = ap (λ n. c.loop-i.count + n) c.count_in-count.ensures.count ∙ count_on c.args.words.now c.args.from c.loop-i.i c.min-next.result c.loop-i.count c.loop-i.invariant.count c.loop-i.invariant.from (omega arith) (omega arith);
  few = omega (arith, c.count_in-count.ensures.few);
}
