use Rattle.std.proofs.Common.{◌-◌, arith}
use Rattle.mn_domains.proofs.Sieve.{last_hit_here, none_earlier}
use Rattle.mn_domains.proofs.rows.Row.last_hit.Goals as goal

pub loop-word-preserved : goal.loop-word-preserved
loop-word-preserved c =
    let upto = c.loop-word.invariant.upto in
    record {
      none = none_earlier c.args.bits.now c.args.self c.args.set.now c.args.wanted (c.loop-word.word - 1) c.part-part.result (λ i at. c.loop-word.invariant.none i (omega (arith, at))) c.part-part.ensures (omega arith);
      upto = omega (arith, upto);
    }

pub returns-then-part-ne0 : goal.returns-then-part-ne0
returns-then-part-ne0 c =
    let last = last_hit_here c.args.bits.now c.args.self c.args.set.now c.args.wanted (c.loop-word.word - 1) c.part-part.result c.ilog2.result (λ i at. c.loop-word.invariant.none i (omega (arith, at))) c.part-part.ensures c.ilog2.ensures.bound c.ilog2.ensures.power_le c.ilog2.ensures.next_power_gt in
    (last.hit, last.none)
