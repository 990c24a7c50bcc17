use Rattle.std.proofs.Common.{◌<◌, ◌^◌, not, length, rules, arith}
use Rattle.mn_domains.proofs.Sieve.{sieved_all, sieved_next, sieved_none}
use Rattle.mn_domains.proofs.rows.Row.keep_hits.Goals as goal

pub loop-word-init : goal.loop-word-init
loop-word-init c = sieved_none c.args.bits.now.items c.args.self c.args.set.now (not c.args.wanted)

pub loop-word-preserved : goal.loop-word-preserved
loop-word-preserved c =
    let fits : c.part-lost.result < 2 ^ 64 = search rules in
    let tells = rw c.as_slice.ensures.value at c.part-lost.ensures in
    let words = c.loop-word.invariant.words in
    let within : c.loop-word.word < length c.loop-word.bits.items = omega arith in
    rw c.clear_in.ensures (sieved_next c.args.bits.now.items c.loop-word.bits.items c.args.self c.args.set.now (not c.args.wanted) c.loop-word.word c.part-lost.result c.loop-word.invariant tells within fits)

pub returns-clause-bits : goal.returns-clause-bits
returns-clause-bits c = λ i. sieved_all c.args.bits.now.items c.loop-word.bits.items c.args.self c.args.set.now (not c.args.wanted) c.loop-word.word i c.loop-word.invariant (omega arith)
