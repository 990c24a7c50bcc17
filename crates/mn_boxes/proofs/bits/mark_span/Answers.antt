use Rattle.std.proofs.Common.{◌<◌, length, arith}
use Rattle.mn_boxes.proofs.Spans.{filled_all, filled_next, filled_none}
use Rattle.mn_boxes.proofs.bits.mark_span.Goals as goal

pub loop-word-init : goal.loop-word-init
loop-word-init c = filled_none c.args.words.now.items c.args.from c.args.to

pub loop-word-preserved : goal.loop-word-preserved
loop-word-preserved c =
    let long = c.loop-word.invariant.long in
    let within : c.loop-word.word < length c.loop-word.words.items = omega arith in
    rw c.set_in.ensures (filled_next c.args.words.now.items c.loop-word.words.items c.args.from c.args.to c.loop-word.word c.run_in-more.result c.loop-word.invariant c.run_in-more.ensures within)

pub returns-clause-bits : goal.returns-clause-bits
returns-clause-bits c = λ i. filled_all c.args.words.now.items c.loop-word.words.items c.args.from c.args.to c.loop-word.word i c.loop-word.invariant (omega arith)
