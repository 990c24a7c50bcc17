use Rattle.mn_boxes.proofs.Spans.{Filled}
use Rattle.mn_boxes.proofs.bits.mark_span.Given as goal

abbrev pub invariant-loop-word : goal.invariant-loop-word
invariant-loop-word l = Filled l.fn.words.items l.words.items l.from l.to l.word
