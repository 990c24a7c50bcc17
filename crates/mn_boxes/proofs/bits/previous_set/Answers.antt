use Rattle.std.proofs.Common.{◌≡◌, ◌%◌, false, sym, ◌∙◌, arith}
use Rattle.mn_boxes.specs.Bits.{bit_of}
use Rattle.mn_boxes.proofs.Words.{earlier_word, last_earlier, last_here, one_bit, within_last}
use Rattle.mn_boxes.proofs.bits.previous_set.Goals as goal

pub returns-then-rest-ne0 : goal.returns-then-rest-ne0
returns-then-rest-ne0 c =
    let clear : bit_of c.args.words.now c.args.i ≡ false = sym c.is_set.ensures ∙ c.if-is_set.false in
    let low = rw (one_bit (c.args.i % 64) (omega arith)) at c.ilog2.ensures.power_le in
    let high = rw (one_bit (c.args.i % 64) (omega arith)) at c.ilog2.ensures.next_power_gt in
    let last = last_here c.args.words.now c.args.i c.ilog2.result clear low high in
    record { from = within_last c.args.words.now c.args.i c.args.start _ c.requires.order c.requires.set last; within = last.upto; set = last.set; none = last.none }

pub previous_word-word-requires-clause-order : goal.previous_word-word-requires-clause-order
previous_word-word-requires-clause-order c =
    let clear : bit_of c.args.words.now c.args.i ≡ false = sym c.is_set.ensures ∙ c.if-is_set.false in
    let rest = rw (one_bit (c.args.i % 64) (omega arith)) at c.if-rest-ne0.false in
    (earlier_word c.args.words.now c.args.i c.args.start c.requires.order c.requires.set clear rest).order

pub previous_word-word-requires-clause-some : goal.previous_word-word-requires-clause-some
previous_word-word-requires-clause-some c =
    let clear : bit_of c.args.words.now c.args.i ≡ false = sym c.is_set.ensures ∙ c.if-is_set.false in
    let rest = rw (one_bit (c.args.i % 64) (omega arith)) at c.if-rest-ne0.false in
    (earlier_word c.args.words.now c.args.i c.args.start c.requires.order c.requires.set clear rest).some

pub returns : goal.returns
returns c =
    let clear : bit_of c.args.words.now c.args.i ≡ false = sym c.is_set.ensures ∙ c.if-is_set.false in
    let rest = rw (one_bit (c.args.i % 64) (omega arith)) at c.if-rest-ne0.false in
    let w = c.previous_word-word.ensures in
    let last = last_earlier c.args.words.now c.args.i c.previous_word-word.result c.ilog2-2.result clear rest w.within c.ilog2-2.ensures.bound c.ilog2-2.ensures.power_le c.ilog2-2.ensures.next_power_gt w.none in
    record { from = within_last c.args.words.now c.args.i c.args.start _ c.requires.order c.requires.set last; within = last.upto; set = last.set; none = last.none }
