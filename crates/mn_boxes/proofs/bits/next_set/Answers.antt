use Rattle.std.proofs.Common.{◌/◌, ◌^◌, ◌<◌, slice_index_or, rules, arith}
use Rattle.mn_boxes.proofs.Words.{first_here, first_later, later_word, within_first}
use Rattle.mn_boxes.proofs.bits.next_set.Goals as goal

pub overflow_add-result : goal.overflow_add-result
overflow_add-result c =
    let fits : slice_index_or c.args.words.now (c.args.i / 64) 0 < 2 ^ 64 = search rules in
    let first = first_here c.args.words.now c.args.i fits (omega arith) in
    let within = within_first c.args.words.now c.args.i c.args.end _ c.requires.order c.requires.set first in
    search (rules, within, c.ranges.end)

pub returns-then-rest-ne0 : goal.returns-then-rest-ne0
returns-then-rest-ne0 c =
    let fits : slice_index_or c.args.words.now (c.args.i / 64) 0 < 2 ^ 64 = search rules in
    let first = first_here c.args.words.now c.args.i fits (omega arith) in
    record { from = first.from; within = within_first c.args.words.now c.args.i c.args.end _ c.requires.order c.requires.set first; set = first.set; none = first.none }

pub next_word-word-requires-clause-order : goal.next_word-word-requires-clause-order
next_word-word-requires-clause-order c = (later_word c.args.words.now c.args.i c.args.end c.requires.order c.requires.set (omega arith)).order

pub next_word-word-requires-clause-some : goal.next_word-word-requires-clause-some
next_word-word-requires-clause-some c = (later_word c.args.words.now c.args.i c.args.end c.requires.order c.requires.set (omega arith)).some

pub returns : goal.returns
returns c =
    let fits : slice_index_or c.args.words.now c.next_word-word.result 0 < 2 ^ 64 = search rules in
    let first = first_later c.args.words.now c.args.i c.next_word-word.result (omega arith) c.next_word-word.ensures.from fits c.next_word-word.ensures.some c.next_word-word.ensures.none in
    record { from = first.from; within = within_first c.args.words.now c.args.i c.args.end _ c.requires.order c.requires.set first; set = first.set; none = first.none }
