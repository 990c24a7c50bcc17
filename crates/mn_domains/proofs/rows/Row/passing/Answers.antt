use Rattle.std.proofs.Common.{◌<◌, ◌-◌, ◌^◌, not, cond, sym, ap, ◌∙◌, rules, arith}
use Rattle.mn_boxes.specs.Values.{members, place_of}
use Rattle.mn_boxes.proofs.Windows.{word_bit-not}
use Rattle.mn_domains.proofs.rows.Row.passing.Goals as goal

pub returns-else-wanted : goal.returns-else-wanted
returns-else-wanted c = λ a from to.
    let fits : c.window-window.result < 2 ^ 64 = search rules in
    ap (λ b. cond b (members c.args.set.now a) (not (members c.args.set.now a))) c.if-wanted.false
    ∙ (ap not (c.window-window.ensures a from to) ∙ sym (word_bit-not c.window-window.result (place_of a - c.args.place) fits (omega (arith, from, to))))
