use Rattle.std.proofs.Common.{◌<◌, ◌^◌, rules, arith}
use Rattle.mn_boxes.specs.Values.{members, place_of}
use Rattle.mn_boxes.proofs.Windows.{window_tells}
use Rattle.mn_boxes.proofs.value_set.ValueSet.window.Goals as goal

pub returns : goal.returns
returns c = λ a from to.
    let fits : c.word-first.result < 2 ^ 64 = search rules in
    window_tells c.word-first.result c.word-second.result c.args.place (place_of a) (members c.args.self.now a) fits (omega arith) from to (c.word-first.ensures a) (c.word-second.ensures a)
