use Rattle.std.proofs.Common.{◌∙◌, sym, true≢false, w64}
use Rattle.std.proofs.lemmas.Int.{to_z-of_z}
use Rattle.mn_prop.proofs.Stepping.{no_step}
use Rattle.mn_count.proofs.Changed.{drop_step, stays}
use Rattle.mn_count.proofs.changes.drop_value.Goals as goal

pub returns-then-not-may_remove : goal.returns-then-not-may_remove
returns-then-not-may_remove c =
    let may = rw (to_z-of_z w64 c.args.a c.ranges.a) at c.may_remove.ensures in
    no_step c.args.c.now (stays c.args.t c.args.a c.args.c.now (λ goes. true≢false (sym (may.1 goes) ∙ c.if-not-may_remove.true)))

pub returns : goal.returns
returns c =
    let may = rw (to_z-of_z w64 c.args.a c.ranges.a) at c.may_remove.ensures in
    let change = rw (to_z-of_z w64 c.args.a c.ranges.a) at c.remove.ensures in
    drop_step c.args.t c.args.a c.args.c.now c.remove.new.self c.remove.result c.lawful.ensures.boxes.now c.requires (may.0 c.if-not-may_remove.false) change
