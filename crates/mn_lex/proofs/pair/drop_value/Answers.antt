use Rattle.std.proofs.Common.{◌∙◌, sym, true≢false, w64}
use Rattle.std.proofs.lemmas.Int.{to_z-of_z}
use Rattle.mn_prop.proofs.Stepping.{no_step}
use Rattle.mn_lex.proofs.Changed.{drop_step, dropped, stays}
use Rattle.mn_lex.proofs.pair.drop_value.Goals as goal

pub returns-then-not-may_remove-clause-step : goal.returns-then-not-may_remove-clause-step
returns-then-not-may_remove-clause-step c =
    let may = rw (to_z-of_z w64 c.args.a c.ranges.a) at c.may_remove.ensures in
    no_step c.args.c.now (stays c.args.t c.args.a c.args.c.now (λ goes. true≢false (sym (may.1 goes) ∙ c.if-not-may_remove.true)))

pub returns-then-not-may_remove-clause-settled : goal.returns-then-not-may_remove-clause-settled
returns-then-not-may_remove-clause-settled c =
    let may = rw (to_z-of_z w64 c.args.a c.ranges.a) at c.may_remove.ensures in
    stays c.args.t c.args.a c.args.c.now (λ goes. true≢false (sym (may.1 goes) ∙ c.if-not-may_remove.true))

pub returns-clause-step : goal.returns-clause-step
returns-clause-step c =
    let may = rw (to_z-of_z w64 c.args.a c.ranges.a) at c.may_remove.ensures in
    let change = rw (to_z-of_z w64 c.args.a c.ranges.a) at c.remove.ensures in
    drop_step c.args.t c.args.a c.args.c.now c.remove.new.self c.remove.result c.lawful.ensures.boxes.now c.requires (may.0 c.if-not-may_remove.false) change

pub returns-clause-settled : goal.returns-clause-settled
returns-clause-settled c = dropped c.args.t c.args.a c.args.c.now c.remove.new.self c.remove.result (rw (to_z-of_z w64 c.args.a c.ranges.a) at c.remove.ensures)
