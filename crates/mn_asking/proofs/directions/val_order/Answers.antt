use Rattle.std.proofs.lemmas.Result.{err_from_is_err_and}
use Rattle.mn_cursor.specs.Progress.{rest}
use Rattle.mn_asking.proofs.AskingSteps.{val_order_stops, val_order_gives}
use Rattle.mn_asking.proofs.directions.val_order.Goals as goal

pub returns-in_err-mark-clause-gives : goal.returns-in_err-mark-clause-gives
returns-in_err-mark-clause-gives c =
    let p = err_from_is_err_and c.from_residual.result c.from_residual.ensures.1 in
    rw (p.1, p.2) (val_order_stops c.args.wanted (rest c.args.scan.now) c.in_err-mark.field-0.0 c.in_err-mark.ensures.gives)

pub returns-clause-gives : goal.returns-clause-gives
returns-clause-gives c = val_order_gives _ c.ways.result c.args.wanted (rest c.args.scan.now) (rest c.mark.new.self) c.in_ok-mark.ensures.gives c.ways.ensures.gives
