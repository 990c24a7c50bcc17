use Rattle.std.proofs.Common.{ap}
use Rattle.std.proofs.lemmas.Result.{err_from_is_err_and}
use Rattle.mn_cursor.specs.Progress.{Progress, rest}
use Rattle.mn_asking.proofs.AskingSteps.{var_order_stops, var_order_gives}
use Rattle.mn_asking.proofs.ordering.var_order.Goals as goal

pub returns-in_err-is_static-clause-gives : goal.returns-in_err-is_static-clause-gives
returns-in_err-is_static-clause-gives c =
    let p = err_from_is_err_and c.from_residual.result c.from_residual.ensures.1 in
    rw (p.1, p.2) (var_order_stops c.args.scan.now.problem (rest c.args.scan.now) c.in_err-is_static.field-0.0 c.in_err-is_static.ensures.gives)

pub returns-clause-gives : goal.returns-clause-gives
returns-clause-gives c =
    var_order_gives _ c.behind_static.result c.args.scan.now.problem (rest c.args.scan.now) c.static_word.new.scan.problem c.in_ok-is_static.is_static (rest c.static_word.new.scan)
    (ap (λ (s : Progress). s.problem) c.in_ok-is_static.ensures.moves) c.in_ok-is_static.ensures.gives c.behind_static.ensures.gives
