use Rattle.std.proofs.Common.{rules, ap}
use Rattle.std.proofs.lemmas.Result.{err_from_is_err_and}
use Rattle.mn_cursor.specs.Progress.{Progress, rest}
use Rattle.mn_asking.proofs.AskingSteps.{static_stops, static_gives, no_static_gives}
use Rattle.mn_asking.proofs.ordering.behind_static.Goals as goal

pub returns-in_err-mark-clause-gives : goal.returns-in_err-mark-clause-gives
returns-in_err-mark-clause-gives c =
    let p = err_from_is_err_and c.from_residual.result c.from_residual.ensures.1 in
    rw (p.1, p.2) (static_stops c.args.scan.now.problem (rest c.args.scan.now) c.args.is_static c.in_err-mark.field-0.0 (search rules) c.in_err-mark.ensures.gives)

pub returns-then-is_static-clause-gives : goal.returns-then-is_static-clause-gives
returns-then-is_static-clause-gives c =
    static_gives _ c.order.result c.args.scan.now.problem (rest c.args.scan.now) c.mark.new.self.problem c.args.is_static (rest c.mark.new.self)
    (ap (λ (s : Progress). s.problem) c.in_ok-mark.ensures.moves) (search rules) c.in_ok-mark.ensures.gives c.order.ensures.gives

pub returns-clause-gives : goal.returns-clause-gives
returns-clause-gives c = no_static_gives _ c.order-2.result c.args.scan.now.problem (rest c.args.scan.now) c.args.is_static (search rules) c.order-2.ensures.gives
