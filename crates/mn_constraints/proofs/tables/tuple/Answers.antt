use Rattle.std.proofs.lemmas.Result.{err_from_is_err_and}
use Rattle.mn_cursor.specs.Progress.{rest}
use Rattle.mn_constraints.proofs.TupleSteps.{angle_stops, tuple_gives}
use Rattle.mn_constraints.proofs.tables.tuple.Goals as goal

pub returns-in_err-mark-clause-gives : goal.returns-in_err-mark-clause-gives
returns-in_err-mark-clause-gives c =
    let p = err_from_is_err_and c.from_residual.result c.from_residual.ensures.1 in
    rw (p.1, p.2) (angle_stops c.args.used c.args.arity c.args.cells.now (rest c.args.scan.now) c.tuple_kind.result c.tuple_kind.ensures c.in_err-mark.field-0.0 c.in_err-mark.ensures.gives)

pub returns-clause-gives : goal.returns-clause-gives
returns-clause-gives c =
    tuple_gives c.args.used c.args.arity c.args.cells.now (rest c.args.scan.now) c.tuple_kind.result c.tuple_kind.ensures _ c.numbers_to.result
    (rest c.mark.new.self) c.in_ok-mark.ensures.gives c.numbers_to.ensures.gives
