use Rattle.std.proofs.lemmas.Result.{err_from_is_err_and}
use Rattle.mn_cursor.specs.Progress.{rest}
use Rattle.mn_constraints.proofs.RowSteps.{argument_stops, behind_stops, argument_reads}
use Rattle.mn_constraints.proofs.arguments.argument_then.Goals as goal

pub returns-in_err-argued-clause-gives : goal.returns-in_err-argued-clause-gives
returns-in_err-argued-clause-gives c = λ vs same.
    let p = err_from_is_err_and c.from_residual.result c.from_residual.ensures.1 in
    rw (p.1, p.2) (argument_stops c.args.scan.now.problem c.args.used c.args.kind vs c.args.mark (rest c.args.scan.now) c.in_err-argued.field-0.0 (c.in_err-argued.ensures.gives vs same))

pub returns-in_err-mark-clause-gives : goal.returns-in_err-mark-clause-gives
returns-in_err-mark-clause-gives c = λ vs same.
    let p = err_from_is_err_and c.from_residual-in_err-mark.result c.from_residual-in_err-mark.ensures.1 in
    rw (p.1, p.2)
    (behind_stops c.args.scan.now.problem c.args.used c.args.kind vs c.args.mark (rest c.args.scan.now) c.in_ok-argued.argued (rest c.argument.new.scan) (c.in_ok-argued.ensures.gives vs same)
    c.kind.result c.kind.ensures c.in_err-mark.field-0.0 c.in_err-mark.ensures.gives)

pub returns-clause-gives : goal.returns-clause-gives
returns-clause-gives c = λ vs same.
    argument_reads c.args.scan.now.problem c.args.used c.args.kind vs c.args.mark (rest c.args.scan.now) c.in_ok-argued.argued (rest c.argument.new.scan) (c.in_ok-argued.ensures.gives vs same)
    c.kind.result c.kind.ensures (rest c.mark.new.self) c.in_ok-mark.ensures.gives
