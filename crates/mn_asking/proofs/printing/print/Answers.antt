use Rattle.std.proofs.Common.{ap}
use Rattle.std.proofs.lemmas.Result.{err_from_is_err_and}
use Rattle.mn_cursor.specs.Progress.{Progress, rest}
use Rattle.mn_asking.specs.Asking.{print_seen}
use Rattle.mn_asking.proofs.AskingSteps.{print_stops, print_all_reads, print_none_reads, print_rows_stop, print_rows_read}
use Rattle.mn_asking.proofs.printing.print.Goals as goal

pub returns-in_err-print_start-clause-gives : goal.returns-in_err-print_start-clause-gives
returns-in_err-print_start-clause-gives c =
    let p = err_from_is_err_and c.from_residual.result c.from_residual.ensures.1 in
    rw (p.1, p.2) (print_stops c.args.scan.now.problem (rest c.args.scan.now) c.in_err-print_start.field-0.0 c.in_err-print_start.ensures.gives)

pub returns-in_err-rows-in-Listed-clause-gives : goal.returns-in_err-rows-in-Listed-clause-gives
returns-in_err-rows-in-Listed-clause-gives c =
    let p = err_from_is_err_and c.from_residual-in_err-rows-in-Listed.result c.from_residual-in_err-rows-in-Listed.ensures.1 in
    rw (p.1, p.2) (print_rows_stop c.args.scan.now.problem (rest c.args.scan.now) (print_seen c.in_ok-print_start.field-0) (rest c.print_start.new.scan) c.in_ok-print_start.ensures.gives
    (ap print_seen c.in-Listed.is) c.print_start.new.scan.problem (ap (λ (s : Progress). s.problem) c.in_ok-print_start.ensures.moves)
    c.in_err-rows-in-Listed.field-0.0 c.in_err-rows-in-Listed.ensures.gives)

pub returns-in-All-clause-gives : goal.returns-in-All-clause-gives
returns-in-All-clause-gives c =
    print_all_reads c.args.scan.now.problem (rest c.args.scan.now) (print_seen c.in_ok-print_start.field-0) (rest c.print_start.new.scan) c.in_ok-print_start.ensures.gives (ap print_seen c.in-All.is)

pub returns-in-Nothing-clause-gives : goal.returns-in-Nothing-clause-gives
returns-in-Nothing-clause-gives c =
    print_none_reads c.args.scan.now.problem (rest c.args.scan.now) (print_seen c.in_ok-print_start.field-0) (rest c.print_start.new.scan) c.in_ok-print_start.ensures.gives (ap print_seen c.in-Nothing.is)

pub returns-in_ok-rows-in-Listed-clause-gives : goal.returns-in_ok-rows-in-Listed-clause-gives
returns-in_ok-rows-in-Listed-clause-gives c =
    print_rows_read c.args.scan.now.problem (rest c.args.scan.now) (print_seen c.in_ok-print_start.field-0) (rest c.print_start.new.scan) c.in_ok-print_start.ensures.gives
    (ap print_seen c.in-Listed.is) c.print_start.new.scan.problem (ap (λ (s : Progress). s.problem) c.in_ok-print_start.ensures.moves)
    c.in_ok-rows-in-Listed.field-0 (rest c.rows.new.scan) c.in_ok-rows-in-Listed.ensures.gives
