use Rattle.std.proofs.lemmas.Result.{err_from_is_err_and}
use Rattle.mn_cursor.specs.Progress.{rest}
use Rattle.mn_reader.proofs.TextSteps.{title_stops, start_ok, start_err}
use Rattle.mn_reader.proofs.text.start.Goals as goal

pub returns-in_err-title-clause-err : goal.returns-in_err-title-clause-err
returns-in_err-title-clause-err c =
    let p = err_from_is_err_and c.from_residual.result c.from_residual.ensures.1 in
    rw (p.1, p.2) (title_stops (rest c.args.c.now) c.in_err-title.field-0.0 c.in_err-title.ensures.gives)

pub returns-clause-ok : goal.returns-clause-ok
returns-clause-ok c = start_ok (rest c.args.c.now) (rest c.title.new.c) (rest c.version.new.c) c.in_ok-title.ensures.gives c.version.result c.version.ensures.gives

pub returns-clause-err : goal.returns-clause-err
returns-clause-err c = start_err (rest c.args.c.now) (rest c.title.new.c) (rest c.version.new.c) c.in_ok-title.ensures.gives c.version.result c.version.ensures.gives
