use Rattle.std.proofs.lemmas.Result.{err_from_is_err_and}
use Rattle.mn_cursor.specs.Progress.{rest}
use Rattle.mn_constraints.proofs.FormSteps.{form_unseen, form_stops, form_reads, form_deep}
use Rattle.mn_constraints.proofs.nested.form.Goals as goal

pub returns-in_err-form-clause-gives : goal.returns-in_err-form-clause-gives
returns-in_err-form-clause-gives c = λ n.
    let p = err_from_is_err_and c.from_residual.result c.from_residual.ensures.1 in
    rw (p.1, p.2) (form_unseen c.args.depth (record { full = c.args.full; cells = n }) (rest c.args.scan.now) c.in_err-form.field-0.0 c.in_err-form.ensures.sees)

pub returns-in_err-accept-clause-gives : goal.returns-in_err-accept-clause-gives
returns-in_err-accept-clause-gives c = λ n.
    let p = err_from_is_err_and c.from_residual-in_err-accept.result c.from_residual-in_err-accept.ensures.1 in
    rw (p.1, p.2)
    (form_stops c.args.depth (record { full = c.args.full; cells = n }) (rest c.args.scan.now) c.in_ok-form.form c.in_ok-form.ensures.sees c.form_kind.result (c.form_kind.ensures n)
    c.in_err-accept.field-0.0 c.in_err-accept.ensures.gives)

pub returns-clause-gives : goal.returns-clause-gives
returns-clause-gives c = λ n.
    form_reads c.args.depth (record { full = c.args.full; cells = n }) (rest c.args.scan.now) c.in_ok-form.form c.in_ok-form.ensures.sees c.form_kind.result (c.form_kind.ensures n)
    (rest c.accept.new.self) c.in_ok-accept.ensures.gives

pub returns-clause-deep : goal.returns-clause-deep
returns-clause-deep c =
    form_deep c.args.depth (record { full = c.args.full; cells = 0 }) (rest c.args.scan.now) c.in_ok-form.form c.in_ok-form.ensures.sees c.form_kind.result (c.form_kind.ensures 0)
    (rest c.accept.new.self) c.in_ok-accept.ensures.gives
