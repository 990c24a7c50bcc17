use Rattle.std.proofs.Common.{rules, Ok, sym, ap, ◌∙◌}
use Rattle.std.proofs.lemmas.Result.{err_from_is_err_and}
use Rattle.mn_cursor.specs.Progress.{rest}
use Rattle.mn_cursor.proofs.Turning.{stops_same}
use Rattle.mn_decls.proofs.VariableSteps.{curly_stops, empty_stops, parts_same}
use Rattle.mn_decls.proofs.parts.parts.Goals as goal

pub returns-in_err-mark-clause-gives : goal.returns-in_err-mark-clause-gives
returns-in_err-mark-clause-gives c =
    let p = err_from_is_err_and c.from_residual.result c.from_residual.ensures.1 in
    rw (p.1, p.2) (curly_stops (rest c.args.c.now) c.in_err-mark.field-0.0 c.in_err-mark.ensures.gives)

pub returns-then-is_mark-clause-gives : goal.returns-then-is_mark-clause-gives
returns-then-is_mark-clause-gives c =
    empty_stops (rest c.args.c.now) (rest c.mark.new.self) c.in_ok-mark.ensures.gives c.refused.result (search rules) c.refused.ensures

pub returns-in_err-values-clause-gives : goal.returns-in_err-values-clause-gives
returns-in_err-values-clause-gives c =
    let p = err_from_is_err_and c.from_residual-in_err-values.result c.from_residual-in_err-values.ensures.1 in
    rw (p.1, p.2)
    (stops_same c.in_err-values.field-0.0 _ _ (parts_same (rest c.args.c.now) (rest c.mark.new.self) c.in_ok-mark.ensures.gives (search rules)) c.in_err-values.ensures.gives)

pub returns-clause-gives : goal.returns-clause-gives
returns-clause-gives c =
    parts_same (rest c.args.c.now) (rest c.mark.new.self) c.in_ok-mark.ensures.gives (search rules)
    ∙ c.in_ok-values.ensures.gives
    ∙ ap (λ l. Ok (l, rest c.parts_list.new.c)) (sym (search rules))
