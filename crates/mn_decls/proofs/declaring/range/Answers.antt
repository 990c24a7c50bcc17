use Rattle.std.proofs.Common.{rules, ◌≡◌, ◌≤◌, length, None, Ok, FitsSigned, to_z, of_z, w64, sym, ap, subst, ◌∙◌}
use Rattle.std.proofs.lemmas.Int.{to_z-of_z}
use Rattle.std.proofs.lemmas.Result.{err_from_is_err_and}
use Rattle.mn_grammar.specs.Gives.{Stops}
use Rattle.mn_grammar.specs.Reading.{number_at}
use Rattle.mn_model.specs.Domain.{stretch}
use Rattle.mn_model.specs.declared.limits.TheConstants.{SPAN}
use Rattle.mn_cursor.specs.Progress.{rest}
use Rattle.mn_decls.specs.Variables.{fair_end}
use Rattle.mn_decls.proofs.VariableSteps.{open_stops, lo_stops, dots_stop, hi_stops, close_stops, stretch_reads, is_short}
use Rattle.mn_decls.proofs.declaring.range.Goals as goal

pub returns-in_err-mark-clause-gives : goal.returns-in_err-mark-clause-gives
returns-in_err-mark-clause-gives c =
    let p = err_from_is_err_and c.from_residual.result c.from_residual.ensures.1 in
    rw (p.1, p.2) (open_stops c.args.limited (rest c.args.c.now) c.in_err-mark.field-0.0 c.in_err-mark.ensures.gives)

pub returns-in_err-lo-clause-gives : goal.returns-in_err-lo-clause-gives
returns-in_err-lo-clause-gives c =
    let p = err_from_is_err_and c.from_residual-in_err-lo.result c.from_residual-in_err-lo.ensures.1 in
    rw (p.1, p.2) (lo_stops c.args.limited (rest c.args.c.now) (rest c.mark.new.self) c.in_ok-mark.ensures.gives c.in_err-lo.field-0.0 c.in_err-lo.ensures.gives)

pub returns-in_err-mark-2-clause-gives : goal.returns-in_err-mark-2-clause-gives
returns-in_err-mark-2-clause-gives c =
    let p = err_from_is_err_and c.from_residual-in_err-mark-2.result c.from_residual-in_err-mark-2.ensures.1 in
    rw (p.1, p.2)
    (dots_stop c.args.limited (rest c.args.c.now) (rest c.mark.new.self) c.in_ok-mark.ensures.gives c.in_ok-lo.lo (rest c.any_number.new.c) c.in_ok-lo.ensures.gives
    c.in_err-mark-2.field-0.0 c.in_err-mark-2.ensures.gives)

pub returns-in_err-hi-clause-gives : goal.returns-in_err-hi-clause-gives
returns-in_err-hi-clause-gives c =
    let p = err_from_is_err_and c.from_residual-in_err-hi.result c.from_residual-in_err-hi.ensures.1 in
    let e = c.in_err-hi.field-0.0 in
    let fits : FitsSigned w64 c.in_ok-lo.lo = search rules in
    rw (p.1, p.2)
    (hi_stops c.args.limited (rest c.args.c.now) (rest c.mark.new.self) c.in_ok-mark.ensures.gives c.in_ok-lo.lo (rest c.any_number.new.c) c.in_ok-lo.ensures.gives (rest c.mark-2.new.self) c.in_ok-mark-2.ensures.gives e
    (subst (λ z. Stops e (number_at (fair_end c.args.limited z) (rest c.mark-2.new.self))) (to_z-of_z w64 c.in_ok-lo.lo fits) c.in_err-hi.ensures.gives))

pub returns-in_err-mark-3-clause-gives : goal.returns-in_err-mark-3-clause-gives
returns-in_err-mark-3-clause-gives c =
    let p = err_from_is_err_and c.from_residual-in_err-mark-3.result c.from_residual-in_err-mark-3.ensures.1 in
    let fits : FitsSigned w64 c.in_ok-lo.lo = search rules in
    rw (p.1, p.2)
    (close_stops c.args.limited (rest c.args.c.now) (rest c.mark.new.self) c.in_ok-mark.ensures.gives c.in_ok-lo.lo (rest c.any_number.new.c) c.in_ok-lo.ensures.gives (rest c.mark-2.new.self) c.in_ok-mark-2.ensures.gives c.in_ok-hi.hi (rest c.end.new.c)
    (subst (λ z. number_at (fair_end c.args.limited z) (rest c.mark-2.new.self) ≡ Ok (c.in_ok-hi.hi, rest c.end.new.c)) (to_z-of_z w64 c.in_ok-lo.lo fits) c.in_ok-hi.ensures.gives)
    c.in_err-mark-3.field-0.0 c.in_err-mark-3.ensures.gives)

pub returns-clause-gives : goal.returns-clause-gives
returns-clause-gives c =
    let fits : FitsSigned w64 c.in_ok-lo.lo = search rules in
    let fits_too : FitsSigned w64 c.in_ok-hi.hi = search rules in
    stretch_reads c.args.limited (rest c.args.c.now) (rest c.mark.new.self) c.in_ok-mark.ensures.gives c.in_ok-lo.lo (rest c.any_number.new.c) c.in_ok-lo.ensures.gives (rest c.mark-2.new.self) c.in_ok-mark-2.ensures.gives c.in_ok-hi.hi (rest c.end.new.c)
    (subst (λ z. number_at (fair_end c.args.limited z) (rest c.mark-2.new.self) ≡ Ok (c.in_ok-hi.hi, rest c.end.new.c)) (to_z-of_z w64 c.in_ok-lo.lo fits) c.in_ok-hi.ensures.gives)
    (rest c.mark-3.new.self) c.in_ok-mark-3.ensures.gives
    ∙ ap (λ values. Ok (values, rest c.mark-3.new.self)) (sym (c.stretch.ensures ∙ ap (λ z. stretch z (to_z w64 (of_z w64 c.in_ok-hi.hi))) (to_z-of_z w64 c.in_ok-lo.lo fits) ∙ ap (λ z. stretch c.in_ok-lo.lo z) (to_z-of_z w64 c.in_ok-hi.hi fits_too)))

pub returns-clause-discrete : goal.returns-clause-discrete
returns-clause-discrete c = λ is_limited.
    let fits : FitsSigned w64 c.in_ok-lo.lo = search rules in
    let fits_too : FitsSigned w64 c.in_ok-hi.hi = search rules in
    let is = c.stretch.ensures ∙ ap (λ z. stretch z (to_z w64 (of_z w64 c.in_ok-hi.hi))) (to_z-of_z w64 c.in_ok-lo.lo fits) ∙ ap (λ z. stretch c.in_ok-lo.lo z) (to_z-of_z w64 c.in_ok-hi.hi fits_too) in (
      c.in_ok-lo.lo,
      c.in_ok-hi.hi,
      is,
      subst (λ l. length l ≤ SPAN) (sym is)
          (is_short c.in_ok-lo.lo c.in_ok-hi.hi (subst (λ b. fair_end b c.in_ok-lo.lo c.in_ok-hi.hi ≡ None) is_limited (subst (λ z. fair_end c.args.limited z c.in_ok-hi.hi ≡ None) (to_z-of_z w64 c.in_ok-lo.lo fits) c.in_ok-hi.ensures.fair))),
    )
