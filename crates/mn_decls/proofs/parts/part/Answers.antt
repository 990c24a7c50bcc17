use Rattle.std.proofs.Common.{rules, ◌≡◌, ℤ, Ok, FitsSigned, to_z, of_z, w64, sym, ap, subst, ◌∙◌}
use Rattle.std.proofs.lemmas.Int.{to_z-of_z}
use Rattle.std.proofs.lemmas.Result.{err_from_is_err_and}
use Rattle.mn_grammar.specs.Gives.{Stops}
use Rattle.mn_grammar.specs.Reading.{number_at}
use Rattle.mn_cursor.specs.Progress.{rest}
use Rattle.mn_decls.specs.Variables.{fair_last}
use Rattle.mn_decls.proofs.VariableSteps.{first_stops, alone, part_dots_stop, last_stops, range_reads}
use Rattle.mn_decls.proofs.parts.part.Goals as goal

pub returns-in_err-lo-clause-gives : goal.returns-in_err-lo-clause-gives
returns-in_err-lo-clause-gives c =
    let p = err_from_is_err_and c.from_residual.result c.from_residual.ensures.1 in
    rw (p.1, p.2) (first_stops c.args.values.now (rest c.args.c.now) c.in_err-lo.field-0.0 c.in_err-lo.ensures.gives)

pub returns-then-not-is_mark-clause-gives : goal.returns-then-not-is_mark-clause-gives
returns-then-not-is_mark-clause-gives c =
    let fits : FitsSigned w64 c.in_ok-lo.lo = search rules in
    let same = to_z-of_z w64 c.in_ok-lo.lo fits in
    alone c.args.values.now (rest c.args.c.now) c.in_ok-lo.lo (rest c.first.new.c) c.in_ok-lo.ensures.gives (search rules)
    ∙ ap (λ (z : ℤ). Ok ((z, z), rest c.first.new.c)) (sym same)

pub returns-in_err-mark-clause-gives : goal.returns-in_err-mark-clause-gives
returns-in_err-mark-clause-gives c =
    let p = err_from_is_err_and c.from_residual-in_err-mark.result c.from_residual-in_err-mark.ensures.1 in
    rw (p.1, p.2)
    (part_dots_stop c.args.values.now (rest c.args.c.now) c.in_ok-lo.lo (rest c.first.new.c) c.in_ok-lo.ensures.gives (search rules) c.in_err-mark.field-0.0 c.in_err-mark.ensures.gives)

pub returns-in_err-hi-clause-gives : goal.returns-in_err-hi-clause-gives
returns-in_err-hi-clause-gives c =
    let p = err_from_is_err_and c.from_residual-in_err-hi.result c.from_residual-in_err-hi.ensures.1 in
    let e = c.in_err-hi.field-0.0 in
    let fits : FitsSigned w64 c.in_ok-lo.lo = search rules in
    rw (p.1, p.2)
    (last_stops c.args.values.now (rest c.args.c.now) c.in_ok-lo.lo (rest c.first.new.c) c.in_ok-lo.ensures.gives (search rules) (rest c.mark.new.self) c.in_ok-mark.ensures.gives e
    (subst (λ z. Stops e (number_at (fair_last c.args.values.now z) (rest c.mark.new.self))) (to_z-of_z w64 c.in_ok-lo.lo fits) c.in_err-hi.ensures.gives))

pub returns-clause-gives : goal.returns-clause-gives
returns-clause-gives c =
    let fits : FitsSigned w64 c.in_ok-lo.lo = search rules in
    let fits_too : FitsSigned w64 c.in_ok-hi.hi = search rules in
    range_reads c.args.values.now (rest c.args.c.now) c.in_ok-lo.lo (rest c.first.new.c) c.in_ok-lo.ensures.gives (search rules) (rest c.mark.new.self) c.in_ok-mark.ensures.gives c.in_ok-hi.hi (rest c.last.new.c)
    (subst (λ z. number_at (fair_last c.args.values.now z) (rest c.mark.new.self) ≡ Ok (c.in_ok-hi.hi, rest c.last.new.c)) (to_z-of_z w64 c.in_ok-lo.lo fits) c.in_ok-hi.ensures.gives)
    ∙ ap (λ (z : ℤ). Ok ((z, c.in_ok-hi.hi), rest c.last.new.c)) (sym (to_z-of_z w64 c.in_ok-lo.lo fits))
    ∙ ap (λ (z : ℤ). Ok ((to_z w64 (of_z w64 c.in_ok-lo.lo), z), rest c.last.new.c)) (sym (to_z-of_z w64 c.in_ok-hi.hi fits_too))
