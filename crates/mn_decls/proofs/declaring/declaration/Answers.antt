use Rattle.std.proofs.Common.{◌≡◌, Ok, sym, ap, subst, ◌∙◌}
use Rattle.std.proofs.lemmas.Result.{err_from_is_err_and}
use Rattle.mn_grammar.specs.Gives.{Stops}
use Rattle.mn_model.specs.Problem.{Problem}
use Rattle.mn_cursor.specs.Added.{with_declaration}
use Rattle.mn_cursor.specs.Progress.{Progress, rest}
use Rattle.mn_decls.specs.Variables.{dims_at}
use Rattle.mn_decls.proofs.VariableSteps.{name_stops, dims_stop, domain_stops, declaration_reads}
use Rattle.mn_decls.proofs.declaring.declaration.Goals as goal

pub returns-in_err-name-clause-err : goal.returns-in_err-name-clause-err
returns-in_err-name-clause-err c =
    let p = err_from_is_err_and c.from_residual.result c.from_residual.ensures.1 in
    rw (p.1, p.2) (name_stops c.args.c.now.problem c.args.kind (rest c.args.c.now) c.in_err-name.field-0.0 c.in_err-name.ensures.gives)

pub returns-in_err-dims-clause-err : goal.returns-in_err-dims-clause-err
returns-in_err-dims-clause-err c =
    let p = err_from_is_err_and c.from_residual-in_err-dims.result c.from_residual-in_err-dims.ensures.1 in
    let e = c.in_err-dims.field-0.0 in
    let before : c.name.new.c.problem ≡ c.args.c.now.problem = ap (λ x. x.problem) c.in_ok-name.ensures.moves in
    rw (p.1, p.2)
    (dims_stop c.args.c.now.problem c.args.kind (rest c.args.c.now) c.in_ok-name.name.now (rest c.name.new.c) c.in_ok-name.ensures.gives e
    (subst (λ (q : Problem). Stops e (dims_at q (rest c.name.new.c))) before c.in_err-dims.ensures.gives))

pub returns-in_err-domain-clause-err : goal.returns-in_err-domain-clause-err
returns-in_err-domain-clause-err c =
    let p = err_from_is_err_and c.from_residual-in_err-domain.result c.from_residual-in_err-domain.ensures.1 in
    let before : c.name.new.c.problem ≡ c.args.c.now.problem = ap (λ x. x.problem) c.in_ok-name.ensures.moves in
    rw (p.1, p.2)
    (domain_stops c.args.c.now.problem c.args.kind (rest c.args.c.now) c.in_ok-name.name.now (rest c.name.new.c) c.in_ok-name.ensures.gives c.in_ok-dims.dims (rest c.dims.new.c)
    (subst (λ (q : Problem). dims_at q (rest c.name.new.c) ≡ Ok (c.in_ok-dims.dims, rest c.dims.new.c)) before c.in_ok-dims.ensures.gives)
    c.in_err-domain.field-0.0 c.in_err-domain.ensures.gives)

pub returns-clause-ok : goal.returns-clause-ok
unfolding rest
returns-clause-ok c =
    let before : c.name.new.c.problem ≡ c.args.c.now.problem = ap (λ x. x.problem) c.in_ok-name.ensures.moves in
    let now : c.domain.new.c.problem ≡ c.args.c.now.problem = ap (λ x. x.problem) c.in_ok-domain.ensures.moves ∙ ap (λ x. x.problem) c.in_ok-dims.ensures.moves ∙ before in
    declaration_reads c.args.c.now.problem c.args.kind (rest c.args.c.now) c.in_ok-name.name.now (rest c.name.new.c) c.in_ok-name.ensures.gives c.in_ok-dims.dims (rest c.dims.new.c)
    (subst (λ (q : Problem). dims_at q (rest c.name.new.c) ≡ Ok (c.in_ok-dims.dims, rest c.dims.new.c)) before c.in_ok-dims.ensures.gives)
    c.in_ok-domain.domain (rest c.domain.new.c) c.in_ok-domain.ensures.gives
    ∙ ap (λ (q : Problem). Ok (with_declaration q c.in_ok-name.name.now c.in_ok-dims.dims c.args.kind c.in_ok-domain.domain, rest c.domain.new.c)) (sym now)
    ∙ ap (λ t. Ok (with_declaration c.domain.new.c.problem t c.in_ok-dims.dims c.args.kind c.in_ok-domain.domain, rest c.domain.new.c)) (sym c.in_ok-text.ensures)
    ∙ ap (λ (x : Progress). Ok (x.problem, rest x)) (sym c.in_ok-declare.ensures.ok)
