use Rattle.std.proofs.Common.{◌≡◌, List, [], ℕ, Ok, sym, ap, ◌∙◌, subst}
use Rattle.std.proofs.lemmas.Result.{err_from_is_err_and}
use Rattle.mn_grammar.specs.Gives.{Stops}
use Rattle.mn_model.specs.Lawful.{IsLawful, IsLawfulAlias}
use Rattle.mn_model.specs.Problem.{Problem, domains_of}
use Rattle.mn_model.specs.declared.declaration.Alias.{Alias}
use Rattle.mn_cursor.specs.Added.{with_alias}
use Rattle.mn_cursor.specs.Progress.{Progress, rest}
use Rattle.mn_decls.specs.Aliases.{nest_at}
use Rattle.mn_decls.specs.Brackets.{IsLed}
use Rattle.mn_decls.specs.Variables.{so_far}
use Rattle.mn_decls.proofs.AliasSteps.{matrix_dims_stop, matrix_equals_stops, matrix_nest_stops, matrix_reads}
use Rattle.mn_decls.proofs.LawfulAliases.{matrix_lawful}
use Rattle.mn_decls.proofs.aliases.matrix.Goals as goal

pub returns-in_err-dims-clause-err : goal.returns-in_err-dims-clause-err
returns-in_err-dims-clause-err c =
    let p = err_from_is_err_and c.from_residual.result c.from_residual.ensures.1 in
    rw (p.1, p.2) (matrix_dims_stop c.args.c.now.problem c.args.name.now (rest c.args.c.now) c.in_err-dims.field-0.0 c.in_err-dims.ensures.gives)

pub returns-in_err-mark-clause-err : goal.returns-in_err-mark-clause-err
returns-in_err-mark-clause-err c =
    let p = err_from_is_err_and c.from_residual-in_err-mark.result c.from_residual-in_err-mark.ensures.1 in
    rw (p.1, p.2)
    (matrix_equals_stops c.args.c.now.problem c.args.name.now (rest c.args.c.now) c.in_ok-dims.dims (rest c.alias_dims.new.c) c.in_ok-dims.ensures.gives c.in_err-mark.field-0.0 c.in_err-mark.ensures.gives)

pub returns-in_err-vars-clause-err : goal.returns-in_err-vars-clause-err
returns-in_err-vars-clause-err c =
    let p = err_from_is_err_and c.from_residual-in_err-vars.result c.from_residual-in_err-vars.ensures.1 in
    let e = c.in_err-vars.field-0.0 in
    let before : c.mark.new.self.problem ≡ c.args.c.now.problem = ap (λ x. x.problem) c.in_ok-mark.ensures.moves ∙ ap (λ x. x.problem) c.in_ok-dims.ensures.moves in
    rw (p.1, p.2)
    (matrix_nest_stops c.args.c.now.problem c.args.name.now (rest c.args.c.now) c.in_ok-dims.dims (rest c.alias_dims.new.c) c.in_ok-dims.ensures.gives (rest c.mark.new.self) c.in_ok-mark.ensures.gives e
    (subst (λ (l : List ℕ). Stops e (nest_at c.args.c.now.problem l [] (rest c.mark.new.self))) c.as_slice.ensures
    (subst (λ (q : Problem). Stops e (nest_at q c.as_slice.result.now [] (rest c.mark.new.self))) before c.in_err-vars.ensures.err)))

pub alias-requires-clause-lawful : goal.alias-requires-clause-lawful
alias-requires-clause-lawful c =
    let before : c.mark.new.self.problem ≡ c.args.c.now.problem = ap (λ x. x.problem) c.in_ok-mark.ensures.moves ∙ ap (λ x. x.problem) c.in_ok-dims.ensures.moves in
    let now : c.nest.new.c.problem ≡ c.args.c.now.problem = ap (λ x. x.problem) c.in_ok-vars.ensures.moves ∙ before in
    let is = subst (λ (l : List ℕ). IsLed c.in_ok-vars.vars (rest c.nest.new.c) (nest_at c.args.c.now.problem l [] (rest c.mark.new.self))) c.as_slice.ensures
    (subst (λ (q : Problem). IsLed c.in_ok-vars.vars (rest c.nest.new.c) (nest_at q c.as_slice.result.now [] (rest c.mark.new.self))) before c.in_ok-vars.ensures.ok) in
    let lawful : IsLawful c.args.c.now.problem = subst IsLawful c.inst.ensures c.lawful.ensures in
    let of_alias = matrix_lawful c.args.c.now.problem lawful c.args.name.now c.in_ok-dims.dims (rest c.mark.new.self) (rest c.nest.new.c) (record { vars = c.in_ok-vars.vars; behind = is.0 })
    c.requires.named c.in_ok-dims.ensures.shaped c.in_ok-dims.ensures.some is.1 in
    let same : ◌≡◌ {A = Alias} (record { name = c.args.name.now; dims = c.in_ok-dims.dims; vars = c.in_ok-vars.vars }) (record { name = c.in_ok-text.text; dims = c.in_ok-dims.dims; vars = c.in_ok-vars.vars }) =
    λ i. record { name = sym c.in_ok-text.ensures i; dims = c.in_ok-dims.dims; vars = c.in_ok-vars.vars } in
    subst (λ (q : Problem). IsLawfulAlias (domains_of q.decls) (record { name = c.in_ok-text.text; dims = c.in_ok-dims.dims; vars = c.in_ok-vars.vars })) (sym now)
    (subst (λ (a : Alias). IsLawfulAlias (domains_of c.args.c.now.problem.decls) a) same of_alias)

pub returns-clause-ok : goal.returns-clause-ok
unfolding rest
returns-clause-ok c =
    let before : c.mark.new.self.problem ≡ c.args.c.now.problem = ap (λ x. x.problem) c.in_ok-mark.ensures.moves ∙ ap (λ x. x.problem) c.in_ok-dims.ensures.moves in
    let now : c.nest.new.c.problem ≡ c.args.c.now.problem = ap (λ x. x.problem) c.in_ok-vars.ensures.moves ∙ before in
    let is = subst (λ (l : List ℕ). IsLed c.in_ok-vars.vars (rest c.nest.new.c) (nest_at c.args.c.now.problem l [] (rest c.mark.new.self))) c.as_slice.ensures
    (subst (λ (q : Problem). IsLed c.in_ok-vars.vars (rest c.nest.new.c) (nest_at q c.as_slice.result.now [] (rest c.mark.new.self))) before c.in_ok-vars.ensures.ok) in
    matrix_reads c.args.c.now.problem c.args.name.now (rest c.args.c.now) c.in_ok-dims.dims (rest c.alias_dims.new.c) c.in_ok-dims.ensures.gives (rest c.mark.new.self) c.in_ok-mark.ensures.gives
    (record { vars = c.in_ok-vars.vars; behind = is.0 }) (rest c.nest.new.c) is.1
    ∙ (λ i. Ok (so_far (with_alias (sym now i) (sym c.in_ok-text.ensures i) c.in_ok-dims.dims c.in_ok-vars.vars), rest c.nest.new.c))
    ∙ ap (λ (x : Progress). Ok (so_far x.problem, rest x)) (sym c.in_ok-alias.ensures.ok)
