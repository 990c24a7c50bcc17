use Rattle.std.proofs.Common.{rules, ◌≡◌, Ok, sym, ap, ◌∙◌, subst}
use Rattle.std.proofs.lemmas.Result.{err_from_is_err_and}
use Rattle.std.specs.Prelude.{IfErr, IfOk}
use Rattle.mn_grammar.specs.Gives.{Stops}
use Rattle.mn_model.specs.Problem.{Problem}
use Rattle.mn_cursor.specs.Progress.{rest}
use Rattle.mn_cursor.proofs.Turning.{stops_same}
use Rattle.mn_decls.specs.Variables.{alias_at, matrix_at, var_at, so_far}
use Rattle.mn_decls.proofs.AliasSteps.{alias_name_stops, alias_one, alias_open_stops, alias_matrix}
use Rattle.mn_decls.proofs.aliases.alias.Goals as goal

pub returns-in_err-name-clause-err : goal.returns-in_err-name-clause-err
returns-in_err-name-clause-err c =
    let p = err_from_is_err_and c.from_residual.result c.from_residual.ensures.1 in
    rw (p.1, p.2) (alias_name_stops c.args.c.now.problem (rest c.args.c.now) c.in_err-name.field-0.0 c.in_err-name.ensures.gives)

pub returns-then-not-is_mark-clause-ok : goal.returns-then-not-is_mark-clause-ok
returns-then-not-is_mark-clause-ok c =
    let before : c.name.new.c.problem ≡ c.args.c.now.problem = ap (λ x. x.problem) c.in_ok-name.ensures.moves in
    let same : var_at c.name.new.c.problem c.in_ok-name.name.now (rest c.name.new.c) ≡ alias_at c.args.c.now.problem (rest c.args.c.now) =
    ap (λ (q : Problem). var_at q c.in_ok-name.name.now (rest c.name.new.c)) before
    ∙ sym (alias_one c.args.c.now.problem (rest c.args.c.now) c.in_ok-name.name.now (rest c.name.new.c) c.in_ok-name.ensures.gives (search rules)) in
    subst (λ r. IfOk c.one.result (λ behind. r ≡ Ok (record { problem = c.one.new.c.problem; behind = behind }, rest c.one.new.c))) same c.one.ensures.ok

pub returns-then-not-is_mark-clause-err : goal.returns-then-not-is_mark-clause-err
returns-then-not-is_mark-clause-err c =
    let before : c.name.new.c.problem ≡ c.args.c.now.problem = ap (λ x. x.problem) c.in_ok-name.ensures.moves in
    let same : var_at c.name.new.c.problem c.in_ok-name.name.now (rest c.name.new.c) ≡ alias_at c.args.c.now.problem (rest c.args.c.now) =
    ap (λ (q : Problem). var_at q c.in_ok-name.name.now (rest c.name.new.c)) before
    ∙ sym (alias_one c.args.c.now.problem (rest c.args.c.now) c.in_ok-name.name.now (rest c.name.new.c) c.in_ok-name.ensures.gives (search rules)) in
    subst (λ r. IfErr c.one.result (λ e. Stops e r)) same c.one.ensures.err

pub returns-in_err-mark-clause-err : goal.returns-in_err-mark-clause-err
returns-in_err-mark-clause-err c =
    let p = err_from_is_err_and c.from_residual-in_err-mark.result c.from_residual-in_err-mark.ensures.1 in
    rw (p.1, p.2)
    (alias_open_stops c.args.c.now.problem (rest c.args.c.now) c.in_ok-name.name.now (rest c.name.new.c) c.in_ok-name.ensures.gives (search rules) c.in_err-mark.field-0.0 c.in_err-mark.ensures.gives)

pub returns-in_err-matrix-clause-err : goal.returns-in_err-matrix-clause-err
returns-in_err-matrix-clause-err c =
    let p = err_from_is_err_and c.from_residual-in_err-matrix.result c.from_residual-in_err-matrix.ensures.1 in
    let e = c.in_err-matrix.field-0.0 in
    let before : c.mark.new.self.problem ≡ c.args.c.now.problem = ap (λ x. x.problem) c.in_ok-mark.ensures.moves ∙ ap (λ x. x.problem) c.in_ok-name.ensures.moves in
    rw (p.1, p.2)
    (stops_same e _ _ (alias_matrix c.args.c.now.problem (rest c.args.c.now) c.in_ok-name.name.now (rest c.name.new.c) c.in_ok-name.ensures.gives (search rules) (rest c.mark.new.self) c.in_ok-mark.ensures.gives)
    (subst (λ (q : Problem). Stops e (matrix_at q c.in_ok-name.name.now (rest c.mark.new.self))) before c.in_err-matrix.ensures.err))

pub returns-clause-ok : goal.returns-clause-ok
returns-clause-ok c =
    let before : c.mark.new.self.problem ≡ c.args.c.now.problem = ap (λ x. x.problem) c.in_ok-mark.ensures.moves ∙ ap (λ x. x.problem) c.in_ok-name.ensures.moves in
    alias_matrix c.args.c.now.problem (rest c.args.c.now) c.in_ok-name.name.now (rest c.name.new.c) c.in_ok-name.ensures.gives (search rules) (rest c.mark.new.self) c.in_ok-mark.ensures.gives
    ∙ subst (λ (q : Problem). matrix_at q c.in_ok-name.name.now (rest c.mark.new.self) ≡ Ok (so_far c.matrix.new.c.problem, rest c.matrix.new.c)) before c.in_ok-matrix.ensures.ok
