use Rattle.std.proofs.Common.{rules, ◌∷◌, sym, ap, ◌∙◌}
use Rattle.std.proofs.lemmas.Result.{err_from_is_err_and}
use Rattle.mn_cursor.specs.Progress.{rest}
use Rattle.mn_decls.specs.Aliases.{at_var}
use Rattle.mn_decls.proofs.AliasSteps.{bracket_result, bracket_unseen, bracket_misplaced}
use Rattle.mn_decls.proofs.brackets.bracket.Goals as goal

pub returns-then-is_mark-clause-err : goal.returns-then-is_mark-clause-err
returns-then-is_mark-clause-err c = bracket_result _ c.mark.result c.args.c.now.problem (rest c.args.c.now) (search rules) c.mark.ensures.gives

pub returns-in_err-name-clause-err : goal.returns-in_err-name-clause-err
returns-in_err-name-clause-err c =
    let p = err_from_is_err_and c.from_residual.result c.from_residual.ensures.1 in
    rw (p.1, p.2) (λ dim dims vars. bracket_unseen c.args.c.now.problem dim dims vars (rest c.args.c.now) c.in_err-name.field-0.0 (search rules) c.in_err-name.ensures.sees)

pub returns-clause-err : goal.returns-clause-err
returns-clause-err c = λ dim dims vars.
    let p = c.args.c.now.problem in
    bracket_misplaced p dim dims vars (rest c.args.c.now) c.refused.result c.in_ok-name.name.now c.misplaced.result c.in_ok-name.ensures.sees (ap (λ q. at_var q (dim ∷ dims) c.in_ok-name.name.now) (sym c.inst.ensures) ∙ c.misplaced.ensures dim dims) c.refused.ensures
