use Rattle.std.proofs.Common.{rules, refl}
use Rattle.std.proofs.lemmas.Result.{err_from_is_err_and}
use Rattle.mn_cursor.specs.Progress.{rest}
use Rattle.mn_decls.proofs.AliasSteps.{named_stops, names}
use Rattle.mn_decls.proofs.brackets.Brackets.name.Goals as goal

pub returns-in_err-named-clause-err : goal.returns-in_err-named-clause-err
returns-in_err-named-clause-err c =
    let p = err_from_is_err_and c.from_residual.result c.from_residual.ensures.1 in
    rw (p.1, p.2) (named_stops c.args.c.now.problem c.args.self.now (rest c.args.c.now) c.in_err-named.field-0.0 c.requires.depth c.in_err-named.ensures.err)

pub returns-clause-ok : goal.returns-clause-ok
returns-clause-ok c =
    names c.args.c.now.problem c.args.self.now (rest c.args.c.now) _ c.in_ok-named.named (rest c.variable.new.c) c.requires.depth c.in_ok-named.ensures.ok refl refl (search rules)
