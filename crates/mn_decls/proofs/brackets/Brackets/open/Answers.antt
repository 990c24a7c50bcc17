use Rattle.std.proofs.Common.{rules, refl}
use Rattle.std.proofs.lemmas.Result.{err_from_is_err_and}
use Rattle.mn_lexer.specs.declared.marks.Mark.TheVariants.{OpenSquare}
use Rattle.std.specs.Prelude.{None}
use Rattle.mn_cursor.specs.Progress.{rest}
use Rattle.mn_decls.proofs.AliasSteps.{open_stops, opens, mark_leaves}
use Rattle.mn_decls.proofs.brackets.Brackets.open.Goals as goal

pub returns-in_err-bracket-clause-err : goal.returns-in_err-bracket-clause-err
returns-in_err-bracket-clause-err c =
    let p = err_from_is_err_and c.from_residual.result c.from_residual.ensures.1 in
    rw (p.1, p.2) (open_stops c.args.c.now.problem c.args.self.now (rest c.args.c.now) c.in_err-bracket.field-0.0 c.requires.depth c.in_err-bracket.ensures.err)

pub returns-clause-ok : goal.returns-clause-ok
returns-clause-ok c =
    opens c.args.c.now.problem c.args.self.now (rest c.args.c.now) _ c.len.result (rest c.bracket.new.c) (search rules) c.requires.depth c.in_ok-bracket.ensures.ok refl c.in_ok-push.ensures.items refl

pub returns-clause-less : goal.returns-clause-less
returns-clause-less c = mark_leaves OpenSquare None (rest c.args.c.now) (rest c.bracket.new.c) c.in_ok-bracket.ensures.ok
