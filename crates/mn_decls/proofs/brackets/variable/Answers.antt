use Rattle.std.proofs.Common.{rules}
use Rattle.mn_cursor.specs.Progress.{rest}
use Rattle.mn_decls.proofs.AliasSteps.{variable_stops, variable_reads, variable_fails, variable_leaves}
use Rattle.mn_decls.proofs.brackets.variable.Goals as goal

pub returns-then-is_mark-clause-err : goal.returns-then-is_mark-clause-err
returns-then-is_mark-clause-err c = λ vars. variable_stops c.args.c.now.problem vars (rest c.args.c.now) c.refused.result (search rules) c.refused.ensures

pub returns-clause-ok : goal.returns-clause-ok
returns-clause-ok c = variable_reads c.args.c.now.problem (rest c.args.c.now) (rest c.one_name.new.c) c.one_name.result (search rules) c.one_name.ensures.ok

pub returns-clause-err : goal.returns-clause-err
returns-clause-err c = variable_fails c.args.c.now.problem (rest c.args.c.now) (rest c.one_name.new.c) c.one_name.result (search rules) c.one_name.ensures.err

pub returns-clause-less : goal.returns-clause-less
returns-clause-less c = variable_leaves c.args.c.now.problem (rest c.args.c.now) (rest c.one_name.new.c) c.one_name.result c.one_name.ensures.ok
