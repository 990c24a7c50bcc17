use Rattle.std.proofs.Common.{rules}
use Rattle.mn_cursor.specs.Progress.{rest}
use Rattle.mn_decls.proofs.AliasSteps.{begins}
use Rattle.mn_decls.proofs.aliases.nest.Goals as goal

pub loop-brackets-init : goal.loop-brackets-init
loop-brackets-init c = (
  begins c.args.c.now.problem c.args.dims.now c.new-brackets.result (rest c.args.c.now) c.new-brackets.ensures.dims c.new-brackets.ensures.wanted c.new-brackets.ensures.vars,
  search rules,
  record { same = c.new-brackets.ensures.dims; few = search rules },
)
