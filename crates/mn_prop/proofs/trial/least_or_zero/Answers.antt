use Rattle.std.proofs.Common.{ap, length, arith}
use Rattle.mn_domains.specs.Sets.{Sets}
use Rattle.mn_prop.specs.Contexts.{box_of, vars_of}
use Rattle.mn_prop.proofs.Tried.{none_first}
use Rattle.mn_prop.proofs.trial.least_or_zero.Goals as goal

pub returns-else-number-vars : goal.returns-else-number-vars
returns-else-number-vars c = none_first (vars_of c.args.c.now) (box_of c.args.c.now) _ c.lawful.ensures.boxes.now (let long = ap (λ (d : Sets). length d.vars) c.doms.ensures in omega (arith, c.if-number-vars.false, c.vars.ensures, c.number.ensures, long))
