use Rattle.std.proofs.Common.{rules, true, false}
use Rattle.mn_decls.proofs.TupleListSteps.{lacking_name}
use Rattle.mn_decls.proofs.tuplelists.lacking_kind.Goals as goal

pub returns-in-Name : goal.returns-in-Name
returns-in-Name c = λ arity cells. lacking_name c.args.inst.now c.args.name.now arity cells c.args.first c.in-Name.other.now true (search rules) (search rules)

pub returns-in-Name-2 : goal.returns-in-Name-2
returns-in-Name-2 c = λ arity cells. lacking_name c.args.inst.now c.args.name.now arity cells c.args.first c.in-Name.other.now false (search rules) (search rules)
