use Rattle.std.proofs.Common.{◌≡◌, true, Some, subst}
use Rattle.mn_model.specs.Problem.{Problem}
use Rattle.mn_cursor.specs.Added.{with_tuples}
use Rattle.mn_cursor.specs.Looks.{first_value}
use Rattle.mn_cursor.specs.Progress.{rest}
use Rattle.mn_decls.specs.TupleLists.{judge_first}
use Rattle.mn_decls.proofs.TupleListSteps.{lacking_at, lacking_unseen}
use Rattle.mn_decls.proofs.tuplelists.lacking.Goals as goal

pub returns-in-Err : goal.returns-in-Err
returns-in-Err c = λ arity cells. lacking_unseen _ (rest c.args.c.now) c.in-Err.stop c.in-Err.ensures.sees

pub returns-in-Ok : goal.returns-in-Ok
returns-in-Ok c = λ arity cells.
    lacking_at (record { problem = with_tuples c.args.c.now.problem c.args.name.now arity cells; lacks = true }) (rest c.args.c.now) (first_value c.in-Ok.first) c.lacking_kind.result c.refused.result c.in-Ok.ensures.sees
    (subst (λ (q : Problem). judge_first (record { problem = with_tuples q c.args.name.now arity cells; lacks = true }) (first_value c.in-Ok.first) ≡ Some c.lacking_kind.result) c.inst.ensures (c.lacking_kind.ensures arity cells)) c.refused.ensures
