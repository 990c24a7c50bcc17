use Rattle.std.proofs.Common.{Ok, ap, ◌∙◌, subst, arith}
use Rattle.std.proofs.lemmas.Result.{err_from_is_err_and}
use Rattle.mn_model.specs.Lawful.{IsKnown}
use Rattle.mn_model.specs.Problem.{domains_of}
use Rattle.mn_model.specs.declared.variable.VarId.{VarId}
use Rattle.mn_cursor.specs.Progress.{rest}
use Rattle.mn_references.specs.Lookups.{found_seen}
use Rattle.mn_asking.proofs.AskingSteps.{goal_at_stops, goal_at_reads, first_is}
use Rattle.mn_asking.proofs.LawfulAsking.{goal_lawful}
use Rattle.mn_asking.proofs.searching.goal_reference.Goals as goal

pub returns-in_err-reference-clause-gives : goal.returns-in_err-reference-clause-gives
returns-in_err-reference-clause-gives c =
    let p = err_from_is_err_and c.from_residual.result c.from_residual.ensures.1 in
    rw (p.1, p.2) (goal_at_stops c.args.scan.now.problem (rest c.args.scan.now) c.in_err-reference.field-0.0 c.in_err-reference.ensures.gives)

pub get-requires : goal.get-requires
get-requires c =
    let some = (goal_lawful c.args.scan.now.problem c.requires (rest c.args.scan.now) (rest c.reference_at.new.scan) (found_seen c.in_ok-reference.reference) c.in_ok-reference.ensures.gives).some in
    omega (arith, some)

pub returns-clause-gives : goal.returns-clause-gives
returns-clause-gives c =
    goal_at_reads c.args.scan.now.problem (rest c.args.scan.now) (rest c.reference_at.new.scan) (found_seen c.in_ok-reference.reference) c.in_ok-reference.ensures.gives
    ∙ ap (λ (v : VarId). Ok ((v, c.in_ok-reference.reference.behind), rest c.reference_at.new.scan)) (first_is c.in_ok-reference.reference.vars c.get.result.now c.get.ensures)

pub returns-clause-known : goal.returns-clause-known
returns-clause-known c =
    subst (IsKnown (domains_of c.args.scan.now.problem.decls)) (first_is c.in_ok-reference.reference.vars c.get.result.now c.get.ensures)
    (goal_lawful c.args.scan.now.problem c.requires (rest c.args.scan.now) (rest c.reference_at.new.scan) (found_seen c.in_ok-reference.reference) c.in_ok-reference.ensures.gives).known
