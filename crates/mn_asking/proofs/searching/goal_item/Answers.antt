use Rattle.std.proofs.Common.{◌≡◌, Ok, subst}
use Rattle.std.proofs.lemmas.Result.{err_from_is_err_and}
use Rattle.mn_grammar.specs.Gives.{Stops}
use Rattle.mn_cursor.specs.Progress.{Progress, rest, Moves}
use Rattle.mn_asking.specs.Asking.{goal_at}
use Rattle.mn_asking.proofs.AskingSteps.{goal_stops, goal_reads}
use Rattle.mn_asking.proofs.searching.goal_item.Goals as goal

pub returns-in_err-var-clause-err : goal.returns-in_err-var-clause-err
returns-in_err-var-clause-err c =
    let p = err_from_is_err_and c.from_residual.result c.from_residual.ensures.1 in
    let e = c.in_err-var.field-0.0 in
    rw (p.1, p.2) (goal_stops c.args.c.now e c.args.maximise (subst (λ (s : Progress). Stops e (goal_at s.problem (rest s))) c.new-scan.ensures c.in_err-var.ensures.gives))

pub returns-clause-ok : goal.returns-clause-ok
returns-clause-ok c =
    goal_reads c.args.c.now c.say_goal.new.c c.goal_reference.new.scan c.left-left.result (subst (λ (s : Progress). Moves s c.goal_reference.new.scan) c.new-scan.ensures c.in_ok-var.ensures.moves) c.left-left.ensures.number
    c.args.maximise c.in_ok-var.var c.in_ok-var.behind
    (subst (λ (s : Progress). goal_at s.problem (rest s) ≡ Ok ((c.in_ok-var.var, c.in_ok-var.behind), rest c.goal_reference.new.scan)) c.new-scan.ensures c.in_ok-var.ensures.gives)
    c.say_goal.ensures
