use Rattle.std.proofs.Common.{◌≡◌, false, length, replicate, Ok, ap, ◌∙◌, subst}
use Rattle.std.proofs.lemmas.List.{length-replicate}
use Rattle.std.proofs.lemmas.Result.{err_from_is_err_and}
use Rattle.mn_grammar.specs.Gives.{Stops}
use Rattle.mn_model.specs.Lawful.{IsLawful}
use Rattle.mn_cursor.specs.Progress.{Progress, rest, Moves}
use Rattle.mn_asking.specs.Searching.{var_order_at}
use Rattle.mn_asking.proofs.AskingSteps.{order_stops, order_said}
use Rattle.mn_asking.proofs.LawfulAsking.{order_lawful}
use Rattle.mn_asking.proofs.searching.order_item.Goals as goal

pub returns-in_err-vars-clause-err : goal.returns-in_err-vars-clause-err
returns-in_err-vars-clause-err c =
    let p = err_from_is_err_and c.from_residual.result c.from_residual.ensures.1 in
    let e = c.in_err-vars.field-0.0 in
    rw (p.1, p.2) (order_stops c.args.c.now e (subst (λ (s : Progress). Stops e (var_order_at s.problem (rest s))) c.new-scan.ensures c.in_err-vars.ensures.gives))

pub say_order-requires-clause-lawful : goal.say_order-requires-clause-lawful
say_order-requires-clause-lawful c =
    order_lawful c.args.c.now.problem (subst IsLawful c.inst.ensures c.lawful.ensures) (rest c.args.c.now) (rest c.var_order.new.scan) c.in_ok-vars.vars c.in_ok-down.down
    (ap length c.in_ok-down.ensures ∙ length-replicate c.len.result false ∙ c.len.ensures)
    (subst (λ (s : Progress). var_order_at s.problem (rest s) ≡ Ok (c.in_ok-vars.vars, rest c.var_order.new.scan)) c.new-scan.ensures c.in_ok-vars.ensures.gives)

pub returns-clause-ok : goal.returns-clause-ok
returns-clause-ok c =
    order_said c.args.c.now c.say_order.new.c c.var_order.new.scan c.left-left.result (subst (λ (s : Progress). Moves s c.var_order.new.scan) c.new-scan.ensures c.in_ok-vars.ensures.moves) c.left-left.ensures.number
    c.in_ok-vars.vars c.in_ok-down.down
    (subst (λ (s : Progress). var_order_at s.problem (rest s) ≡ Ok (c.in_ok-vars.vars, rest c.var_order.new.scan)) c.new-scan.ensures c.in_ok-vars.ensures.gives)
    (c.in_ok-down.ensures ∙ ap (λ n. replicate n false) c.len.ensures)
    c.say_order.ensures
