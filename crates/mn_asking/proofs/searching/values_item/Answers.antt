use Rattle.std.proofs.Common.{rules, ◌≡◌, ◌≤◌, List, length, Ok, sym, ap, ◌∙◌, subst}
use Rattle.std.specs.List.{AllByRecursion}
use Rattle.std.proofs.lemmas.Result.{err_from_is_err_and}
use Rattle.mn_grammar.specs.Gives.{Stops}
use Rattle.mn_model.specs.Lawful.{IsLawful, IsKnown}
use Rattle.mn_model.specs.Problem.{domains_of}
use Rattle.mn_model.specs.declared.limits.TheConstants.{PLACES}
use Rattle.mn_model.specs.declared.variable.VarId.{VarId}
use Rattle.mn_cursor.specs.Progress.{Progress, rest, Moves}
use Rattle.mn_asking.specs.Searching.{val_order_at}
use Rattle.mn_asking.proofs.AskingSteps.{values_stop, values_said}
use Rattle.mn_asking.proofs.LawfulAsking.{are_directed}
use Rattle.mn_asking.proofs.searching.values_item.Goals as goal

pub returns-in_err-down-clause-err : goal.returns-in_err-down-clause-err
returns-in_err-down-clause-err c =
    let p = err_from_is_err_and c.from_residual.result c.from_residual.ensures.1 in
    let e = c.in_err-down.field-0.0 in
    let wanted : c.len-wanted.result ≡ length c.args.c.now.problem.order.vars = search rules in
    rw (p.1, p.2) (values_stop c.args.c.now e
    (subst (λ n. Stops e (val_order_at n (rest c.args.c.now))) wanted
    (subst (λ (s : Progress). Stops e (val_order_at c.len-wanted.result (rest s))) c.new-scan.ensures c.in_err-down.ensures.gives)))

pub say_values-requires-clause-lawful : goal.say_values-requires-clause-lawful
say_values-requires-clause-lawful c =
    let q = c.args.c.now.problem in
    let is : IsLawful q = subst IsLawful c.inst.ensures c.lawful.ensures in
    let wanted : c.len-wanted.result ≡ length q.order.vars = search rules in
    let copied : c.in_ok-vars.vars ≡ q.order.vars = search rules in
    record {
      known = subst (AllByRecursion (IsKnown (domains_of q.decls))) (sym copied) is.order.known;
      few = subst (λ (l : List VarId). length l ≤ PLACES) (sym copied) is.order.few;
      directed = are_directed q c.len-wanted.result (rest c.args.c.now) (rest c.val_order.new.scan) c.in_ok-down.down
          (subst (λ (s : Progress). val_order_at c.len-wanted.result (rest s) ≡ Ok (c.in_ok-down.down, rest c.val_order.new.scan)) c.new-scan.ensures c.in_ok-down.ensures.gives)
          ∙ wanted ∙ ap length (sym copied);
    }

pub returns-clause-ok : goal.returns-clause-ok
returns-clause-ok c =
    let q = c.args.c.now.problem in
    let wanted : c.len-wanted.result ≡ length q.order.vars = search rules in
    let copied : c.in_ok-vars.vars ≡ q.order.vars = search rules in
    values_said c.args.c.now c.say_values.new.c c.val_order.new.scan c.left-left.result (subst (λ (s : Progress). Moves s c.val_order.new.scan) c.new-scan.ensures c.in_ok-down.ensures.moves) c.left-left.ensures.number
    c.in_ok-vars.vars c.in_ok-down.down
    (subst (λ n. val_order_at n (rest c.args.c.now) ≡ Ok (c.in_ok-down.down, rest c.val_order.new.scan)) wanted
    (subst (λ (s : Progress). val_order_at c.len-wanted.result (rest s) ≡ Ok (c.in_ok-down.down, rest c.val_order.new.scan)) c.new-scan.ensures c.in_ok-down.ensures.gives))
    copied
    c.say_values.ensures
