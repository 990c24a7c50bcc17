use Rattle.std.proofs.Common.{rules, ◌≡◌, Ok, sym, ap, subst, ◌∙◌}
use Rattle.std.proofs.lemmas.Result.{err_from_is_err_and}
use Rattle.mn_grammar.specs.Gives.{Stops}
use Rattle.mn_grammar.specs.Reading.{go_on}
use Rattle.mn_model.specs.Problem.{Problem}
use Rattle.mn_cursor.specs.Progress.{rest}
use Rattle.mn_decls.specs.TupleLists.{list_at, lists_at, whole}
use Rattle.mn_cursor.proofs.Turning.{stops_same}
use Rattle.mn_decls.proofs.TupleListSteps.{unseen_list, name_stops, list_stops, list_goes_on, lists_end}
use Rattle.mn_decls.proofs.tuplelists.lists.Goals as goal

pub returns-in_err-name-clause-err : goal.returns-in_err-name-clause-err
returns-in_err-name-clause-err c =
    let p = err_from_is_err_and c.from_residual.result c.from_residual.ensures.1 in
    rw (p.1, p.2)
    (stops_same c.in_err-name.field-0.0 _ _ (sym c.loop-name.invariant.0)
    (unseen_list c.loop-name.c.problem (rest c.loop-name.c) c.in_err-name.field-0.0 c.in_err-name.ensures.sees))

pub returns-in_default-clause-ok : goal.returns-in_default-clause-ok
returns-in_default-clause-ok c =
    let ends = lists_end c.loop-name.c.problem (rest c.loop-name.c) c.in_default.field-0 (search rules) in
    (ends.0, ends.1, sym c.loop-name.invariant.0 ∙ ends.2)

pub returns-in_err-accept-clause-err : goal.returns-in_err-accept-clause-err
returns-in_err-accept-clause-err c =
    let p = err_from_is_err_and c.from_residual-in_err-accept.result c.from_residual-in_err-accept.ensures.1 in
    rw (p.1, p.2)
    (stops_same c.in_err-accept.field-0.0 _ _ (sym c.loop-name.invariant.0)
    (name_stops c.loop-name.c.problem (rest c.loop-name.c) c.in-Name.name.now c.in_err-accept.field-0.0 (search rules) (search rules)))

pub loop-name-smaller : goal.loop-name-smaller
loop-name-smaller c =
    let before : c.accept.new.self.problem ≡ c.loop-name.c.problem = ap (λ x. x.problem) c.in_ok-accept.ensures.moves in
    (list_goes_on c.loop-name.c.problem (rest c.loop-name.c) c.in-Name.name.now (rest c.accept.new.self) c.list.new.c.problem (rest c.list.new.c) (search rules) (search rules)
    (subst (λ (q : Problem). list_at (whole q) c.in-Name.name.now (rest c.accept.new.self) ≡ Ok (whole c.list.new.c.problem, rest c.list.new.c)) before c.in_ok-list.ensures.ok)).1

pub loop-name-preserved : goal.loop-name-preserved
loop-name-preserved c =
    let before : c.accept.new.self.problem ≡ c.loop-name.c.problem = ap (λ x. x.problem) c.in_ok-accept.ensures.moves in
    let on = list_goes_on c.loop-name.c.problem (rest c.loop-name.c) c.in-Name.name.now (rest c.accept.new.self) c.list.new.c.problem (rest c.list.new.c) (search rules) (search rules)
    (subst (λ (q : Problem). list_at (whole q) c.in-Name.name.now (rest c.accept.new.self) ≡ Ok (whole c.list.new.c.problem, rest c.list.new.c)) before c.in_ok-list.ensures.ok) in
    (on.0 ∙ c.loop-name.invariant.0, search rules)

pub returns-in_err-list-clause-err : goal.returns-in_err-list-clause-err
returns-in_err-list-clause-err c =
    let p = err_from_is_err_and c.from_residual-in_err-list.result c.from_residual-in_err-list.ensures.1 in
    let e = c.in_err-list.field-0.0 in
    let before : c.accept.new.self.problem ≡ c.loop-name.c.problem = ap (λ x. x.problem) c.in_ok-accept.ensures.moves in
    rw (p.1, p.2)
    (stops_same e _ _ (sym c.loop-name.invariant.0)
    (list_stops c.loop-name.c.problem (rest c.loop-name.c) c.in-Name.name.now (rest c.accept.new.self) e (search rules) (search rules)
    (subst (λ (q : Problem). Stops e (go_on (list_at (whole q) c.in-Name.name.now (rest c.accept.new.self)) lists_at)) before c.in_err-list.ensures.err)))
