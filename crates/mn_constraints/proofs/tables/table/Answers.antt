use Rattle.std.proofs.Common.{◌≡◌, Some, ap, ◌∙◌, inl}
use Rattle.std.proofs.lemmas.Result.{err_from_is_err_and}
use Rattle.mn_model.specs.Problem.{Problem, listed_as}
use Rattle.mn_cursor.specs.Progress.{rest}
use Rattle.mn_language.specs.Arguments.{at_list, list_place}
use Rattle.mn_constraints.specs.Tabling.{start_seen}
use Rattle.mn_constraints.specs.declared.tables.Start.{Start}
use Rattle.mn_constraints.proofs.TupleSteps.{table_unseen, start_stops, named_reads, here_stops, here_reads, if_none}
use Rattle.mn_constraints.proofs.tables.table.Goals as goal

pub returns-in_err-name-clause-gives : goal.returns-in_err-name-clause-gives
returns-in_err-name-clause-gives c =
    let p = err_from_is_err_and c.from_residual.result c.from_residual.ensures.1 in
    rw (p.1, p.2) (table_unseen c.args.scan.now.problem c.args.used c.args.arity (rest c.args.scan.now) c.in_err-name.field-0.0 c.in_err-name.ensures.sees)

pub returns-in_err-accept-in-Name-clause-gives : goal.returns-in_err-accept-in-Name-clause-gives
returns-in_err-accept-in-Name-clause-gives c =
    let p = err_from_is_err_and c.from_residual-in_err-accept-in-Name.result c.from_residual-in_err-accept-in-Name.ensures.1 in
    let q = c.args.scan.now.problem in
    let name = c.in-Name.name.now in
    let kind : c.named-kind.result.0 ≡ at_list c.args.arity (listed_as q.tuples name) =
    c.named-kind.ensures.kind ∙ ap (λ (x : Problem). at_list c.args.arity (listed_as x.tuples name)) c.inst.ensures in
    let is = c.in_ok-name.ensures.sees ∙ ap (λ (s : Start). Some (start_seen s)) c.in-Name.is in
    rw (p.1, p.2)
    (start_stops q c.args.used c.args.arity (rest c.args.scan.now) (inl name) is c.named-kind.result.0 kind c.in_err-accept-in-Name.field-0.0 c.in_err-accept-in-Name.ensures.gives)

pub returns-in_err-cells-in-Open-clause-gives : goal.returns-in_err-cells-in-Open-clause-gives
returns-in_err-cells-in-Open-clause-gives c =
    let p = err_from_is_err_and c.from_residual-in_err-cells-in-Open.result c.from_residual-in_err-cells-in-Open.ensures.1 in
    let is = c.in_ok-name.ensures.sees ∙ ap (λ (s : Start). Some (start_seen s)) c.in-Open.is in
    rw (p.1, p.2)
    (here_stops c.args.scan.now.problem c.args.used c.args.arity (rest c.args.scan.now) (rest c.accept-in-Open.new.self) is c.in_ok-accept-in-Open.ensures.gives
    c.in_err-cells-in-Open.field-0.0 c.in_err-cells-in-Open.ensures.gives)

pub returns-in-Ok-clause-gives : goal.returns-in-Ok-clause-gives
returns-in-Ok-clause-gives c =
    let q = c.args.scan.now.problem in
    let name = c.in-Name.name.now in
    let kind : c.named-kind.result.0 ≡ at_list c.args.arity (listed_as q.tuples name) =
    c.named-kind.ensures.kind ∙ ap (λ (x : Problem). at_list c.args.arity (listed_as x.tuples name)) c.inst.ensures in
    let is = c.in_ok-name.ensures.sees ∙ ap (λ (s : Start). Some (start_seen s)) c.in-Name.is in
    named_reads q c.args.used c.args.arity (rest c.args.scan.now) name c.in-Ok.place c.named-kind.result.0 (rest c.accept.new.self) is kind
    (λ none. c.in-Ok.ensures.1 ∙ if_none c.named-kind.result.0 c.named-kind.ensures.place none ∙ ap (λ (x : Problem). list_place x.tuples name) c.inst.ensures)
    c.in_ok-accept-in-Name.ensures.gives

pub returns-in_ok-cells-in-Open-clause-gives : goal.returns-in_ok-cells-in-Open-clause-gives
returns-in_ok-cells-in-Open-clause-gives c =
    let is = c.in_ok-name.ensures.sees ∙ ap (λ (s : Start). Some (start_seen s)) c.in-Open.is in
    here_reads c.args.scan.now.problem c.args.used c.args.arity (rest c.args.scan.now) (rest c.accept-in-Open.new.self) is c.in_ok-accept-in-Open.ensures.gives
    c.in_ok-cells-in-Open.cells (rest c.tuples.new.scan) c.in_ok-cells-in-Open.ensures.gives
