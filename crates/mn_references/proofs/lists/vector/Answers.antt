use Rattle.std.proofs.Common.{rules, ◌≡◌, Ok, sym, ap, ◌∙◌, subst}
use Rattle.std.proofs.lemmas.Result.{err_from_is_err_and}
use Rattle.mn_grammar.specs.Gives.{Stops}
use Rattle.mn_grammar.specs.Reading.{go_on, ret}
use Rattle.mn_model.specs.Problem.{Problem}
use Rattle.mn_cursor.specs.Progress.{Progress, rest}
use Rattle.mn_cursor.proofs.Turning.{stops_first, stops_second, stops_same}
use Rattle.mn_references.specs.Entries.{placed, within_brackets}
use Rattle.mn_references.specs.Referring.{list_at}
use Rattle.mn_references.proofs.ListTurns.{vector_listed, vector_named}
use Rattle.mn_references.proofs.lists.vector.Goals as goal

pub returns-in_err-mark-clause-gives : goal.returns-in_err-mark-clause-gives
returns-in_err-mark-clause-gives c =
    let p = err_from_is_err_and c.from_residual.result c.from_residual.ensures.1 in
    let e = c.in_err-mark.field-0.0 in
    let q = c.args.scan.now.problem in
    let b = c.args.bounds in
    rw (p.1, p.2) (stops_same e _ _ (vector_listed q b (rest c.args.scan.now) (search rules))
    (stops_first e _ (λ terms. ret (within_brackets terms)) (stops_first e _ (λ u. list_at q b) c.in_err-mark.ensures.gives)))

pub returns-in_err-terms-clause-gives : goal.returns-in_err-terms-clause-gives
returns-in_err-terms-clause-gives c =
    let p = err_from_is_err_and c.from_residual-in_err-terms.result c.from_residual-in_err-terms.ensures.1 in
    let e = c.in_err-terms.field-0.0 in
    let q = c.args.scan.now.problem in
    let b = c.args.bounds in
    let us = rest c.mark.new.self in
    let problem : c.mark.new.self.problem ≡ q = ap (λ (s : Progress). s.problem) c.in_ok-mark.ensures.moves in
    rw (p.1, p.2) (stops_same e _ _ (vector_listed q b (rest c.args.scan.now) (search rules))
    (stops_first e _ (λ terms. ret (within_brackets terms)) (stops_second e _ (λ u. list_at q b) (tt {0}) us c.in_ok-mark.ensures.gives
    (subst (λ (r : Problem). Stops e (list_at r b us)) problem c.in_err-terms.ensures.gives))))

pub returns-then-is_mark-clause-gives : goal.returns-then-is_mark-clause-gives
returns-then-is_mark-clause-gives c =
    let q = c.args.scan.now.problem in
    let b = c.args.bounds in
    let us = rest c.mark.new.self in
    let problem : c.mark.new.self.problem ≡ q = ap (λ (s : Progress). s.problem) c.in_ok-mark.ensures.moves in
    vector_listed q b (rest c.args.scan.now) (search rules)
    ∙ ap (λ r. go_on (go_on r (λ u. list_at q b)) (λ terms. ret (within_brackets terms))) c.in_ok-mark.ensures.gives
    ∙ ap (λ r. go_on r (λ terms. ret (within_brackets terms))) (subst (λ (r : Problem). list_at r b us ≡ Ok (c.in_ok-terms.terms, rest c.list.new.scan)) problem c.in_ok-terms.ensures.gives)

pub returns-in_err-reference-clause-gives : goal.returns-in_err-reference-clause-gives
returns-in_err-reference-clause-gives c =
    let p = err_from_is_err_and c.from_residual-in_err-reference.result c.from_residual-in_err-reference.ensures.1 in
    let e = c.in_err-reference.field-0.0 in
    rw (p.1, p.2) (stops_same e _ _ (vector_named c.args.scan.now.problem c.args.bounds (rest c.args.scan.now) (search rules))
    (stops_first e _ (λ f. ret (placed f)) c.in_err-reference.ensures.gives))

pub returns-clause-gives : goal.returns-clause-gives
returns-clause-gives c =
    vector_named c.args.scan.now.problem c.args.bounds (rest c.args.scan.now) (search rules)
    ∙ ap (λ r. go_on r (λ f. ret (placed f))) c.in_ok-reference.ensures.gives
    ∙ ap (λ v. Ok (v, rest c.reference_at.new.scan)) (sym c.in_ok-by_itself.ensures)
