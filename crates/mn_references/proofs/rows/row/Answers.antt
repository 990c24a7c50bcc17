use Rattle.std.proofs.Common.{rules, ◌≡◌, [], None, Ok, sym, ap, ◌∙◌, subst}
use Rattle.std.proofs.lemmas.Result.{err_from_is_err_and}
use Rattle.mn_grammar.specs.Gives.{Stops}
use Rattle.mn_grammar.specs.Reading.{go_on, ret}
use Rattle.mn_model.specs.Lawful.{IsLawful}
use Rattle.mn_model.specs.Problem.{Problem}
use Rattle.mn_cursor.specs.Progress.{Progress, rest}
use Rattle.mn_cursor.proofs.Turning.{stops_first, stops_second, stops_same}
use Rattle.mn_references.specs.Entries.{Place, any_number, in_list, one_by_one, one_row}
use Rattle.mn_references.specs.Placing.{place_seen, placed_seen}
use Rattle.mn_references.specs.Referring.{entry_at, list_at}
use Rattle.mn_references.proofs.Listable.{in_list_place}
use Rattle.mn_references.proofs.ListTurns.{row_bracketed, row_plain}
use Rattle.mn_references.proofs.Rowing.{entry_whole}
use Rattle.mn_references.proofs.rows.row.Goals as goal

pub returns-in_err-mark-clause-gives : goal.returns-in_err-mark-clause-gives
returns-in_err-mark-clause-gives c =
    let p = err_from_is_err_and c.from_residual.result c.from_residual.ensures.1 in
    let e = c.in_err-mark.field-0.0 in
    let q = c.args.scan.now.problem in
    rw (p.1, p.2) (stops_same e _ _ (row_bracketed q (rest c.args.scan.now) (search rules))
    (stops_first e _ (λ terms. ret (one_row terms)) (stops_first e _ (λ u. list_at q any_number) c.in_err-mark.ensures.gives)))

pub returns-in_err-terms-clause-gives : goal.returns-in_err-terms-clause-gives
returns-in_err-terms-clause-gives c =
    let p = err_from_is_err_and c.from_residual-in_err-terms.result c.from_residual-in_err-terms.ensures.1 in
    let e = c.in_err-terms.field-0.0 in
    let q = c.args.scan.now.problem in
    let us = rest c.mark.new.self in
    let problem : c.mark.new.self.problem ≡ q = ap (λ (s : Progress). s.problem) c.in_ok-mark.ensures.moves in
    rw (p.1, p.2) (stops_same e _ _ (row_bracketed q (rest c.args.scan.now) (search rules))
    (stops_first e _ (λ terms. ret (one_row terms)) (stops_second e _ (λ u. list_at q any_number) (tt {0}) us c.in_ok-mark.ensures.gives
    (subst (λ (r : Problem). Stops e (list_at r any_number us)) problem c.in_err-terms.ensures.gives))))

pub returns-then-is_mark-clause-gives : goal.returns-then-is_mark-clause-gives
returns-then-is_mark-clause-gives c =
    let q = c.args.scan.now.problem in
    let us = rest c.mark.new.self in
    let problem : c.mark.new.self.problem ≡ q = ap (λ (s : Progress). s.problem) c.in_ok-mark.ensures.moves in
    row_bracketed q (rest c.args.scan.now) (search rules)
    ∙ ap (λ r. go_on (go_on r (λ u. list_at q any_number)) (λ terms. ret (one_row terms))) c.in_ok-mark.ensures.gives
    ∙ ap (λ r. go_on r (λ terms. ret (one_row terms))) (subst (λ (r : Problem). list_at r any_number us ≡ Ok (c.in_ok-terms.terms, rest c.list.new.scan)) problem c.in_ok-terms.ensures.gives)
    ∙ ap (λ rows. Ok (record { rows = rows; behind = None }, rest c.list.new.scan)) (sym c.in_ok-one_row.ensures)

pub returns-in_err-placed-clause-gives : goal.returns-in_err-placed-clause-gives
returns-in_err-placed-clause-gives c =
    let p = err_from_is_err_and c.from_residual-in_err-placed.result c.from_residual-in_err-placed.ensures.1 in
    let e = c.in_err-placed.field-0.0 in
    let q = c.args.scan.now.problem in
    let ts = rest c.args.scan.now in
    let place : place_seen q c.in_list-place.result ≡ in_list q any_number [] = c.in_list-place.ensures q ∙ ap (in_list q any_number) c.new.ensures in
    rw (p.1, p.2) (stops_same e _ _ (row_plain q ts (search rules))
    (stops_first e _ (λ v. ret (one_by_one v)) (subst (λ (w : Place). Stops e (entry_at q w ts)) place c.in_err-placed.ensures.gives)))

pub one_by_one-requires : goal.one_by_one-requires
one_by_one-requires c =
    let q = c.args.scan.now.problem in
    let ts = rest c.args.scan.now in
    let us = rest c.entry.new.scan in
    let place : place_seen q c.in_list-place.result ≡ in_list q any_number [] = c.in_list-place.ensures q ∙ ap (in_list q any_number) c.new.ensures in
    entry_whole q (subst IsLawful c.inst.ensures c.lawful.ensures) (in_list q any_number []) (in_list_place q any_number []) ts us (placed_seen c.in_ok-placed.placed)
    (subst (λ (w : Place). entry_at q w ts ≡ Ok (placed_seen c.in_ok-placed.placed, us)) place c.in_ok-placed.ensures.gives)

pub returns-clause-gives : goal.returns-clause-gives
returns-clause-gives c =
    let q = c.args.scan.now.problem in
    let ts = rest c.args.scan.now in
    let us = rest c.entry.new.scan in
    let place : place_seen q c.in_list-place.result ≡ in_list q any_number [] = c.in_list-place.ensures q ∙ ap (in_list q any_number) c.new.ensures in
    row_plain q ts (search rules)
    ∙ ap (λ r. go_on r (λ v. ret (one_by_one v))) (subst (λ (w : Place). entry_at q w ts ≡ Ok (placed_seen c.in_ok-placed.placed, us)) place c.in_ok-placed.ensures.gives)
    ∙ ap (λ r. Ok (r, us)) (sym c.in_ok-one_by_one.ensures)
