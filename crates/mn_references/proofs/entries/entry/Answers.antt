use Rattle.std.proofs.Common.{◌≡◌, ℤ, true, Option, Some, Ok, drop, sym, ap, ◌∙◌, subst, rules, to_z, of_z, w64, FitsSigned}
use Rattle.std.proofs.lemmas.Int.{to_z-of_z}
use Rattle.std.proofs.lemmas.Result.{err_from_is_err_and}
use Rattle.mn_grammar.specs.Gives.{Stops}
use Rattle.mn_grammar.specs.Reading.{go_on, judged, ret}
use Rattle.mn_grammar.specs.declared.Kind.{Kind}
use Rattle.mn_model.specs.Problem.{Problem}
use Rattle.mn_references.specs.Conditions.{lesser}
use Rattle.mn_references.specs.Entries.{at_number, placed, constant, denied}
use Rattle.mn_references.specs.Lookups.{found_seen}
use Rattle.mn_references.specs.Placing.{place_seen, start_seen}
use Rattle.mn_cursor.specs.Progress.{Progress, rest}
use Rattle.mn_references.specs.References.{one_place}
use Rattle.mn_references.specs.Referring.{ref_at}
use Rattle.mn_references.specs.declared.scan.Start.{Start}
use Rattle.mn_references.proofs.Placeable.{entry_unseen, entry_named, entry_number, entry_bang}
use Rattle.mn_cursor.proofs.Turning.{stops_first, stops_second, stops_same}
use Rattle.mn_references.proofs.entries.entry.Goals as goal

pub returns-in_err-name-clause-gives : goal.returns-in_err-name-clause-gives
returns-in_err-name-clause-gives c =
    let p = err_from_is_err_and c.from_residual.result c.from_residual.ensures.1 in
    rw (p.1, p.2) (entry_unseen c.args.scan.now.problem (place_seen c.args.scan.now.problem c.args.place) (rest c.args.scan.now) c.in_err-name.field-0.0 c.in_err-name.ensures.sees)

pub returns-in_err-named-in-Name-clause-gives : goal.returns-in_err-named-in-Name-clause-gives
returns-in_err-named-in-Name-clause-gives c =
    let p = err_from_is_err_and c.from_residual-in_err-named-in-Name.result c.from_residual-in_err-named-in-Name.ensures.1 in
    let e = c.in_err-named-in-Name.field-0.0 in
    let is = c.in_ok-name.ensures.sees ∙ ap (λ (s : Start). Some (start_seen s)) c.in-Name.is in
    rw (p.1, p.2) (stops_same e _ _ (entry_named c.args.scan.now.problem (place_seen c.args.scan.now.problem c.args.place) (rest c.args.scan.now) c.in-Name.name.now is)
    (stops_first e _ (λ f. ret (placed f)) c.in_err-named-in-Name.ensures.gives))

pub returns-in_err-accept-in-Number-clause-gives : goal.returns-in_err-accept-in-Number-clause-gives
returns-in_err-accept-in-Number-clause-gives c =
    let p = err_from_is_err_and c.from_residual-in_err-accept-in-Number.result c.from_residual-in_err-accept-in-Number.ensures.1 in
    let e = c.in_err-accept-in-Number.field-0.0 in
    let z = c.in-Number.z in
    let ts = rest c.args.scan.now in
    let fits : FitsSigned w64 z = search rules in
    let round : to_z w64 (of_z w64 z) ≡ z = to_z-of_z w64 z fits in
    let kind : c.lesser.result ≡ lesser c.args.place.first (at_number c.args.place.bits z) =
    c.lesser.ensures ∙ ap (lesser c.args.place.first) (subst (λ (x : ℤ). c.number_kind.result ≡ at_number c.args.place.bits x) round c.number_kind.ensures) in
    let is = c.in_ok-name.ensures.sees ∙ ap (λ (s : Start). Some (start_seen s)) c.in-Number.is in
    rw (p.1, p.2) (stops_same e _ _ (entry_number c.args.scan.now.problem (place_seen c.args.scan.now.problem c.args.place) ts z is)
    (stops_first e _ (λ u. ret (constant z)) (subst (λ (k : Option Kind). Stops e (judged k (tt {0}) ts (drop 1 ts))) kind c.in_err-accept-in-Number.ensures.gives)))

pub returns-in_ok-accept-in-Number-clause-gives : goal.returns-in_ok-accept-in-Number-clause-gives
returns-in_ok-accept-in-Number-clause-gives c =
    let z = c.in-Number.z in
    let ts = rest c.args.scan.now in
    let us = rest c.accept.new.self in
    let fits : FitsSigned w64 z = search rules in
    let round : to_z w64 (of_z w64 z) ≡ z = to_z-of_z w64 z fits in
    let kind : c.lesser.result ≡ lesser c.args.place.first (at_number c.args.place.bits z) =
    c.lesser.ensures ∙ ap (lesser c.args.place.first) (subst (λ (x : ℤ). c.number_kind.result ≡ at_number c.args.place.bits x) round c.number_kind.ensures) in
    let is = c.in_ok-name.ensures.sees ∙ ap (λ (s : Start). Some (start_seen s)) c.in-Number.is in
    entry_number c.args.scan.now.problem (place_seen c.args.scan.now.problem c.args.place) ts z is
    ∙ ap (λ r. go_on r (λ u. ret (constant z))) (subst (λ (k : Option Kind). judged k (tt {0}) ts (drop 1 ts) ≡ Ok (tt {0}, us)) kind c.in_ok-accept-in-Number.ensures.gives)
    ∙ ap (λ x. Ok (constant x, us)) (sym round)

pub returns-in_err-accept-in-Bang-clause-gives : goal.returns-in_err-accept-in-Bang-clause-gives
returns-in_err-accept-in-Bang-clause-gives c =
    let p = err_from_is_err_and c.from_residual-in_err-accept-in-Bang.result c.from_residual-in_err-accept-in-Bang.ensures.1 in
    let e = c.in_err-accept-in-Bang.field-0.0 in
    let is = c.in_ok-name.ensures.sees ∙ ap (λ (s : Start). Some (start_seen s)) c.in-Bang.is in
    rw (p.1, p.2) (stops_same e _ _ (entry_bang c.args.scan.now.problem (place_seen c.args.scan.now.problem c.args.place) (rest c.args.scan.now) is)
    (stops_first e _ (λ f. ret (denied f)) (stops_first e _ (λ u. ref_at c.args.scan.now.problem (one_place c.args.scan.now.problem true)) c.in_err-accept-in-Bang.ensures.gives)))

pub returns-in_err-reference_at-in-Bang-clause-gives : goal.returns-in_err-reference_at-in-Bang-clause-gives
returns-in_err-reference_at-in-Bang-clause-gives c =
    let p = err_from_is_err_and c.from_residual-in_err-reference_at-in-Bang.result c.from_residual-in_err-reference_at-in-Bang.ensures.1 in
    let e = c.in_err-reference_at-in-Bang.field-0.0 in
    let us = rest c.accept-in-Bang.new.self in
    let problem : c.accept-in-Bang.new.self.problem ≡ c.args.scan.now.problem = ap (λ (s : Progress). s.problem) c.in_ok-accept-in-Bang.ensures.moves in
    let is = c.in_ok-name.ensures.sees ∙ ap (λ (s : Start). Some (start_seen s)) c.in-Bang.is in
    rw (p.1, p.2) (stops_same e _ _ (entry_bang c.args.scan.now.problem (place_seen c.args.scan.now.problem c.args.place) (rest c.args.scan.now) is)
    (stops_first e _ (λ f. ret (denied f)) (stops_second e _ (λ u. ref_at c.args.scan.now.problem (one_place c.args.scan.now.problem true)) (tt {0}) us c.in_ok-accept-in-Bang.ensures.gives
    (subst (λ (q : Problem). Stops e (ref_at q (one_place q true) us)) problem c.in_err-reference_at-in-Bang.ensures.gives))))

pub returns-in_ok-named-in-Name-clause-gives : goal.returns-in_ok-named-in-Name-clause-gives
returns-in_ok-named-in-Name-clause-gives c =
    let is = c.in_ok-name.ensures.sees ∙ ap (λ (s : Start). Some (start_seen s)) c.in-Name.is in
    entry_named c.args.scan.now.problem (place_seen c.args.scan.now.problem c.args.place) (rest c.args.scan.now) c.in-Name.name.now is
    ∙ ap (λ r. go_on r (λ f. ret (placed f))) c.in_ok-named-in-Name.ensures.gives

pub returns-in_ok-reference_at-in-Bang-clause-gives : goal.returns-in_ok-reference_at-in-Bang-clause-gives
returns-in_ok-reference_at-in-Bang-clause-gives c =
    let us = rest c.accept-in-Bang.new.self in
    let problem : c.accept-in-Bang.new.self.problem ≡ c.args.scan.now.problem = ap (λ (s : Progress). s.problem) c.in_ok-accept-in-Bang.ensures.moves in
    let is = c.in_ok-name.ensures.sees ∙ ap (λ (s : Start). Some (start_seen s)) c.in-Bang.is in
    entry_bang c.args.scan.now.problem (place_seen c.args.scan.now.problem c.args.place) (rest c.args.scan.now) is
    ∙ ap (λ r. go_on (go_on r (λ u. ref_at c.args.scan.now.problem (one_place c.args.scan.now.problem true))) (λ f. ret (denied f))) c.in_ok-accept-in-Bang.ensures.gives
    ∙ ap (λ r. go_on r (λ f. ret (denied f))) (subst (λ (q : Problem). ref_at q (one_place q true) us ≡ Ok (found_seen c.in_ok-reference_at-in-Bang.field-0, rest c.reference_at.new.scan)) problem c.in_ok-reference_at-in-Bang.ensures.gives)
