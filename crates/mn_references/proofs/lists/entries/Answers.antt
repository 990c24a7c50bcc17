use Rattle.std.proofs.Common.{rules, ◌≡◌, Bool, true, false, Ok, ap, ◌∙◌, subst}
use Rattle.std.proofs.lemmas.Result.{err_from_is_err_and}
use Rattle.mn_lexer.specs.declared.marks.Mark.TheVariants.{CloseSquare}
use Rattle.mn_grammar.specs.Gives.{Stops}
use Rattle.mn_grammar.specs.Lists.{turn_at}
use Rattle.mn_model.specs.Problem.{Problem}
use Rattle.mn_cursor.specs.Progress.{Progress, rest}
use Rattle.mn_references.specs.Entries.{in_list, list_ends, listed_terms}
use Rattle.mn_references.specs.Listing.{turn_of}
use Rattle.mn_references.specs.Referring.{entry_at}
use Rattle.mn_references.proofs.ListTurns.{list_stops, list_on, list_done, entry_leaves}
use Rattle.mn_references.proofs.Stepping.{moves_on}
use Rattle.mn_references.proofs.lists.entries.Goals as goal

pub returns-in_err-more-clause-gives : goal.returns-in_err-more-clause-gives
returns-in_err-more-clause-gives c =
    let p = err_from_is_err_and c.from_residual.result c.from_residual.ensures.1 in
    let e = c.in_err-more.field-0.0 in
    let q = c.args.scan.now.problem in
    let b = c.args.bounds in
    let ts = rest c.loop-terms.scan in
    let problem : c.loop-terms.scan.problem ≡ q = ap (λ (s : Progress). s.problem) c.loop-terms.invariant.moves in
    let stops = subst (λ (r : Problem). Stops e (turn_at CloseSquare (list_ends b) listed_terms (λ before. entry_at r (in_list r b before)) c.loop-terms.terms ts)) problem c.in_err-more.ensures.gives in
    rw (p.1, p.2) (list_stops CloseSquare (list_ends b) (λ before. entry_at q (in_list q b before)) (entry_leaves q b) c.loop-terms.terms ts e _ stops c.loop-terms.invariant.same)

pub returns-then-not-more-clause-gives : goal.returns-then-not-more-clause-gives
returns-then-not-more-clause-gives c =
    let q = c.args.scan.now.problem in
    let b = c.args.bounds in
    let ts = rest c.loop-terms.scan in
    let us = rest c.turn.new.scan in
    let problem : c.loop-terms.scan.problem ≡ q = ap (λ (s : Progress). s.problem) c.loop-terms.invariant.moves in
    let last : c.in_ok-more.more ≡ false = search rules in
    let turned = subst (λ (r : Problem). turn_at CloseSquare (list_ends b) listed_terms (λ before. entry_at r (in_list r b before)) c.loop-terms.terms ts ≡ Ok (turn_of c.turn.new.terms c.in_ok-more.more, us)) problem c.in_ok-more.ensures.gives in
    list_done CloseSquare (list_ends b) (λ before. entry_at q (in_list q b before)) (entry_leaves q b) c.loop-terms.terms c.turn.new.terms ts us _
    (turned ∙ ap (λ (x : Bool). Ok (turn_of c.turn.new.terms x, us)) last) c.loop-terms.invariant.same

pub loop-terms-smaller : goal.loop-terms-smaller
loop-terms-smaller c =
    let q = c.args.scan.now.problem in
    let b = c.args.bounds in
    let ts = rest c.loop-terms.scan in
    let us = rest c.turn.new.scan in
    let problem : c.loop-terms.scan.problem ≡ q = ap (λ (s : Progress). s.problem) c.loop-terms.invariant.moves in
    let more : c.in_ok-more.more ≡ true = search rules in
    let turned = subst (λ (r : Problem). turn_at CloseSquare (list_ends b) listed_terms (λ before. entry_at r (in_list r b before)) c.loop-terms.terms ts ≡ Ok (turn_of c.turn.new.terms c.in_ok-more.more, us)) problem c.in_ok-more.ensures.gives in
    (list_on CloseSquare (list_ends b) (λ before. entry_at q (in_list q b before)) (entry_leaves q b) c.loop-terms.terms c.turn.new.terms ts us _
    (turned ∙ ap (λ (x : Bool). Ok (turn_of c.turn.new.terms x, us)) more) c.loop-terms.invariant.same).1

pub loop-terms-preserved : goal.loop-terms-preserved
loop-terms-preserved c =
    let q = c.args.scan.now.problem in
    let b = c.args.bounds in
    let ts = rest c.loop-terms.scan in
    let us = rest c.turn.new.scan in
    let problem : c.loop-terms.scan.problem ≡ q = ap (λ (s : Progress). s.problem) c.loop-terms.invariant.moves in
    let more : c.in_ok-more.more ≡ true = search rules in
    let turned = subst (λ (r : Problem). turn_at CloseSquare (list_ends b) listed_terms (λ before. entry_at r (in_list r b before)) c.loop-terms.terms ts ≡ Ok (turn_of c.turn.new.terms c.in_ok-more.more, us)) problem c.in_ok-more.ensures.gives in
    record {
      same = (list_on CloseSquare (list_ends b) (λ before. entry_at q (in_list q b before)) (entry_leaves q b) c.loop-terms.terms c.turn.new.terms ts us _
          (turned ∙ ap (λ (x : Bool). Ok (turn_of c.turn.new.terms x, us)) more) c.loop-terms.invariant.same).0;
      moves = moves_on c.args.scan.now c.loop-terms.scan c.turn.new.scan c.loop-terms.invariant.moves c.in_ok-more.ensures.moves;
    }
