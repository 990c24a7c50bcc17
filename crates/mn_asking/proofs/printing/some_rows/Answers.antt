use Rattle.std.proofs.Common.{rules, ◌≡◌, Bool, true, false, List, Ok, sym, ap, ◌∙◌, subst}
use Rattle.mn_model.specs.declared.constraint.Term.{Term}
use Rattle.std.proofs.lemmas.Result.{err_from_is_err_and}
use Rattle.mn_lexer.specs.declared.marks.Mark.TheVariants.{CloseSquare}
use Rattle.mn_grammar.specs.Gives.{Stops}
use Rattle.mn_grammar.specs.Lists.{turn_at}
use Rattle.mn_model.specs.Problem.{Problem}
use Rattle.mn_cursor.specs.Progress.{Progress, rest}
use Rattle.mn_references.specs.Listing.{turn_of}
use Rattle.mn_references.specs.Referring.{row_at}
use Rattle.mn_references.proofs.ListTurns.{list_stops, list_on, list_done}
use Rattle.mn_references.proofs.Stepping.{moves_on}
use Rattle.mn_asking.specs.Search.{all_rows, rows_ends}
use Rattle.mn_asking.proofs.AskingSteps.{row_leaves}
use Rattle.mn_asking.proofs.printing.some_rows.Goals as goal

pub returns-in_err-more-clause-gives : goal.returns-in_err-more-clause-gives
returns-in_err-more-clause-gives c =
    let p = err_from_is_err_and c.from_residual.result c.from_residual.ensures.1 in
    let e = c.in_err-more.field-0.0 in
    let q = c.args.scan.now.problem in
    let ts = rest c.loop-rows.scan in
    let problem : c.loop-rows.scan.problem ≡ q = ap (λ (s : Progress). s.problem) c.loop-rows.invariant.moves in
    let stops = subst (λ (r : Problem). Stops e (turn_at CloseSquare rows_ends all_rows (λ before. row_at r) c.loop-rows.rows.items ts)) problem c.in_err-more.ensures.gives in
    rw (p.1, p.2) (list_stops CloseSquare rows_ends (λ before. row_at q) (row_leaves q) c.loop-rows.rows.items ts e _ stops c.loop-rows.invariant.same)

pub returns-then-not-more-clause-gives : goal.returns-then-not-more-clause-gives
returns-then-not-more-clause-gives c =
    let q = c.args.scan.now.problem in
    let ts = rest c.loop-rows.scan in
    let us = rest c.turn.new.scan in
    let problem : c.loop-rows.scan.problem ≡ q = ap (λ (s : Progress). s.problem) c.loop-rows.invariant.moves in
    let last : c.in_ok-more.more ≡ false = search rules in
    let turned = subst (λ (r : Problem). turn_at CloseSquare rows_ends all_rows (λ before. row_at r) c.loop-rows.rows.items ts ≡ Ok (turn_of c.turn.new.rows.items c.in_ok-more.more, us)) problem c.in_ok-more.ensures.gives in
    list_done CloseSquare rows_ends (λ before. row_at q) (row_leaves q) c.loop-rows.rows.items c.turn.new.rows.items ts us _
    (turned ∙ ap (λ (x : Bool). Ok (turn_of c.turn.new.rows.items x, us)) last) c.loop-rows.invariant.same
    ∙ ap (λ (r : List (List Term)). Ok (r, us)) (sym c.of.ensures)

pub loop-rows-smaller : goal.loop-rows-smaller
loop-rows-smaller c =
    let q = c.args.scan.now.problem in
    let ts = rest c.loop-rows.scan in
    let us = rest c.turn.new.scan in
    let problem : c.loop-rows.scan.problem ≡ q = ap (λ (s : Progress). s.problem) c.loop-rows.invariant.moves in
    let more : c.in_ok-more.more ≡ true = search rules in
    let turned = subst (λ (r : Problem). turn_at CloseSquare rows_ends all_rows (λ before. row_at r) c.loop-rows.rows.items ts ≡ Ok (turn_of c.turn.new.rows.items c.in_ok-more.more, us)) problem c.in_ok-more.ensures.gives in
    (list_on CloseSquare rows_ends (λ before. row_at q) (row_leaves q) c.loop-rows.rows.items c.turn.new.rows.items ts us _
    (turned ∙ ap (λ (x : Bool). Ok (turn_of c.turn.new.rows.items x, us)) more) c.loop-rows.invariant.same).1

pub loop-rows-preserved : goal.loop-rows-preserved
loop-rows-preserved c =
    let q = c.args.scan.now.problem in
    let ts = rest c.loop-rows.scan in
    let us = rest c.turn.new.scan in
    let problem : c.loop-rows.scan.problem ≡ q = ap (λ (s : Progress). s.problem) c.loop-rows.invariant.moves in
    let more : c.in_ok-more.more ≡ true = search rules in
    let turned = subst (λ (r : Problem). turn_at CloseSquare rows_ends all_rows (λ before. row_at r) c.loop-rows.rows.items ts ≡ Ok (turn_of c.turn.new.rows.items c.in_ok-more.more, us)) problem c.in_ok-more.ensures.gives in
    record {
      same = (list_on CloseSquare rows_ends (λ before. row_at q) (row_leaves q) c.loop-rows.rows.items c.turn.new.rows.items ts us _
          (turned ∙ ap (λ (x : Bool). Ok (turn_of c.turn.new.rows.items x, us)) more) c.loop-rows.invariant.same).0;
      moves = moves_on c.args.scan.now c.loop-rows.scan c.turn.new.scan c.loop-rows.invariant.moves c.in_ok-more.ensures.moves;
    }
