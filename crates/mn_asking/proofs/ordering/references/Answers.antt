use Rattle.std.proofs.Common.{rules, ◌≡◌, Bool, true, false, Ok, ap, ◌∙◌, subst}
use Rattle.std.proofs.lemmas.Result.{err_from_is_err_and}
use Rattle.mn_lexer.specs.declared.marks.Mark.TheVariants.{CloseSquare}
use Rattle.mn_grammar.specs.Gives.{Stops}
use Rattle.mn_grammar.specs.Lists.{turn_at}
use Rattle.mn_model.specs.Problem.{Problem}
use Rattle.mn_cursor.specs.Progress.{Progress, rest}
use Rattle.mn_references.specs.Listing.{turn_of}
use Rattle.mn_references.specs.Referring.{ref_at}
use Rattle.mn_references.proofs.ListTurns.{list_stops, list_on, list_done}
use Rattle.mn_references.proofs.Stepping.{moves_on}
use Rattle.mn_asking.specs.Search.{all_vars, order_aim, order_ends}
use Rattle.mn_asking.proofs.AskingSteps.{ref_leaves}
use Rattle.mn_asking.proofs.ordering.references.Goals as goal

pub returns-in_err-more-clause-gives : goal.returns-in_err-more-clause-gives
returns-in_err-more-clause-gives c =
    let p = err_from_is_err_and c.from_residual.result c.from_residual.ensures.1 in
    let e = c.in_err-more.field-0.0 in
    let q = c.args.scan.now.problem in
    let ts = rest c.loop-vars.scan in
    let problem : c.loop-vars.scan.problem ≡ q = ap (λ (s : Progress). s.problem) c.loop-vars.invariant.moves in
    let stops = subst (λ (r : Problem). Stops e (turn_at CloseSquare order_ends all_vars (λ before. ref_at r (order_aim before)) c.loop-vars.vars ts)) problem c.in_err-more.ensures.gives in
    rw (p.1, p.2) (list_stops CloseSquare order_ends (λ before. ref_at q (order_aim before)) (ref_leaves q) c.loop-vars.vars ts e _ stops c.loop-vars.invariant.same)

pub returns-then-not-more-clause-gives : goal.returns-then-not-more-clause-gives
returns-then-not-more-clause-gives c =
    let q = c.args.scan.now.problem in
    let ts = rest c.loop-vars.scan in
    let us = rest c.turn.new.scan in
    let problem : c.loop-vars.scan.problem ≡ q = ap (λ (s : Progress). s.problem) c.loop-vars.invariant.moves in
    let last : c.in_ok-more.more ≡ false = search rules in
    let turned = subst (λ (r : Problem). turn_at CloseSquare order_ends all_vars (λ before. ref_at r (order_aim before)) c.loop-vars.vars ts ≡ Ok (turn_of c.turn.new.vars c.in_ok-more.more, us)) problem c.in_ok-more.ensures.gives in
    list_done CloseSquare order_ends (λ before. ref_at q (order_aim before)) (ref_leaves q) c.loop-vars.vars c.turn.new.vars ts us _
    (turned ∙ ap (λ (x : Bool). Ok (turn_of c.turn.new.vars x, us)) last) c.loop-vars.invariant.same

pub loop-vars-smaller : goal.loop-vars-smaller
loop-vars-smaller c =
    let q = c.args.scan.now.problem in
    let ts = rest c.loop-vars.scan in
    let us = rest c.turn.new.scan in
    let problem : c.loop-vars.scan.problem ≡ q = ap (λ (s : Progress). s.problem) c.loop-vars.invariant.moves in
    let more : c.in_ok-more.more ≡ true = search rules in
    let turned = subst (λ (r : Problem). turn_at CloseSquare order_ends all_vars (λ before. ref_at r (order_aim before)) c.loop-vars.vars ts ≡ Ok (turn_of c.turn.new.vars c.in_ok-more.more, us)) problem c.in_ok-more.ensures.gives in
    (list_on CloseSquare order_ends (λ before. ref_at q (order_aim before)) (ref_leaves q) c.loop-vars.vars c.turn.new.vars ts us _
    (turned ∙ ap (λ (x : Bool). Ok (turn_of c.turn.new.vars x, us)) more) c.loop-vars.invariant.same).1

pub loop-vars-preserved : goal.loop-vars-preserved
loop-vars-preserved c =
    let q = c.args.scan.now.problem in
    let ts = rest c.loop-vars.scan in
    let us = rest c.turn.new.scan in
    let problem : c.loop-vars.scan.problem ≡ q = ap (λ (s : Progress). s.problem) c.loop-vars.invariant.moves in
    let more : c.in_ok-more.more ≡ true = search rules in
    let turned = subst (λ (r : Problem). turn_at CloseSquare order_ends all_vars (λ before. ref_at r (order_aim before)) c.loop-vars.vars ts ≡ Ok (turn_of c.turn.new.vars c.in_ok-more.more, us)) problem c.in_ok-more.ensures.gives in
    record {
      same = (list_on CloseSquare order_ends (λ before. ref_at q (order_aim before)) (ref_leaves q) c.loop-vars.vars c.turn.new.vars ts us _
          (turned ∙ ap (λ (x : Bool). Ok (turn_of c.turn.new.vars x, us)) more) c.loop-vars.invariant.same).0;
      moves = moves_on c.args.scan.now c.loop-vars.scan c.turn.new.scan c.loop-vars.invariant.moves c.in_ok-more.ensures.moves;
    }
