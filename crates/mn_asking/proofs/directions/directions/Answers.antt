use Rattle.std.proofs.Common.{rules, ◌≡◌, Bool, true, false, Ok, ap, ◌∙◌}
use Rattle.std.proofs.lemmas.Result.{err_from_is_err_and}
use Rattle.mn_lexer.specs.declared.marks.Mark.TheVariants.{CloseSquare}
use Rattle.mn_cursor.specs.Progress.{rest}
use Rattle.mn_references.specs.Listing.{turn_of}
use Rattle.mn_asking.specs.Searching.{way_at}
use Rattle.mn_references.proofs.ListTurns.{list_stops, list_on, list_done}
use Rattle.mn_references.proofs.Stepping.{moves_on}
use Rattle.mn_asking.specs.Search.{values_ends}
use Rattle.mn_asking.proofs.AskingSteps.{way_leaves}
use Rattle.mn_asking.proofs.directions.directions.Goals as goal

pub returns-in_err-more-clause-gives : goal.returns-in_err-more-clause-gives
returns-in_err-more-clause-gives c =
    let p = err_from_is_err_and c.from_residual.result c.from_residual.ensures.1 in
    let e = c.in_err-more.field-0.0 in
    let n = c.args.wanted in
    let ts = rest c.loop-down.scan in
    let stops = c.in_err-more.ensures.gives in
    rw (p.1, p.2) (list_stops CloseSquare (values_ends n) (way_at n) (way_leaves n) c.loop-down.down ts e _ stops c.loop-down.invariant.same)

pub returns-then-not-more-clause-gives : goal.returns-then-not-more-clause-gives
returns-then-not-more-clause-gives c =
    let n = c.args.wanted in
    let ts = rest c.loop-down.scan in
    let us = rest c.turn.new.scan in
    let last : c.in_ok-more.more ≡ false = search rules in
    let turned = c.in_ok-more.ensures.gives in
    list_done CloseSquare (values_ends n) (way_at n) (way_leaves n) c.loop-down.down c.turn.new.down ts us _
    (turned ∙ ap (λ (x : Bool). Ok (turn_of c.turn.new.down x, us)) last) c.loop-down.invariant.same

pub loop-down-smaller : goal.loop-down-smaller
loop-down-smaller c =
    let n = c.args.wanted in
    let ts = rest c.loop-down.scan in
    let us = rest c.turn.new.scan in
    let more : c.in_ok-more.more ≡ true = search rules in
    let turned = c.in_ok-more.ensures.gives in
    (list_on CloseSquare (values_ends n) (way_at n) (way_leaves n) c.loop-down.down c.turn.new.down ts us _
    (turned ∙ ap (λ (x : Bool). Ok (turn_of c.turn.new.down x, us)) more) c.loop-down.invariant.same).1

pub loop-down-preserved : goal.loop-down-preserved
loop-down-preserved c =
    let n = c.args.wanted in
    let ts = rest c.loop-down.scan in
    let us = rest c.turn.new.scan in
    let more : c.in_ok-more.more ≡ true = search rules in
    let turned = c.in_ok-more.ensures.gives in
    record {
      same = (list_on CloseSquare (values_ends n) (way_at n) (way_leaves n) c.loop-down.down c.turn.new.down ts us _
          (turned ∙ ap (λ (x : Bool). Ok (turn_of c.turn.new.down x, us)) more) c.loop-down.invariant.same).0;
      moves = moves_on c.args.scan.now c.loop-down.scan c.turn.new.scan c.loop-down.invariant.moves c.in_ok-more.ensures.moves;
    }
