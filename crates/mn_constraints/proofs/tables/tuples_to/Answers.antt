use Rattle.std.proofs.Common.{rules, ◌≡◌, Bool, true, false, Ok, refl, ap, ◌∙◌}
use Rattle.std.proofs.lemmas.Result.{err_from_is_err_and}
use Rattle.mn_lexer.specs.declared.marks.Mark.TheVariants.{CloseCurly}
use Rattle.mn_grammar.specs.Lists.{items_at}
use Rattle.mn_cursor.specs.Progress.{rest}
use Rattle.mn_language.specs.Arguments.{tuple_ends, with_tuple}
use Rattle.mn_language.specs.Constructing.{tuple_at}
use Rattle.mn_references.specs.Listing.{turn_of}
use Rattle.mn_references.proofs.ListTurns.{list_stops, list_on, list_done}
use Rattle.mn_references.proofs.Stepping.{moves_on}
use Rattle.mn_constraints.specs.Tabling.{tuples_from}
use Rattle.mn_constraints.proofs.TupleSteps.{tuple_leaves}
use Rattle.mn_constraints.proofs.tables.tuples_to.Goals as goal

pub loop-cells-init : goal.loop-cells-init
unfolding tuples_from
loop-cells-init c = record {
  same = ap (λ l. items_at CloseCurly tuple_ends with_tuple (tuple_at c.args.used c.args.arity) l (rest c.args.scan.now)) c.new-cells.ensures;
  moves = refl;
}

pub returns-in_err-more-clause-gives : goal.returns-in_err-more-clause-gives
returns-in_err-more-clause-gives c =
    let p = err_from_is_err_and c.from_residual.result c.from_residual.ensures.1 in
    let read = tuple_at c.args.used c.args.arity in
    rw (p.1, p.2)
    (list_stops CloseCurly tuple_ends read (tuple_leaves c.args.used c.args.arity) c.loop-cells.cells (rest c.loop-cells.scan) c.in_err-more.field-0.0 _
    c.in_err-more.ensures.gives c.loop-cells.invariant.same)

pub returns-then-not-more-clause-gives : goal.returns-then-not-more-clause-gives
returns-then-not-more-clause-gives c =
    let read = tuple_at c.args.used c.args.arity in
    let us = rest c.turn.new.scan in
    let last : c.in_ok-more.more ≡ false = search rules in
    list_done CloseCurly tuple_ends read (tuple_leaves c.args.used c.args.arity) c.loop-cells.cells c.turn.new.cells (rest c.loop-cells.scan) us _
    (c.in_ok-more.ensures.gives ∙ ap (λ (x : Bool). Ok (turn_of c.turn.new.cells x, us)) last) c.loop-cells.invariant.same

pub loop-cells-smaller : goal.loop-cells-smaller
loop-cells-smaller c =
    let read = tuple_at c.args.used c.args.arity in
    let us = rest c.turn.new.scan in
    let more : c.in_ok-more.more ≡ true = search rules in
    (list_on CloseCurly tuple_ends read (tuple_leaves c.args.used c.args.arity) c.loop-cells.cells c.turn.new.cells (rest c.loop-cells.scan) us _
    (c.in_ok-more.ensures.gives ∙ ap (λ (x : Bool). Ok (turn_of c.turn.new.cells x, us)) more) c.loop-cells.invariant.same).1

pub loop-cells-preserved : goal.loop-cells-preserved
loop-cells-preserved c =
    let read = tuple_at c.args.used c.args.arity in
    let us = rest c.turn.new.scan in
    let more : c.in_ok-more.more ≡ true = search rules in
    record {
      same = (list_on CloseCurly tuple_ends read (tuple_leaves c.args.used c.args.arity) c.loop-cells.cells c.turn.new.cells (rest c.loop-cells.scan) us _
          (c.in_ok-more.ensures.gives ∙ ap (λ (x : Bool). Ok (turn_of c.turn.new.cells x, us)) more) c.loop-cells.invariant.same).0;
      moves = moves_on c.args.scan.now c.loop-cells.scan c.turn.new.scan c.loop-cells.invariant.moves c.in_ok-more.ensures.moves;
    }
