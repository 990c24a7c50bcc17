use Rattle.std.proofs.Common.{rules, ◌≡◌, Bool, true, false, ℕ, length, drop, Ok, refl, sym, ap, ◌∙◌, arith}
use Rattle.std.proofs.lemmas.Result.{err_from_is_err_and}
use Rattle.mn_grammar.specs.Reading.{number_at}
use Rattle.mn_cursor.specs.Progress.{rest}
use Rattle.mn_language.specs.Arguments.{at_one, number_ends}
use Rattle.mn_references.specs.Listing.{turn_of}
use Rattle.mn_references.proofs.ListTurns.{list_stops, list_on, list_done}
use Rattle.mn_references.proofs.Stepping.{moves_on}
use Rattle.mn_constraints.specs.Numbering.{wanted_seen}
use Rattle.mn_constraints.proofs.NumberSteps.{number_leaves, numbers_start, all_taken, all_dropped}
use Rattle.mn_constraints.proofs.numbers.numbers_to.Goals as goal

pub loop-more-init : goal.loop-more-init
loop-more-init c =
    let l = c.args.numbers.now in
    let size : length l ≡ c.len-first.result = sym c.len-first.ensures in
    record {
      same = numbers_start c.args.shut (wanted_seen c.args.wanted) (drop c.len-first.result l) (rest c.args.scan.now) (all_dropped l c.len-first.result c.len-first.ensures);
      moves = refl;
      there = c.len-first.ensures;
      keeps = all_taken l c.len-first.result c.len-first.ensures;
      longer = omega (arith, size);
    }

pub returns-in_err-more-clause-gives : goal.returns-in_err-more-clause-gives
returns-in_err-more-clause-gives c =
    let p = err_from_is_err_and c.from_residual.result c.from_residual.ensures.1 in
    let w = wanted_seen c.args.wanted in
    rw (p.1, p.2)
    (list_stops c.args.shut (number_ends w) (λ b. number_at (at_one w b)) (number_leaves w) (drop c.len-first.result c.loop-more.numbers) (rest c.loop-more.scan) c.in_err-more.field-0.0 _
    c.in_err-more.ensures.gives c.loop-more.invariant.same)

pub returns-then-not-more-clause-gives : goal.returns-then-not-more-clause-gives
returns-then-not-more-clause-gives c =
    let w = wanted_seen c.args.wanted in
    let us = rest c.turn.new.scan in
    let last : c.in_ok-more.more ≡ false = search rules in
    let l = c.turn.new.numbers in
    list_done c.args.shut (number_ends w) (λ b. number_at (at_one w b)) (number_leaves w) (drop c.len-first.result c.loop-more.numbers) (drop c.len-first.result l) (rest c.loop-more.scan) us _
    (c.in_ok-more.ensures.gives ∙ ap (λ (x : Bool). Ok (turn_of (drop c.len-first.result l) x, us)) last) c.loop-more.invariant.same
    ∙ ap (λ (n : ℕ). Ok (drop n l, us)) c.len-first.ensures

pub loop-more-smaller : goal.loop-more-smaller
loop-more-smaller c =
    let w = wanted_seen c.args.wanted in
    let us = rest c.turn.new.scan in
    let more : c.in_ok-more.more ≡ true = search rules in
    let l = c.turn.new.numbers in
    (list_on c.args.shut (number_ends w) (λ b. number_at (at_one w b)) (number_leaves w) (drop c.len-first.result c.loop-more.numbers) (drop c.len-first.result l) (rest c.loop-more.scan) us _
    (c.in_ok-more.ensures.gives ∙ ap (λ (x : Bool). Ok (turn_of (drop c.len-first.result l) x, us)) more) c.loop-more.invariant.same).1

pub loop-more-preserved : goal.loop-more-preserved
loop-more-preserved c =
    let w = wanted_seen c.args.wanted in
    let us = rest c.turn.new.scan in
    let more : c.in_ok-more.more ≡ true = search rules in
    let l = c.turn.new.numbers in
    record {
      same = (list_on c.args.shut (number_ends w) (λ b. number_at (at_one w b)) (number_leaves w) (drop c.len-first.result c.loop-more.numbers) (drop c.len-first.result l) (rest c.loop-more.scan) us _
          (c.in_ok-more.ensures.gives ∙ ap (λ (x : Bool). Ok (turn_of (drop c.len-first.result l) x, us)) more) c.loop-more.invariant.same).0;
      moves = moves_on c.args.scan.now c.loop-more.scan c.turn.new.scan c.loop-more.invariant.moves c.in_ok-more.ensures.moves;
      there = c.loop-more.invariant.there;
      keeps = c.in_ok-more.ensures.keeps ∙ c.loop-more.invariant.keeps;
      longer = c.in_ok-more.ensures.longer;
    }
