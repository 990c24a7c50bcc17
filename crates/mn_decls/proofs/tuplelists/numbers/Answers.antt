use Rattle.std.proofs.Common.{rules, pos, sym, ◌∙◌}
use Rattle.std.proofs.lemmas.Result.{err_from_is_err_and}
use Rattle.mn_cursor.specs.Progress.{rest}
use Rattle.mn_cursor.proofs.Turning.{stops_same}
use Rattle.mn_decls.proofs.TupleListSteps.{number_turned, number_stops}
use Rattle.mn_decls.proofs.TupleListLaw.{numbers_end}
use Rattle.mn_decls.proofs.tuplelists.numbers.Goals as goal

pub returns-in_err-accept-clause-gives : goal.returns-in_err-accept-clause-gives
returns-in_err-accept-clause-gives c =
    let p = err_from_is_err_and c.from_residual.result c.from_residual.ensures.1 in
    rw (p.1, p.2)
    (stops_same c.in_err-accept.field-0.0 _ _ (sym c.loop-number.invariant.0)
    (number_stops (pos c.args.wanted) c.loop-number.numbers (rest c.loop-number.c) c.in-Some.number (search rules) c.in_err-accept.field-0.0 (search rules)))

pub loop-number-preserved : goal.loop-number-preserved
loop-number-preserved c =
    let turned = number_turned c.args.wanted c.loop-number.numbers c.push.new.self (rest c.loop-number.c) (rest c.accept.new.self) c.in-Some.number (search rules) (search rules) (search rules) c.loop-number.invariant.2 c.in-Some.ensures.value in
    (turned.0 ∙ c.loop-number.invariant.0, search rules, turned.1, turned.2)

pub returns-clause-gives : goal.returns-clause-gives
returns-clause-gives c = sym c.loop-number.invariant.0 ∙ numbers_end (pos c.args.wanted) c.loop-number.numbers (rest c.loop-number.c) (search rules)
