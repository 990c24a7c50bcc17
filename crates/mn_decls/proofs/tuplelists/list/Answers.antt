use Rattle.std.proofs.Common.{rules, ◌≡◌, ◌*◌, pos, true, length, Ok, sym, ap, subst, ◌∙◌}
use Rattle.std.proofs.lemmas.Result.{err_from_is_err_and}
use Rattle.mn_grammar.specs.Gives.{Stops}
use Rattle.mn_grammar.specs.Reading.{number_at}
use Rattle.mn_model.specs.Problem.{Problem}
use Rattle.mn_cursor.specs.Added.{with_tuples}
use Rattle.mn_cursor.specs.Progress.{Progress, rest}
use Rattle.mn_decls.specs.TupleLists.{fair_size, first_at, whole}
use Rattle.mn_decls.proofs.TupleListSteps.{count_stops, size_stops, numbers_stop, lacking_stops, whole_read, is_lawful, test_true, test_false}
use Rattle.mn_decls.proofs.tuplelists.list.Goals as goal

pub returns-in_err-count-clause-err : goal.returns-in_err-count-clause-err
returns-in_err-count-clause-err c =
    let p = err_from_is_err_and c.from_residual.result c.from_residual.ensures.1 in
    rw (p.1, p.2) (count_stops c.args.c.now.problem c.args.name.now (rest c.args.c.now) c.in_err-count.field-0.0 c.in_err-count.ensures.gives)

pub returns-in_err-size-clause-err : goal.returns-in_err-size-clause-err
returns-in_err-size-clause-err c =
    let p = err_from_is_err_and c.from_residual-in_err-size.result c.from_residual-in_err-size.ensures.1 in
    let e = c.in_err-size.field-0.0 in
    let before : c.count.new.c.problem ≡ c.args.c.now.problem = ap (λ x. x.problem) c.in_ok-count.ensures.moves in
    rw (p.1, p.2)
    (size_stops c.args.c.now.problem c.args.name.now (rest c.args.c.now) (pos c.in_ok-count.count) (rest c.count.new.c) c.in_ok-count.ensures.gives e
    (subst (λ (q : Problem). Stops e (number_at (fair_size q (pos c.in_ok-count.count)) (rest c.count.new.c))) before c.in_err-size.ensures.gives))

pub returns-in_err-numbers-clause-err : goal.returns-in_err-numbers-clause-err
returns-in_err-numbers-clause-err c =
    let p = err_from_is_err_and c.from_residual-in_err-numbers.result c.from_residual-in_err-numbers.ensures.1 in
    let e = c.in_err-numbers.field-0.0 in
    let before : c.count.new.c.problem ≡ c.args.c.now.problem = ap (λ x. x.problem) c.in_ok-count.ensures.moves in
    rw (p.1, p.2)
    (numbers_stop c.args.c.now.problem c.args.name.now (rest c.args.c.now) (pos c.in_ok-count.count) (rest c.count.new.c) c.in_ok-count.ensures.gives (pos c.in_ok-size.size) (rest c.size.new.c)
    (subst (λ (q : Problem). number_at (fair_size q (pos c.in_ok-count.count)) (rest c.count.new.c) ≡ Ok (pos c.in_ok-size.size, rest c.size.new.c)) before c.in_ok-size.ensures.gives) e
    c.in_err-numbers.ensures.gives)

pub returns-then-len-wanted-clause-err : goal.returns-then-len-wanted-clause-err
returns-then-len-wanted-clause-err c =
    let before : c.count.new.c.problem ≡ c.args.c.now.problem = ap (λ x. x.problem) c.in_ok-count.ensures.moves in
    let now : c.numbers.new.c.problem ≡ c.args.c.now.problem = ap (λ x. x.problem) c.in_ok-numbers.ensures.moves ∙ ap (λ x. x.problem) c.in_ok-size.ensures.moves ∙ before in
    lacking_stops c.args.c.now.problem c.args.name.now (rest c.args.c.now) (pos c.in_ok-count.count) (rest c.count.new.c) c.in_ok-count.ensures.gives (pos c.in_ok-size.size) (rest c.size.new.c)
    (subst (λ (q : Problem). number_at (fair_size q (pos c.in_ok-count.count)) (rest c.count.new.c) ≡ Ok (pos c.in_ok-size.size, rest c.size.new.c)) before c.in_ok-size.ensures.gives)
    c.in_ok-numbers.numbers (rest c.numbers.new.c) c.in_ok-numbers.ensures.gives c.lacking.result
    (test_true (length c.in_ok-numbers.numbers) (c.in_ok-count.count * c.in_ok-size.size) (search rules))
    (subst (λ (q : Problem). Stops c.lacking.result (first_at (record { problem = with_tuples q c.args.name.now c.in_ok-size.size c.in_ok-numbers.numbers; lacks = true }) (rest c.numbers.new.c))) now (c.lacking.ensures c.in_ok-size.size c.in_ok-numbers.numbers))

pub tuples_add-requires-clause-lawful : goal.tuples_add-requires-clause-lawful
tuples_add-requires-clause-lawful c =
    let before : c.count.new.c.problem ≡ c.args.c.now.problem = ap (λ x. x.problem) c.in_ok-count.ensures.moves in
    is_lawful c.args.c.now.problem c.in_ok-text.text (pos c.in_ok-count.count) (pos c.in_ok-size.size) c.in_ok-numbers.numbers (search rules) (search rules) c.in_ok-count.ensures.fair
    (subst (λ (q : Problem). fair_size q (pos c.in_ok-count.count) (pos c.in_ok-size.size) ≡ _) before c.in_ok-size.ensures.fair)
    (test_false (length c.in_ok-numbers.numbers) (c.in_ok-count.count * c.in_ok-size.size) (search rules)) (search rules) c.in_ok-numbers.ensures.values

pub returns-clause-ok : goal.returns-clause-ok
unfolding rest
returns-clause-ok c =
    let before : c.count.new.c.problem ≡ c.args.c.now.problem = ap (λ x. x.problem) c.in_ok-count.ensures.moves in
    let read = whole_read c.args.c.now.problem c.args.name.now (rest c.args.c.now) (pos c.in_ok-count.count) (rest c.count.new.c) c.in_ok-count.ensures.gives (pos c.in_ok-size.size) (rest c.size.new.c)
    (subst (λ (q : Problem). number_at (fair_size q (pos c.in_ok-count.count)) (rest c.count.new.c) ≡ Ok (pos c.in_ok-size.size, rest c.size.new.c)) before c.in_ok-size.ensures.gives)
    c.in_ok-numbers.numbers (rest c.numbers.new.c) c.in_ok-numbers.ensures.gives
    (test_false (length c.in_ok-numbers.numbers) (c.in_ok-count.count * c.in_ok-size.size) (search rules)) in
    let now : c.numbers.new.c.problem ≡ c.args.c.now.problem = ap (λ x. x.problem) c.in_ok-numbers.ensures.moves ∙ ap (λ x. x.problem) c.in_ok-size.ensures.moves ∙ before in
    read
    ∙ ap (λ (q : Problem). Ok (whole (with_tuples q c.args.name.now c.in_ok-size.size c.in_ok-numbers.numbers), rest c.numbers.new.c)) (sym now)
    ∙ ap (λ t. Ok (whole (with_tuples c.numbers.new.c.problem t c.in_ok-size.size c.in_ok-numbers.numbers), rest c.numbers.new.c)) (sym c.in_ok-text.ensures)
    ∙ ap (λ (x : Progress). Ok (whole x.problem, rest x)) (sym c.in_ok-tuples_add.ensures.ok)
