use Rattle.std.proofs.Common.{rules, ◌≡◌, true, false, sym, ap, ◌∙◌, subst}
use Rattle.std.proofs.lemmas.Result.{err_from_is_err_and}
use Rattle.mn_grammar.specs.Gives.{Stops}
use Rattle.mn_grammar.specs.Reading.{mark_at, ret, go_on}
use Rattle.mn_grammar.specs.declared.site.Site.TheVariants.{MarksOnly}
use Rattle.mn_lexer.specs.declared.marks.Mark.TheVariants.{Comma, CloseSquare}
use Rattle.mn_cursor.specs.Progress.{rest}
use Rattle.mn_cursor.proofs.Turning.{stops_first, stops_same}
use Rattle.mn_decls.specs.Aliases.{at_last, at_next}
use Rattle.mn_decls.specs.Brackets.{ended}
use Rattle.mn_decls.proofs.AliasSteps.{end_comma, end_close, more_wanted, mark_leaves}
use Rattle.mn_decls.proofs.brackets.entry_end.Goals as goal

pub returns-in_err-mark-clause-gives : goal.returns-in_err-mark-clause-gives
returns-in_err-mark-clause-gives c =
    let p = err_from_is_err_and c.from_residual.result c.from_residual.ensures.1 in
    let k : c.lesser.result ≡ at_next c.args.wanted c.args.behind = search rules in
    λ v same. rw (p.1, p.2)
    (stops_same c.in_err-mark.field-0.0 _ _ (end_comma c.args.wanted c.args.behind (rest c.args.c.now) v same (search rules))
    (stops_first c.in_err-mark.field-0.0 _ _ (subst (λ x. Stops c.in_err-mark.field-0.0 (mark_at MarksOnly Comma x (rest c.args.c.now))) k c.in_err-mark.ensures.gives)))

pub returns-in_err-mark-2-clause-gives : goal.returns-in_err-mark-2-clause-gives
returns-in_err-mark-2-clause-gives c =
    let p = err_from_is_err_and c.from_residual-in_err-mark-2.result c.from_residual-in_err-mark-2.ensures.1 in
    let k : c.lesser-else-is_mark.result ≡ at_last c.args.wanted c.args.behind = search rules in
    λ v same. rw (p.1, p.2)
    (stops_same c.in_err-mark-2.field-0.0 _ _ (end_close c.args.wanted c.args.behind (rest c.args.c.now) v same (search rules))
    (stops_first c.in_err-mark-2.field-0.0 _ _ (subst (λ x. Stops c.in_err-mark-2.field-0.0 (mark_at MarksOnly CloseSquare x (rest c.args.c.now))) k c.in_err-mark-2.ensures.gives)))

pub returns-in_ok-mark-clause-gives : goal.returns-in_ok-mark-clause-gives
returns-in_ok-mark-clause-gives c = λ v same.
    let k : c.lesser.result ≡ at_next c.args.wanted c.args.behind = search rules in
    end_comma c.args.wanted c.args.behind (rest c.args.c.now) v same (search rules)
    ∙ ap (λ x. go_on (mark_at MarksOnly Comma x (rest c.args.c.now)) (λ u. ret (ended c.args.wanted v true))) (sym k)
    ∙ ap (λ r. go_on r (λ u. ret (ended c.args.wanted v true))) c.in_ok-mark.ensures.gives

pub returns-in_ok-mark-clause-more : goal.returns-in_ok-mark-clause-more
returns-in_ok-mark-clause-more c = λ e.
    let k : c.lesser.result ≡ at_next c.args.wanted c.args.behind = search rules in
    more_wanted c.args.wanted c.args.behind (rest c.args.c.now) (rest c.mark.new.self) (ap (λ x. mark_at MarksOnly Comma x (rest c.args.c.now)) (sym k) ∙ c.in_ok-mark.ensures.gives)

pub returns-in_ok-mark-clause-less : goal.returns-in_ok-mark-clause-less
returns-in_ok-mark-clause-less c = mark_leaves Comma c.lesser.result (rest c.args.c.now) (rest c.mark.new.self) c.in_ok-mark.ensures.gives

pub returns-in_ok-mark-2-clause-gives : goal.returns-in_ok-mark-2-clause-gives
returns-in_ok-mark-2-clause-gives c = λ v same.
    let k : c.lesser-else-is_mark.result ≡ at_last c.args.wanted c.args.behind = search rules in
    end_close c.args.wanted c.args.behind (rest c.args.c.now) v same (search rules)
    ∙ ap (λ x. go_on (mark_at MarksOnly CloseSquare x (rest c.args.c.now)) (λ u. ret (ended c.args.wanted v false))) (sym k)
    ∙ ap (λ r. go_on r (λ u. ret (ended c.args.wanted v false))) c.in_ok-mark-2.ensures.gives

pub returns-in_ok-mark-2-clause-less : goal.returns-in_ok-mark-2-clause-less
returns-in_ok-mark-2-clause-less c = mark_leaves CloseSquare c.lesser-else-is_mark.result (rest c.args.c.now) (rest c.mark-else-is_mark.new.self) c.in_ok-mark-2.ensures.gives
