use Rattle.std.proofs.Common.{rules, ◌≡◌, Option, Some, Ok, drop, refl, sym, ap, ap₂, ◌∙◌, subst, inl, inr}
use Rattle.std.proofs.lemmas.Result.{err_from_is_err_and}
use Rattle.mn_grammar.specs.Gives.{Stops}
use Rattle.mn_grammar.specs.Reading.{judged}
use Rattle.mn_grammar.specs.declared.Kind.{Kind}
use Rattle.mn_cursor.specs.Looks.{first_as}
use Rattle.mn_cursor.specs.Progress.{rest}
use Rattle.mn_cursor.proofs.Turning.{stops_same}
use Rattle.mn_references.specs.Conditions.{lesser}
use Rattle.mn_asking.specs.Asking.{asking_behind, asking_of, word_seen}
use Rattle.mn_asking.specs.Search.{Asking, at_word, may_stand}
use Rattle.mn_asking.specs.Searching.{item_rest, which_item}
use Rattle.mn_asking.proofs.AskingSteps.{unseen_item, word_stops, rest_stops, rest_goes_on, head_stops, head_ends, same_text_on}
use Rattle.mn_asking.proofs.searching.items.Goals as goal

pub returns-in_err-word-clause-err : goal.returns-in_err-word-clause-err
returns-in_err-word-clause-err c =
    let p = err_from_is_err_and c.from_residual.result c.from_residual.ensures.1 in
    let e = c.in_err-word.field-0.0 in
    let s = asking_behind c.loop-word.c c.loop-word.behind in
    rw (p.1, p.2) (stops_same e _ _ (sym c.loop-word.invariant.same) (unseen_item s (rest c.loop-word.c) e c.in_err-word.ensures.sees))

pub returns-in-Some-clause-err : goal.returns-in-Some-clause-err
returns-in-Some-clause-err c =
    let s = asking_behind c.loop-word.c c.loop-word.behind in
    let ts = rest c.loop-word.c in
    let h = c.in_default.field-0 in
    let seen : first_as which_item ts ≡ Some (inr h) = search rules in
    stops_same c.refused.result _ _ (sym c.loop-word.invariant.same) (head_stops s ts h seen c.in-Some.kind c.refused.result (sym c.in-Some.ensures) c.refused.ensures)

pub returns-in-None-clause-ok : goal.returns-in-None-clause-ok
returns-in-None-clause-ok c =
    let s = asking_behind c.loop-word.c c.loop-word.behind in
    let ts = rest c.loop-word.c in
    let h = c.in_default.field-0 in
    let seen : first_as which_item ts ≡ Some (inr h) = search rules in
    let ends = head_ends s ts h seen (sym c.in-None.ensures) in
    (h, ends.0, s, sym c.loop-word.invariant.same ∙ ends.1, refl, refl)

pub returns-in_err-accept-clause-err : goal.returns-in_err-accept-clause-err
returns-in_err-accept-clause-err c =
    let p = err_from_is_err_and c.from_residual-in_err-accept.result c.from_residual-in_err-accept.ensures.1 in
    let e = c.in_err-accept.field-0.0 in
    let s = asking_behind c.loop-word.c c.loop-word.behind in
    let ts = rest c.loop-word.c in
    let w = word_seen c.in-Word.word in
    let seen : first_as which_item ts ≡ Some (inl w) = search rules in
    let kind : c.lesser.result ≡ at_word s w = c.lesser.ensures ∙ ap₂ lesser c.kind_of-in-loop-word.ensures (c.may_stand.ensures ∙ ap (λ a. may_stand a w) c.asked.ensures) in
    rw (p.1, p.2)
    (stops_same e _ _ (sym c.loop-word.invariant.same)
    (word_stops s ts w seen e (subst (λ (k : Option Kind). Stops e (judged k (tt {0}) ts (drop 1 ts))) kind c.in_err-accept.ensures.gives)))

pub returns-in_err-behind-clause-err : goal.returns-in_err-behind-clause-err
returns-in_err-behind-clause-err c =
    let p = err_from_is_err_and c.from_residual-in_err-behind.result c.from_residual-in_err-behind.ensures.1 in
    let e = c.in_err-behind.field-0.0 in
    let s = asking_behind c.loop-word.c c.loop-word.behind in
    let ts = rest c.loop-word.c in
    let us = rest c.accept.new.self in
    let w = word_seen c.in-Word.word in
    let seen : first_as which_item ts ≡ Some (inl w) = search rules in
    let kind : c.lesser.result ≡ at_word s w = c.lesser.ensures ∙ ap₂ lesser c.kind_of-in-loop-word.ensures (c.may_stand.ensures ∙ ap (λ a. may_stand a w) c.asked.ensures) in
    let reads = subst (λ (k : Option Kind). judged k (tt {0}) ts (drop 1 ts) ≡ Ok (tt {0}, us)) kind c.in_ok-accept.ensures.gives in
    rw (p.1, p.2)
    (stops_same e _ _ (sym c.loop-word.invariant.same)
    (rest_stops s ts w seen us reads e (subst (λ (a : Asking). Stops e (item_rest a w us)) (ap asking_of c.in_ok-accept.ensures.moves) c.in_err-behind.ensures.err)))

pub loop-word-smaller : goal.loop-word-smaller
loop-word-smaller c =
    let s = asking_behind c.loop-word.c c.loop-word.behind in
    let ts = rest c.loop-word.c in
    let us = rest c.accept.new.self in
    let vs = rest c.item.new.c in
    let z = asking_behind c.item.new.c c.in_ok-behind.behind in
    let w = word_seen c.in-Word.word in
    let seen : first_as which_item ts ≡ Some (inl w) = search rules in
    let kind : c.lesser.result ≡ at_word s w = c.lesser.ensures ∙ ap₂ lesser c.kind_of-in-loop-word.ensures (c.may_stand.ensures ∙ ap (λ a. may_stand a w) c.asked.ensures) in
    let reads = subst (λ (k : Option Kind). judged k (tt {0}) ts (drop 1 ts) ≡ Ok (tt {0}, us)) kind c.in_ok-accept.ensures.gives in
    (rest_goes_on s ts w seen us reads z vs (subst (λ (a : Asking). item_rest a w us ≡ Ok (z, vs)) (ap asking_of c.in_ok-accept.ensures.moves) c.in_ok-behind.ensures.ok)).1

pub loop-word-preserved : goal.loop-word-preserved
loop-word-preserved c =
    let s = asking_behind c.loop-word.c c.loop-word.behind in
    let ts = rest c.loop-word.c in
    let us = rest c.accept.new.self in
    let vs = rest c.item.new.c in
    let z = asking_behind c.item.new.c c.in_ok-behind.behind in
    let w = word_seen c.in-Word.word in
    let seen : first_as which_item ts ≡ Some (inl w) = search rules in
    let kind : c.lesser.result ≡ at_word s w = c.lesser.ensures ∙ ap₂ lesser c.kind_of-in-loop-word.ensures (c.may_stand.ensures ∙ ap (λ a. may_stand a w) c.asked.ensures) in
    let reads = subst (λ (k : Option Kind). judged k (tt {0}) ts (drop 1 ts) ≡ Ok (tt {0}, us)) kind c.in_ok-accept.ensures.gives in
    record {
      same = (rest_goes_on s ts w seen us reads z vs (subst (λ (a : Asking). item_rest a w us ≡ Ok (z, vs)) (ap asking_of c.in_ok-accept.ensures.moves) c.in_ok-behind.ensures.ok)).0 ∙ c.loop-word.invariant.same;
      text = same_text_on c.args.c.now c.loop-word.c c.accept.new.self c.item.new.c c.loop-word.invariant.text c.in_ok-accept.ensures.moves c.in_ok-behind.ensures.same;
    }
