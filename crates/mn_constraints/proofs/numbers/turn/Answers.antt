use Rattle.std.proofs.Common.{rules, ◌≡◌, ◌++◌, ◌∷◌, [], length, drop, Option, Ok, ap, ◌∙◌, subst, FitsSigned, w64}
use Rattle.std.proofs.lemmas.Int.{to_z-of_z}
use Rattle.std.proofs.lemmas.List.{drop-append-le}
use Rattle.mn_cursor.specs.Progress.{rest}
use Rattle.mn_grammar.specs.Places.{when}
use Rattle.mn_grammar.specs.Reading.{number_at}
use Rattle.mn_grammar.specs.declared.Kind.{Kind}
use Rattle.mn_grammar.specs.declared.Kind.TheVariants.{Shape}
use Rattle.mn_language.specs.Arguments.{at_another, at_close, at_one, is_full, number_ends}
use Rattle.mn_references.proofs.ListTurns.{turn_gives}
use Rattle.mn_constraints.specs.Numbering.{wanted_seen}
use Rattle.mn_constraints.proofs.numbers.turn.Goals as goal

pub returns-clause-gives : goal.returns-clause-gives
returns-clause-gives c =
    let w = wanted_seen c.args.wanted in
    let first = c.args.first in
    let before = drop first c.args.numbers.now in
    let z = c.in_ok-number.number in
    let ts = rest c.args.scan.now in
    let us = rest c.number.new.scan in
    let kind : c.one_kind.result ≡ when (is_full w.count (length before)) Shape = c.one_kind.ensures ∙ ap (λ n. when (is_full w.count n) Shape) c.behind.ensures in
    let fits : FitsSigned w64 z = search rules in
    let pushed : c.push.new.self ≡ c.args.numbers.now ++ z ∷ [] = c.in_ok-push.ensures.ok ∙ ap (λ x. c.args.numbers.now ++ x ∷ []) (to_z-of_z w64 z fits) in
    let next : drop first c.push.new.self ≡ before ++ z ∷ [] = ap (drop first) pushed ∙ drop-append-le first c.args.numbers.now (z ∷ []) c.requires in
    let size : c.behind-count.result ≡ length (before ++ z ∷ []) = c.behind-count.ensures ∙ ap length next in
    turn_gives c.args.shut (number_ends w) (λ b. number_at (at_one w b)) before _ z ts us _ c.another_kind.result c.close_kind.result c.ends.result
    (subst (λ (k : Option Kind). number_at (λ x. k) ts ≡ Ok (z, us)) kind c.in_ok-number.ensures.gives)
    next
    (c.another_kind.ensures ∙ ap (at_another w) size)
    (c.close_kind.ensures ∙ ap (at_close w) size)
    c.ends.ensures.gives
