use Rattle.std.proofs.Common.{◌≡◌, ◌+◌, ◌≤◌, ◌∙◌, sym, drop, length, None, arith, rules, length-drop}
use Rattle.std.proofs.lemmas.List.Elements.{All-push}
use Rattle.mn_lexer.specs.Gaps.{gap}
use Rattle.mn_lexer.specs.Reading.{IsTokenOf}
use Rattle.mn_lexer.proofs.Markings.{longest_single}
use Rattle.mn_lexer.proofs.Skips.{skip_blank, skip_comment}
use Rattle.mn_lexer.proofs.Readings.{IsTokenOf-next, push_next, stop_here, go_on, add_next, past_here}
use Rattle.mn_lexer.proofs.Words.{first_at}
use Rattle.mn_lexer.specs.declared.TokenKind.TheVariants as kind
use Rattle.mn_lexer.proofs.tokens.Goals as goal
use Rattle.mn_lexer.proofs.tokens.Goals.{After-comment_bytes}

-- the loop goes on behind the comment
behind : (c : After-comment_bytes) → let s = c.args.text.now in let n = c.loop-at.at in let q = c.comment_bytes.result in (n + 1 + q ≤ length s) × (1 + q + gap (drop (n + 1 + q) s) ≡ gap (drop n s))
behind c = skip_comment c.args.text.now c.loop-at.at c.loop-at-test.true c.comment_bytes.result c.comment_bytes.ensures c.in-Hash.ensures

pub overflow_add-at-in-Hash-3 : goal.overflow_add-at-in-Hash-3
overflow_add-at-in-Hash-3 c = omega (arith, (behind c).0)

pub loop-at-preserved-in-Hash : goal.loop-at-preserved-in-Hash
loop-at-preserved-in-Hash c = let step = behind c in go_on c.args.text.now c.loop-at.list c.loop-at.at c.loop-at.invariant _ step.0 (omega (arith, step.1))

pub loop-at-preserved-in-Blank : goal.loop-at-preserved-in-Blank
loop-at-preserved-in-Blank c = go_on c.args.text.now c.loop-at.list c.loop-at.at c.loop-at.invariant _ (omega (arith, c.loop-at-test.true)) (skip_blank c.args.text.now c.loop-at.at c.loop-at-test.true c.in-Blank.ensures)

pub loop-at-preserved-in-Mark : goal.loop-at-preserved-in-Mark
loop-at-preserved-in-Mark c =
    let text = c.args.text.now in
    let longest = longest_single (drop c.loop-at.at text) (rw (first_at text c.loop-at.at) c.in-Mark.ensures) in
    rw (c.in_ok-at-in-Mark.ensures.list, c.in_ok-at-in-Mark.ensures.place) (add_next text c.loop-at.list c.loop-at.at c.loop-at.invariant kind.Mark 1 longest (search rules) (λ same. cc))

pub add-requires-in-Letter : goal.add-requires-in-Letter
add-requires-in-Letter c = let fits = c.word_len.ensures.in_range in omega (arith, length-drop c.loop-at.at c.args.text.now, c.requires, c.loop-at-test.true)

pub loop-at-preserved-in-Letter : goal.loop-at-preserved-in-Letter
loop-at-preserved-in-Letter c =
    rw (c.in_ok-at-in-Letter.ensures.list, c.in_ok-at-in-Letter.ensures.place) (add_next c.args.text.now c.loop-at.list c.loop-at.at c.loop-at.invariant kind.Word _ c.word_len.ensures (search rules) (λ same. cc))

pub loop-at-preserved-in-Some : goal.loop-at-preserved-in-Some
loop-at-preserved-in-Some c =
    rw (c.in_ok-at-in-Some.ensures.list, c.in_ok-at-in-Some.ensures.place) (add_next c.args.text.now c.loop-at.list c.loop-at.at c.loop-at.invariant kind.Number _ c.in-Some.ensures.0 c.in-Some.ensures.1 (λ same. cc))

pub returns-in-None-clause-lexed : goal.returns-in-None-clause-lexed
returns-in-None-clause-lexed c = past_here c.args.text.now c.loop-at.list c.loop-at.at c.loop-at.invariant c.in-None.ensures

pub returns-in-Stop-clause-lexed : goal.returns-in-Stop-clause-lexed
returns-in-Stop-clause-lexed c = stop_here c.args.text.now c.loop-at.list c.loop-at.at c.loop-at.invariant c.in-Stop.stop c.in-Stop.ensures

pub returns-then-is_end-clause-each : goal.returns-then-is_end-clause-each
returns-then-is_end-clause-each c =
    rw c.in_ok-push-in-Token.ensures.ok
    (All-push (IsTokenOf c.args.text.now) c.loop-at.list c.in-Token.token c.loop-at.invariant.each (IsTokenOf-next c.args.text.now c.loop-at.at c.in-Token.token c.in-Token.ensures))

pub loop-at-preserved : goal.loop-at-preserved
loop-at-preserved c =
    rw c.in_ok-push-in-Token.ensures.ok
    (push_next c.args.text.now c.loop-at.list c.loop-at.at c.loop-at.invariant c.in-Token.token c.in-Token.ensures (sym c.is_end.ensures ∙ c.if-is_end.false))

pub returns-clause-lexed : goal.returns-clause-lexed
returns-clause-lexed c = stop_here c.args.text.now c.loop-at.list c.loop-at.at c.loop-at.invariant None (omega (arith, c.loop-at-test.false))
