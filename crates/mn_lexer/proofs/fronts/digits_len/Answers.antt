use Rattle.std.proofs.Common.{◌≡◌, ◌∙◌, ap, drop}
use Rattle.std.specs.Char.{is_ascii_digit}
use Rattle.std.specs.List.{prefix_len}
use Rattle.std.proofs.lemmas.List.{take_rest}
use Rattle.mn_lexer.specs.Forms.{IsLongest}
use Rattle.mn_lexer.proofs.Words.{longest_plain, first_at}
use Rattle.mn_lexer.specs.declared.TokenKind.TheVariants as kind
use Rattle.mn_lexer.proofs.fronts.digits_len.Goals as goal
use Rattle.mn_lexer.proofs.fronts.digits_len.Goals.{After-digits-len}

-- the digits are the longest number there
longest : (c : After-digits-len) → IsLongest (drop c.args.at c.args.text.now) kind.Number c.digits-len.result
longest c =
    let text = c.args.text.now in
    let count : c.digits-len.result ≡ prefix_len is_ascii_digit (drop c.args.at text) = c.digits-len.ensures ∙ ap (prefix_len is_ascii_digit) (take_rest text c.args.at) in
    rw count (longest_plain (drop c.args.at text) (rw (first_at text c.args.at) c.requires.start))

pub is_within_limit-requires : goal.is_within_limit-requires
is_within_limit-requires c = rw (take_rest c.args.text.now c.args.at) (longest (goal.at.is_within_limit-requires c).After-digits-len).form

pub returns-then-is_within_limit : goal.returns-then-is_within_limit
returns-then-is_within_limit c =
    (longest (goal.at.returns-then-is_within_limit c).After-digits-len, (rw (take_rest c.args.text.now c.args.at) at c.is_within_limit.ensures).0 c.if-is_within_limit.true)

pub returns-else-is_within_limit : goal.returns-else-is_within_limit
returns-else-is_within_limit c =
    (c.digits-len.result, longest (goal.at.returns-else-is_within_limit c).After-digits-len, λ within. let kept = (rw (take_rest c.args.text.now c.args.at) at c.is_within_limit.ensures).1 within in absurd cc)
