use Rattle.std.proofs.Common.{◌≡◌, ◌∙◌, drop, ap, sym, arith, length-drop}
use Rattle.std.specs.Char.{is_ascii_digit}
use Rattle.std.specs.List.{prefix_len}
use Rattle.std.proofs.lemmas.List.{take_rest}
use Rattle.std.proofs.lemmas.List.Sums.{prefix_len-le-length}
use Rattle.mn_lexer.proofs.Words.{longest_signed, lone_minus}
use Rattle.mn_lexer.proofs.fronts.signed_len.Goals as goal
use Rattle.mn_lexer.proofs.fronts.signed_len.Goals.{After-digits-count}

-- the digits behind the sign
count_is : (c : After-digits-count) → c.digits-count.result ≡ prefix_len is_ascii_digit (drop 1 c.args.rest.now)
count_is c = c.digits-count.ensures ∙ ap (prefix_len is_ascii_digit) (take_rest c.args.rest.now 1)

pub overflow_add-result : goal.overflow_add-result
overflow_add-result c =
    let count = count_is (goal.at.overflow_add-result c).After-digits-count in
    let bound = prefix_len-le-length is_ascii_digit (drop 1 c.args.rest.now) in
    omega (arith, length-drop 1 c.args.rest.now)

pub returns-then-count-eq0 : goal.returns-then-count-eq0
returns-then-count-eq0 c =
    let count = count_is (goal.at.returns-then-count-eq0 c).After-digits-count in
    lone_minus c.args.rest.now c.requires (sym count ∙ c.if-count-eq0.true)

pub returns-else-count-eq0 : goal.returns-else-count-eq0
returns-else-count-eq0 c =
    let count = count_is (goal.at.returns-else-count-eq0 c).After-digits-count in
    let some = c.if-count-eq0.false in
    rw count (longest_signed c.args.rest.now c.requires (omega arith))
