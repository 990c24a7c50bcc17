use Rattle.std.proofs.Common.{◌≡◌, ◌+◌, ◌∙◌, drop, ap, arith, length-drop}
use Rattle.std.specs.Char.{is_ascii_uppercase}
use Rattle.std.specs.List.{prefix_len}
use Rattle.std.proofs.lemmas.List.{take_rest, get_or_past}
use Rattle.std.proofs.lemmas.List.Sums.{prefix_len-le-length}
use Rattle.mn_lexer.proofs.Firsts.{begins_no_token}
use Rattle.mn_lexer.proofs.Heads.{longest_head, begins_head}
use Rattle.mn_lexer.specs.FirstBytes.{kind_of_first}
use Rattle.mn_lexer.specs.declared.TokenKind.TheVariants as kind
use Rattle.mn_lexer.proofs.fronts.head_len.Goals as goal
use Rattle.mn_lexer.proofs.fronts.head_len.Goals.{After-capitals-end, then-rest-lt2-via-then-rest-lt2, then-rest-lt2-via-else-rest-lt2+then-rest-ne42, then-end-eq2-via-then-end-eq2, then-end-eq2-via-else-end-eq2+then-rest-end-lt2, then-end-eq2-via-else-end-eq2+else-rest-end-lt2+then-rest-end-ne42, then-end-eq2-via-else-end-eq2+else-rest-end-lt2+else-rest-end-ne42+then-rest-end-ne42-2}

-- the capital letters behind the two stars
count_is : (c : After-capitals-end) → c.capitals-end.result ≡ prefix_len is_ascii_uppercase (drop 2 c.args.rest.now)
count_is c = c.capitals-end.ensures ∙ ap (prefix_len is_ascii_uppercase) (take_rest c.args.rest.now 2)

pub overflow_add-end : goal.overflow_add-end
overflow_add-end c =
    let count = count_is (goal.at.overflow_add-end c).After-capitals-end in
    let bound = prefix_len-le-length is_ascii_uppercase (drop 2 c.args.rest.now) in
    omega (arith, length-drop 2 c.args.rest.now)

pub overflow_sub-rest : goal.overflow_sub-rest
overflow_sub-rest c =
    let count = count_is (goal.at.overflow_sub-rest c).After-capitals-end in
    let bound = prefix_len-le-length is_ascii_uppercase (drop 2 c.args.rest.now) in
    omega (arith, length-drop 2 c.args.rest.now)

pub returns-then-rest-lt2 : goal.returns-then-rest-lt2
returns-then-rest-lt2 c =
    begins_no_token c.args.rest.now kind.Head (ap kind_of_first c.requires)
    (λ n form.
    let head = begins_head c.args.rest.now n form in
    elim c.then-rest-lt2.branch [
      | then-rest-lt2-via-then-rest-lt2 w ↦ let past = get_or_past c.args.rest.now 1 0 (omega arith) in omega arith
      | then-rest-lt2-via-else-rest-lt2+then-rest-ne42 w ↦ w.if-rest-ne42.true head.second
    ])

pub returns-then-end-eq2 : goal.returns-then-end-eq2
returns-then-end-eq2 c =
    let count = count_is (goal.at.returns-then-end-eq2 c).After-capitals-end in
    begins_no_token c.args.rest.now kind.Head (ap kind_of_first c.requires)
    (λ n form.
    let head = begins_head c.args.rest.now n form in
    elim c.then-end-eq2.branch [
      | then-end-eq2-via-then-end-eq2 w ↦ omega arith
      | then-end-eq2-via-else-end-eq2+then-rest-end-lt2 w ↦ omega arith
      | then-end-eq2-via-else-end-eq2+else-rest-end-lt2+then-rest-end-ne42 w ↦ w.if-rest-end-ne42.true (rw count head.third)
      | then-end-eq2-via-else-end-eq2+else-rest-end-lt2+else-rest-end-ne42+then-rest-end-ne42-2 w ↦
          let at : 2 + c.capitals-end.result + 1 ≡ 3 + prefix_len is_ascii_uppercase (drop 2 c.args.rest.now) = omega arith in
          w.if-rest-end-ne42-2.true (rw at head.fourth)
    ])

pub returns : goal.returns
returns c =
    let count = count_is (goal.at.returns c).After-capitals-end in
    longest_head c.args.rest.now c.requires _ (ap (λ n. 2 + n) count) (omega arith) (omega arith) c.if-rest-ne42.false c.if-rest-end-ne42.false c.if-rest-end-ne42-2.false
