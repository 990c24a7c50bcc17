use Rattle.std.proofs.Common.{arith}
use Rattle.std.proofs.lemmas.List.{get_or_past}
use Rattle.mn_lexer.proofs.Markings.{longest_dots, lone_dot}
use Rattle.mn_lexer.proofs.fronts.dots_len.Goals as goal
use Rattle.mn_lexer.proofs.fronts.dots_len.Goals.{else-rest-gt1-via-then-rest-gt1+else-rest-eq46, else-rest-gt1-via-else-rest-gt1}

pub returns-then-rest-eq46 : goal.returns-then-rest-eq46
returns-then-rest-eq46 c = longest_dots c.args.rest.now c.requires c.if-rest-gt1.true c.if-rest-eq46.true

pub returns-else-rest-gt1 : goal.returns-else-rest-gt1
returns-else-rest-gt1 c =
    lone_dot c.args.rest.now c.requires
    (elim c.else-rest-gt1.branch [
      | else-rest-gt1-via-then-rest-gt1+else-rest-eq46 w ↦ w.if-rest-eq46.false
      | else-rest-gt1-via-else-rest-gt1 w ↦ λ dot. let past = get_or_past c.args.rest.now 1 0 w.if-rest-gt1.false in omega arith
    ])
