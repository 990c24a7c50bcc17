use Rattle.std.proofs.Common.{◌≡◌, ap, ◌∙◌}
use Rattle.mn_lexer.specs.declared.marks.Mark.TheVariants.{CloseSquare}
use Rattle.mn_cursor.specs.Progress.{rest}
use Rattle.mn_references.specs.Conditions.{as_kind}
use Rattle.mn_references.specs.Referring.{row_at}
use Rattle.mn_references.specs.Rowing.{rows_seen}
use Rattle.mn_references.proofs.ListTurns.{turn_gives}
use Rattle.mn_asking.specs.Search.{rows_ends}
use Rattle.mn_asking.proofs.printing.turn.Goals as goal

pub returns-clause-gives : goal.returns-clause-gives
returns-clause-gives c =
    let p = c.args.scan.now.problem in
    let r = rows_seen c.in_ok-read.read in
    let behind : c.kind_of-behind.result ≡ as_kind r.behind = c.kind_of-behind.ensures ∙ ap as_kind c.in_ok-push_rows.ensures.behind in
    turn_gives CloseSquare rows_ends (λ before. row_at p) c.args.rows.now.items _ r (rest c.args.scan.now) (rest c.row.new.scan) _ c.kind_of-behind.result c.kind_of-behind.result c.ends.result
    c.in_ok-read.ensures.gives
    c.in_ok-push_rows.ensures.added
    behind
    behind
    c.ends.ensures.gives
