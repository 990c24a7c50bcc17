use Rattle.std.proofs.Common.{◌≡◌, ◌∷◌, [], ◌+◌, leb, ltb, length, ap, ◌∙◌, length-append}
use Rattle.mn_lexer.specs.declared.marks.Mark.TheVariants.{CloseSquare}
use Rattle.mn_grammar.specs.Places.{when}
use Rattle.mn_grammar.specs.declared.Kind.TheVariants.{Shape}
use Rattle.mn_cursor.specs.Progress.{rest}
use Rattle.mn_references.proofs.ListTurns.{turn_gives}
use Rattle.mn_asking.specs.Search.{values_ends}
use Rattle.mn_asking.specs.Searching.{way_at}
use Rattle.mn_asking.proofs.directions.turn.Goals as goal

pub returns-clause-gives : goal.returns-clause-gives
returns-clause-gives c =
    let n = c.args.wanted in
    let down = c.args.down.now in
    let d = c.in_ok-way.way in
    let size : c.len-count.result ≡ length down + 1 = c.len-count.ensures ∙ ap length c.in_ok-push.ensures.ok ∙ length-append down (d ∷ []) in
    turn_gives CloseSquare (values_ends n) (way_at n) down _ d (rest c.args.scan.now) (rest c.way.new.scan) _ c.shape_where.result c.shape_where-2.result c.ends.result
    c.in_ok-way.ensures.gives
    c.in_ok-push.ensures.ok
    (c.shape_where.ensures ∙ ap (λ k. when (leb n k) Shape) size)
    (c.shape_where-2.ensures ∙ ap (λ k. when (ltb k n) Shape) size)
    c.ends.ensures.gives
