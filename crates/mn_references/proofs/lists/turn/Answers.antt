use Rattle.std.proofs.Common.{◌≡◌, ◌++◌, length, Ok, ap, ap₂, ◌∙◌, subst}
use Rattle.mn_lexer.specs.declared.marks.Mark.TheVariants.{CloseSquare}
use Rattle.mn_cursor.specs.Progress.{rest}
use Rattle.mn_references.specs.Conditions.{lesser, as_kind}
use Rattle.mn_references.specs.Entries.{Place, at_enough, at_more, in_list, list_ends}
use Rattle.mn_references.specs.Placing.{placed_seen}
use Rattle.mn_references.specs.Referring.{entry_at}
use Rattle.mn_references.proofs.ListTurns.{turn_gives}
use Rattle.mn_references.proofs.lists.turn.Goals as goal

pub returns-clause-gives : goal.returns-clause-gives
returns-clause-gives c =
    let p = c.args.scan.now.problem in
    let terms = c.args.terms.now in
    let v = placed_seen c.in_ok-placed.placed in
    let ts = rest c.args.scan.now in
    let us = rest c.entry.new.scan in
    let behind : c.kind_of-behind.result ≡ as_kind v.behind = c.kind_of-behind.ensures ∙ ap as_kind c.in_ok-push_placed.ensures.behind in
    let size : c.len-count.result ≡ length (terms ++ v.terms) = c.len-count.ensures ∙ ap length c.in_ok-push_placed.ensures.added in
    turn_gives CloseSquare (list_ends c.args.bounds) (λ before. entry_at p (in_list p c.args.bounds before)) terms _ v ts us _ c.lesser-comma.result c.lesser-close.result c.ends.result
    (subst (λ (w : Place). entry_at p w ts ≡ Ok (v, us)) (c.in_list.ensures p) c.in_ok-placed.ensures.gives)
    c.in_ok-push_placed.ensures.added
    (c.lesser-comma.ensures ∙ ap₂ lesser behind (c.at_more.ensures ∙ ap (at_more c.args.bounds) size))
    (c.lesser-close.ensures ∙ ap₂ lesser behind (c.at_enough.ensures ∙ ap (at_enough c.args.bounds) size))
    c.ends.ensures.gives
