use Rattle.std.proofs.Common.{◌≡◌, Ok, ap, ap₂, ◌∙◌, subst}
use Rattle.mn_lexer.specs.declared.marks.Mark.TheVariants.{CloseSquare}
use Rattle.mn_cursor.specs.Progress.{rest}
use Rattle.mn_references.specs.Conditions.{lesser, as_kind}
use Rattle.mn_references.specs.Lookups.{found_seen}
use Rattle.mn_references.specs.References.{order_aim_behind}
use Rattle.mn_references.specs.Referring.{ref_at}
use Rattle.mn_references.proofs.ListTurns.{turn_gives}
use Rattle.mn_asking.specs.Search.{at_full, order_aim, order_ends}
use Rattle.mn_asking.proofs.ordering.turn.Goals as goal

pub returns-clause-gives : goal.returns-clause-gives
returns-clause-gives c =
    let p = c.args.scan.now.problem in
    let vars = c.args.vars.now in
    let f = found_seen c.in_ok-reference.reference in
    let ts = rest c.args.scan.now in
    let us = rest c.reference_at.new.scan in
    let behind : c.kind_of-behind.result ≡ as_kind f.behind = c.kind_of-behind.ensures ∙ ap as_kind c.in_ok-push_reference.ensures.behind in
    turn_gives CloseSquare order_ends (λ before. ref_at p (order_aim before)) vars _ f ts us _ c.lesser-comma.result c.kind_of-behind.result c.ends.result
    (subst (λ n. ref_at p (order_aim_behind n) ts ≡ Ok (f, us)) c.len.ensures c.in_ok-reference.ensures.gives)
    c.in_ok-push_reference.ensures.added
    (c.lesser-comma.ensures ∙ ap₂ lesser behind (c.at_full.ensures ∙ ap at_full c.in_ok-push_reference.ensures.added))
    behind
    c.ends.ensures.gives
