use Rattle.std.proofs.Common.{FitsSigned, rules, w64, sym, ◌∙◌, true≢false}
use Rattle.std.proofs.lemmas.Int.{to_z-of_z}
use Rattle.mn_prop.specs.Contexts.{box_of}
use Rattle.mn_arith.proofs.Sharing.{none_behind, shared_next}
use Rattle.mn_arith.proofs.extreme.next_shared.Goals as goal

pub loop-t-preserved : goal.loop-t-preserved
loop-t-preserved c =
    let later : FitsSigned w64 c.in-Some-at_or_next.later = search rules in
    let next : FitsSigned w64 c.in-Some-next.next = search rules in
    let so_far = rw (c.loop-t.b-is, to_z-of_z w64 c.args.a c.ranges.a) at c.loop-t.invariant in
    let has = rw (c.loop-t.b-is) at c.has.ensures in
    let behind = rw (c.loop-t.b-is) at c.in-Some-next.ensures in
    let first = rw (to_z-of_z w64 c.in-Some-next.next next) at c.in-Some-at_or_next.ensures in
    rw (to_z-of_z w64 c.in-Some-at_or_next.later later, to_z-of_z w64 c.args.a c.ranges.a) (shared_next (box_of c.args.c.now) c.args.t c.args.u c.args.a c.loop-t.b so_far (λ there. true≢false (sym (has.1 there) ∙ c.if-has.false)) c.in-Some-next.next behind c.in-Some-at_or_next.later first)

pub returns-in-None-at_or_next : goal.returns-in-None-at_or_next
returns-in-None-at_or_next c =
    let next : FitsSigned w64 c.in-Some-next.next = search rules in
    let so_far = rw (c.loop-t.b-is, to_z-of_z w64 c.args.a c.ranges.a) at c.loop-t.invariant in
    let has = rw (c.loop-t.b-is) at c.has.ensures in
    let behind = rw (c.loop-t.b-is) at c.in-Some-next.ensures in
    let first = rw (to_z-of_z w64 c.in-Some-next.next next) at c.in-None-at_or_next.ensures in
    none_behind (box_of c.args.c.now) c.args.t c.args.u c.args.a c.loop-t.b so_far (λ there. true≢false (sym (has.1 there) ∙ c.if-has.false)) c.in-Some-next.next behind first
