use Rattle.std.proofs.Common.{FitsSigned, to_z, pos, ℤ, false, rules, subst, sym, ◌≡◌, w64, arith}
use Rattle.std.proofs.lemmas.Int.{ints, to_z-of_z}
use Rattle.mn_boxes.specs.Places.{is_place_bounded}
use Rattle.mn_prop.specs.Posts.{IsReadyToRun}
use Rattle.mn_prop.proofs.Ready.{ready_named}
use Rattle.mn_prop.proofs.Revisions.{first_below, gap_falls, last_below, next_below, test_fails}
use Rattle.mn_prop.proofs.Stepping.{same_vars}
use Rattle.mn_prop.proofs.revising.test_each.Goals as goal

pub lo-a-requires : goal.lo-a-requires
lo-a-requires g c = ready_named (g.T.Scoped.posted c.args.tested.now) _ c.requires.ready c.requires.stands

pub loop-c-init : goal.loop-c-init
loop-c-init g c =
    let fits : FitsSigned w64 c.lo-a.result = search rules in
    rw (to_z-of_z w64 c.lo-a.result fits) (first_below (g.T.Scoped.posted c.args.tested.now) c.args.i c.args.t c.args.c.now c.lo-a.result c.lo-a.ensures.least)

pub test_value-requires-clause-ready : goal.test_value-requires-clause-ready
test_value-requires-clause-ready g c =
    let posted = g.T.Scoped.posted c.args.tested.now in
    let ready = subst (λ vars. IsReadyToRun vars posted) (sym (same_vars c.loop-c.invariant.going.loses)) c.requires.ready in
    ready

pub test_value-requires-clause-unbounded : goal.test_value-requires-clause-unbounded
test_value-requires-clause-unbounded g c = subst (λ vars. is_place_bounded vars c.args.t ≡ false) (sym (same_vars c.loop-c.invariant.going.loses)) c.requires.unbounded

pub returns-in_err-test_value : goal.returns-in_err-test_value
returns-in_err-test_value g c = test_fails (g.T.Scoped.posted c.args.tested.now) c.args.i c.args.t c.loop-c.invariant c.in_err-test_value.ensures c.from_residual.ensures.0

pub next-requires : goal.next-requires
next-requires g c =
    let posted = g.T.Scoped.posted c.args.tested.now in
    let ready = subst (λ vars. IsReadyToRun vars posted) (sym (same_vars c.loop-c.invariant.going.loses)) c.requires.ready in
    ready_named posted _ (subst (λ vars. IsReadyToRun vars posted) (sym (same_vars c.in_ok-test_value.ensures.loses)) ready) c.requires.stands

pub loop-c-preserved : goal.loop-c-preserved
loop-c-preserved g c =
    let fits : FitsSigned w64 c.in-Some.next = search rules in
    rw (to_z-of_z w64 c.in-Some.next fits) (next_below (g.T.Scoped.posted c.args.tested.now) c.args.i c.args.t c.loop-c.invariant c.in_ok-test_value.ensures c.in-Some.ensures)

pub returns-in-None : goal.returns-in-None
returns-in-None g c = last_below (g.T.Scoped.posted c.args.tested.now) c.args.i c.args.t c.loop-c.invariant c.in_ok-test_value.ensures c.in-None.ensures

pub loop-c-smaller : goal.loop-c-smaller
loop-c-smaller g c =
    let a : ℤ = to_z w64 c.loop-c.a-bits in
    let fits : FitsSigned w64 c.in-Some.next = search rules in
    let less = c.in-Some.ensures.1 in
    rw (to_z-of_z w64 c.in-Some.next fits) (gap_falls a c.in-Some.next (pos 9223372036854775807) less (omega (arith, ints, fits)))
