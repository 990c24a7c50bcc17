use Rattle.std.proofs.Common.{subst, sym, arith, true≢false, ◌∙◌}
use Rattle.mn_prop.specs.Losses.{nothing_goes}
use Rattle.mn_prop.specs.Posts.{IsReadyToRun}
use Rattle.mn_prop.proofs.Revisions.{all_revised, none_revised, one_more_revised, revise_fails}
use Rattle.mn_prop.proofs.Stepping.{failing, same_vars}
use Rattle.mn_prop.proofs.revising.revise_all.Goals as goal

pub returns-then-not-bare : goal.returns-then-not-bare
returns-then-not-bare g c = failing _ (nothing_goes c.args.c.now) (λ box is inside closed. true≢false (sym (c.bare.ensures.1 closed.bare) ∙ c.if-not-bare.true))

pub loop-i-init : goal.loop-i-init
loop-i-init g c = none_revised (g.T.Scoped.posted c.args.tested.now) c.args.c.now

pub revise-requires-clause-ready : goal.revise-requires-clause-ready
revise-requires-clause-ready g c = subst (λ vars. IsReadyToRun vars (g.T.Scoped.posted c.args.tested.now)) (sym (same_vars c.loop-i.invariant.going.loses)) c.requires

pub returns-in_err-revise : goal.returns-in_err-revise
returns-in_err-revise g c = revise_fails (g.T.Scoped.posted c.args.tested.now) c.loop-i.invariant c.in_err-revise.ensures c.from_residual.ensures.0

pub loop-i-preserved : goal.loop-i-preserved
loop-i-preserved g c = one_more_revised (g.T.Scoped.posted c.args.tested.now) c.loop-i.invariant c.in_ok-revise.ensures

pub returns : goal.returns
returns g c =
    all_revised (g.T.Scoped.posted c.args.tested.now) (omega (arith, c.loop-i-test.false, c.places-i-end.ensures)) (c.bare.ensures.0 c.if-not-bare.false) c.loop-i.invariant
