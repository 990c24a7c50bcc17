use Rattle.std.proofs.Common.{subst, sym}
use Rattle.mn_prop.specs.Posts.{IsReadyToRun}
use Rattle.mn_prop.proofs.Ready.{ready_named}
use Rattle.mn_prop.proofs.Revisions.{each_closed, end_fails, ends_closed}
use Rattle.mn_prop.proofs.Stepping.{same_vars}
use Rattle.mn_prop.proofs.revising.revise.Goals as goal

pub asks_each-requires : goal.asks_each-requires
asks_each-requires g c = ready_named (g.T.Scoped.posted c.args.tested.now) _ c.requires.ready c.term-t.ensures

pub returns-then-asks_each : goal.returns-then-asks_each
returns-then-asks_each g c = each_closed (g.T.Scoped.posted c.args.tested.now) c.args.i c.term-t.result c.term-t.ensures (c.asks_each.ensures.each c.if-asks_each.true) c.test_each.ensures

pub returns-in_err-prune_low : goal.returns-in_err-prune_low
returns-in_err-prune_low g c = end_fails (g.T.Scoped.posted c.args.tested.now) c.args.i c.term-t.result c.term-t.ensures c.in_err-prune_low.ensures c.from_residual.ensures.0

pub prune_high-requires-clause-ready : goal.prune_high-requires-clause-ready
prune_high-requires-clause-ready g c = subst (λ vars. IsReadyToRun vars (g.T.Scoped.posted c.args.tested.now)) (sym (same_vars c.in_ok-prune_low.ensures.loses)) c.requires.ready

pub returns : goal.returns
returns g c = ends_closed (g.T.Scoped.posted c.args.tested.now) c.args.i c.term-t.result c.term-t.ensures c.lawful.ensures.boxes.now (c.asks_each.ensures.ends c.if-asks_each.false) c.in_ok-prune_low.ensures c.prune_high.ensures
