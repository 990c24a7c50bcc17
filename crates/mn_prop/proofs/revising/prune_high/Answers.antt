use Rattle.std.proofs.Common.{◌∙◌, FitsSigned, rules, subst, sym, true≢false, w64}
use Rattle.std.proofs.lemmas.Int.{to_z-of_z}
use Rattle.std.proofs.lemmas.Option.{slice_get_within}
use Rattle.mn_model.specs.Parts.{places}
use Rattle.mn_closure.specs.Supports.{Supported}
use Rattle.mn_prop.specs.Contexts.{IsGreatestAt, box_of, vars_of}
use Rattle.mn_prop.specs.Posts.{IsReadyToRun}
use Rattle.mn_prop.proofs.Going.{begins}
use Rattle.mn_prop.proofs.Ready.{ready_named}
use Rattle.mn_prop.proofs.Revisions.{end_may, greatest_is, prune_ends, prune_fails, pruned, removed_fewer}
use Rattle.mn_prop.proofs.Stepping.{same_vars}
use Rattle.mn_prop.proofs.revising.prune_high.Goals as goal

pub loop-t-init : goal.loop-t-init
loop-t-init g c = begins c.args.c.now

pub hi-a-requires : goal.hi-a-requires
hi-a-requires g c =
    let posted = g.T.Scoped.posted c.args.tested.now in
    let ready = subst (λ vars. IsReadyToRun vars posted) (sym (same_vars c.loop-t.invariant.loses)) c.requires.ready in
    ready_named posted _ ready c.requires.stands

pub supported-requires-clause-ready : goal.supported-requires-clause-ready
supported-requires-clause-ready g c =
    let posted = g.T.Scoped.posted c.args.tested.now in
    let ready = subst (λ vars. IsReadyToRun vars posted) (sym (same_vars c.loop-t.invariant.loses)) c.requires.ready in
    ready

pub supported-requires-clause-place : goal.supported-requires-clause-place
supported-requires-clause-place g c = slice_get_within (places (g.T.Scoped.posted c.args.tested.now).con) c.args.i c.args.t c.requires.stands

pub remove-requires-clause-named : goal.remove-requires-clause-named
remove-requires-clause-named g c =
    let posted = g.T.Scoped.posted c.args.tested.now in
    ready_named posted _ (subst (λ vars. IsReadyToRun vars posted) (sym (same_vars c.loop-t.invariant.loses)) c.requires.ready) c.requires.stands

pub remove-requires-clause-may : goal.remove-requires-clause-may
remove-requires-clause-may g c =
    let fits : FitsSigned w64 c.hi-a.result = search rules in
    rw (to_z-of_z w64 c.hi-a.result fits) (end_may (vars_of c.loop-t.c) (box_of c.loop-t.c) c.args.t c.hi-a.result c.hi-a.ensures.end)

pub loop-t-smaller : goal.loop-t-smaller
loop-t-smaller g c =
    let fits : FitsSigned w64 c.hi-a.result = search rules in
    removed_fewer c.args.t c.hi-a.result c.hi-a.ensures.greatest.there (rw (to_z-of_z w64 c.hi-a.result fits) at c.in_ok-remove.ensures)

pub loop-t-preserved : goal.loop-t-preserved
loop-t-preserved g c =
    let posted = g.T.Scoped.posted c.args.tested.now in
    let ready = subst (λ vars. IsReadyToRun vars posted) (sym (same_vars c.loop-t.invariant.loses)) c.requires.ready in
    let named = ready_named posted _ ready c.requires.stands in
    let fits : FitsSigned w64 c.hi-a.result = search rules in
    let exact = rw (to_z-of_z w64 c.hi-a.result fits) at c.supported.ensures in
    let unsupported : Supported posted.lists posted.con c.args.i c.hi-a.result (box_of c.loop-t.c) → ⊥ = λ supported. true≢false (sym (exact.1 supported) ∙ c.if-supported.false) in
    pruned IsGreatestAt c.args.t (greatest_is c.args.t) posted c.args.i {new = c.remove.new.self} c.hi-a.result c.loop-t.invariant named c.requires.stands c.hi-a.ensures.greatest unsupported (rw (to_z-of_z w64 c.hi-a.result fits) at c.in_ok-remove.ensures)

pub returns-in_err-remove : goal.returns-in_err-remove
returns-in_err-remove g c =
    let posted = g.T.Scoped.posted c.args.tested.now in
    let ready = subst (λ vars. IsReadyToRun vars posted) (sym (same_vars c.loop-t.invariant.loses)) c.requires.ready in
    let named = ready_named posted _ ready c.requires.stands in
    let fits : FitsSigned w64 c.hi-a.result = search rules in
    let exact = rw (to_z-of_z w64 c.hi-a.result fits) at c.supported.ensures in
    let unsupported : Supported posted.lists posted.con c.args.i c.hi-a.result (box_of c.loop-t.c) → ⊥ = λ supported. true≢false (sym (exact.1 supported) ∙ c.if-supported.false) in
    prune_fails IsGreatestAt c.args.t (greatest_is c.args.t) posted c.args.i {new = c.remove.new.self} c.hi-a.result c.loop-t.invariant named c.requires.stands c.hi-a.ensures.greatest unsupported (rw (to_z-of_z w64 c.hi-a.result fits) at c.in_err-remove.ensures) c.from_residual.ensures.0

pub returns-then-supported : goal.returns-then-supported
returns-then-supported g c =
    let posted = g.T.Scoped.posted c.args.tested.now in
    let fits : FitsSigned w64 c.hi-a.result = search rules in
    let exact = rw (to_z-of_z w64 c.hi-a.result fits) at c.supported.ensures in
    prune_ends IsGreatestAt c.args.t (greatest_is c.args.t) posted c.args.i c.hi-a.result c.loop-t.invariant c.hi-a.ensures.greatest (exact.0 c.if-supported.true)
