use Rattle.std.proofs.Common.{◌∙◌, sym, true≢false, w64}
use Rattle.std.proofs.lemmas.Int.{to_z-of_z}
use Rattle.mn_closure.specs.Supports.{Supported}
use Rattle.mn_prop.specs.Contexts.{box_of}
use Rattle.mn_prop.proofs.Ready.{ready_named}
use Rattle.mn_prop.proofs.Revisions.{taken}
use Rattle.mn_prop.proofs.Stepping.{no_step}
use Rattle.mn_prop.proofs.revising.test_value.Goals as goal

pub returns-then-supported : goal.returns-then-supported
returns-then-supported g c =
    let exact = rw (to_z-of_z w64 c.args.a c.ranges.a) at c.supported.ensures in
    no_step c.args.c.now (λ has. exact.0 c.if-supported.true)

pub returns : goal.returns
returns g c =
    let posted = g.T.Scoped.posted c.args.tested.now in
    let exact = rw (to_z-of_z w64 c.args.a c.ranges.a) at c.supported.ensures in
    let unsupported : Supported posted.lists posted.con c.args.i c.args.a (box_of c.args.c.now) → ⊥ = λ supported. true≢false (sym (exact.1 supported) ∙ c.if-supported.false) in
    taken posted c.args.i c.args.t c.args.a (ready_named posted _ c.requires.ready c.requires.stands) c.requires.stands unsupported (rw (to_z-of_z w64 c.args.a c.ranges.a) at c.remove.ensures)
