use Rattle.std.proofs.Common.{w64}
use Rattle.std.proofs.lemmas.Int.{to_z-of_z}
use Rattle.mn_prop.specs.Forwards.{checked}
use Rattle.mn_prop.specs.Trials.{tried_value}
use Rattle.mn_prop.specs.Contexts.{box_of, vars_of}
use Rattle.mn_prop.proofs.Ready.{ready_named}
use Rattle.mn_prop.proofs.Alone.{index_stands, trial_tells}
use Rattle.mn_prop.proofs.forward.ForwardCheck.holds_with.Goals as goal

pub of-requires-clause-named : goal.of-requires-clause-named
of-requires-clause-named c =
    let d = c.args.c.now in
    let self = c.args.self.now in
    ready_named (checked self) _ c.requires.ready (index_stands self.con.now self.terms.items c.args.j c.index.result.now self.placed c.requires.left.0 c.index.ensures)

pub of-requires-clause-there : goal.of-requires-clause-there
of-requires-clause-there c =
    let self = c.args.self.now in
    rw (to_z-of_z w64 c.args.a c.ranges.a) (c.requires.there c.index.result.now (index_stands self.con.now self.terms.items c.args.j c.index.result.now self.placed c.requires.left.0 c.index.ensures))

pub returns : goal.returns
returns c =
    let d = c.args.c.now in
    let self = c.args.self.now in
    let trial = rw (to_z-of_z w64 c.args.a c.ranges.a) at c.of.ensures in
    trial_tells (vars_of d) self.lists.now self.con.now c.args.j c.index.result.now c.args.a (box_of d) (tried_value (box_of c.of.result.c.now) c.of.result.tried c.of.result.value) c.holds_beside.result self.fits
    (index_stands self.con.now self.terms.items c.args.j c.index.result.now self.placed c.requires.left.0 c.index.ensures)
    (λ k t stands. ready_named (checked self) _ c.requires.ready stands)
    c.requires.left.1 trial c.holds_beside.ensures
