use Rattle.std.proofs.Common.{arith}
use Rattle.mn_model.specs.Variable.{number_of}
use Rattle.mn_domains.proofs.Standing.{known, stands_at}
use Rattle.mn_domains.proofs.doms.Doms.gather.Goals as goal

pub index-requires : goal.index-requires
index-requires c =
    let st = stands_at c.self.inside.listed.items c.self.inside.shapes.items c.self.inside.current c.self.inside.saved.items c.args.self.now (number_of c.args.v) c.self.view_is c.self.invariant c.requires.within in
    omega (arith, st.in_shapes, c.self.inside.shapes.ok.0, c.number-i.ensures)

pub index-requires-2 : goal.index-requires-2
index-requires-2 c =
    let st = stands_at c.self.inside.listed.items c.self.inside.shapes.items c.self.inside.current c.self.inside.saved.items c.args.self.now (number_of c.args.v) c.self.view_is c.self.invariant c.requires.within in
    omega (arith, st.in_ends, c.self.inside.current.ends.ok.0, c.number-i.ensures)

pub gather-requires-clause-shape : goal.gather-requires-clause-shape
gather-requires-clause-shape c =
    let k = known c.self.inside.listed.items c.self.inside.shapes.items c.self.inside.current c.self.inside.saved.items c.args.self.now (number_of c.args.v) c.index.result.now c.index-2.result.now c.self.view_is c.self.invariant c.requires.within (rw c.number-i.ensures at c.index.ensures) (rw c.number-i.ensures at c.index-2.ensures) in
    rw (c.as_slice.ensures.value, c.as_slice-2.ensures.value) k.shaped

pub gather-requires-clause-held : goal.gather-requires-clause-held
gather-requires-clause-held c =
    let k = known c.self.inside.listed.items c.self.inside.shapes.items c.self.inside.current c.self.inside.saved.items c.args.self.now (number_of c.args.v) c.index.result.now c.index-2.result.now c.self.view_is c.self.invariant c.requires.within (rw c.number-i.ensures at c.index.ensures) (rw c.number-i.ensures at c.index-2.ensures) in
    rw (c.as_slice.ensures.value, c.as_slice-2.ensures.value) k.held

pub gather-requires-clause-covered : goal.gather-requires-clause-covered
gather-requires-clause-covered c = λ a has.
    let k = known c.self.inside.listed.items c.self.inside.shapes.items c.self.inside.current c.self.inside.saved.items c.args.self.now (number_of c.args.v) c.index.result.now c.index-2.result.now c.self.view_is c.self.invariant c.requires.within (rw c.number-i.ensures at c.index.ensures) (rw c.number-i.ensures at c.index-2.ensures) in
    c.requires.covered a (rw k.set (rw (c.as_slice.ensures.value, c.as_slice-2.ensures.value) at has))

pub returns-clause-members : goal.returns-clause-members
returns-clause-members c = λ a.
    let k = known c.self.inside.listed.items c.self.inside.shapes.items c.self.inside.current c.self.inside.saved.items c.args.self.now (number_of c.args.v) c.index.result.now c.index-2.result.now c.self.view_is c.self.invariant c.requires.within (rw c.number-i.ensures at c.index.ensures) (rw c.number-i.ensures at c.index-2.ensures) in
    rw k.set (rw (c.as_slice.ensures.value, c.as_slice-2.ensures.value) at c.gather.ensures.members a)
