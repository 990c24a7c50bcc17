use Rattle.std.proofs.Common.{w64, arith}
use Rattle.std.proofs.lemmas.Int.{to_z-of_z}
use Rattle.mn_model.specs.Variable.{number_of}
use Rattle.mn_domains.proofs.Standing.{known, stands_at}
use Rattle.mn_domains.proofs.doms.Doms.next_outside.Goals as goal

pub index-requires : goal.index-requires
index-requires c =
    let st = stands_at c.self.inside.listed.items c.self.inside.shapes.items c.self.inside.current c.self.inside.saved.items c.args.self.now (number_of c.args.v) c.self.view_is c.self.invariant c.requires in
    omega (arith, st.in_shapes, c.self.inside.shapes.ok.0, c.number-i.ensures)

pub index-requires-2 : goal.index-requires-2
index-requires-2 c =
    let st = stands_at c.self.inside.listed.items c.self.inside.shapes.items c.self.inside.current c.self.inside.saved.items c.args.self.now (number_of c.args.v) c.self.view_is c.self.invariant c.requires in
    omega (arith, st.in_ends, c.self.inside.current.ends.ok.0, c.number-i.ensures)

pub next_passing-requires-clause-shape : goal.next_passing-requires-clause-shape
next_passing-requires-clause-shape c =
    let k = known c.self.inside.listed.items c.self.inside.shapes.items c.self.inside.current c.self.inside.saved.items c.args.self.now (number_of c.args.v) c.index.result.now c.index-2.result.now c.self.view_is c.self.invariant c.requires (rw c.number-i.ensures at c.index.ensures) (rw c.number-i.ensures at c.index-2.ensures) in
    rw (c.as_slice.ensures.value, c.as_slice-2.ensures.value) k.shaped

pub next_passing-requires-clause-held : goal.next_passing-requires-clause-held
next_passing-requires-clause-held c =
    let k = known c.self.inside.listed.items c.self.inside.shapes.items c.self.inside.current c.self.inside.saved.items c.args.self.now (number_of c.args.v) c.index.result.now c.index-2.result.now c.self.view_is c.self.invariant c.requires (rw c.number-i.ensures at c.index.ensures) (rw c.number-i.ensures at c.index-2.ensures) in
    rw (c.as_slice.ensures.value, c.as_slice-2.ensures.value) k.held

pub returns : goal.returns
returns c =
    let k = known c.self.inside.listed.items c.self.inside.shapes.items c.self.inside.current c.self.inside.saved.items c.args.self.now (number_of c.args.v) c.index.result.now c.index-2.result.now c.self.view_is c.self.invariant c.requires (rw c.number-i.ensures at c.index.ensures) (rw c.number-i.ensures at c.index-2.ensures) in
    rw k.set (rw (c.as_slice.ensures.value, c.as_slice-2.ensures.value, to_z-of_z w64 c.args.a c.ranges.a) at c.next_passing.ensures)
