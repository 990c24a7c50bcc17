use Rattle.std.proofs.Common.{w64, arith, refl, length}
use Rattle.std.proofs.lemmas.Int.{to_z-of_z}
use Rattle.std.proofs.lemmas.Option.{slice_get_read}
use Rattle.mn_model.specs.Variable.{number_of}
use Rattle.mn_boxes.specs.Boxes.{set_of, variable_at}
use Rattle.mn_domains.specs.Changes.{is_not}
use Rattle.mn_domains.proofs.Emptying.{emptied_only, held_some, size_less}
use Rattle.mn_domains.proofs.Put.{PutAt, changed_put, kept_put}
use Rattle.mn_domains.proofs.Standing.{known, stands_at}
use Rattle.mn_domains.proofs.Unmarking.{inner_stays, unmarked_shape}
use Rattle.mn_domains.proofs.doms.Doms.remove.Goals as goal

pub index-requires : goal.index-requires
index-requires c =
    let st = stands_at c.self.inside.listed.items c.self.inside.shapes.items c.self.inside.current c.self.inside.saved.items c.args.self.now (number_of c.args.v) c.self.view_is c.self.invariant c.requires.within in
    omega (arith, st.in_ends, c.self.inside.current.ends.ok.0, c.number-i.ensures)

pub index-shape-requires : goal.index-shape-requires
index-shape-requires c =
    let st = stands_at c.self.inside.listed.items c.self.inside.shapes.items c.self.inside.current c.self.inside.saved.items c.args.self.now (number_of c.args.v) c.self.view_is c.self.invariant c.requires.within in
    omega (arith, st.in_shapes, c.self.inside.shapes.ok.0, c.number-i.ensures)

pub returns-then-are : goal.returns-then-are
returns-then-are c =
    let both = rw (to_z-of_z w64 c.args.a c.ranges.a) at (c.are.ensures.0 c.if-are.true) in
    (emptied_only c.self.inside.listed.items c.self.inside.shapes.items c.self.inside.current c.self.inside.saved.items c.args.self.now (number_of c.args.v) c.index.result.now c.args.a c.self.view_is c.self.invariant c.requires.within (rw c.number-i.ensures at c.index.ensures) both.0 both.1, refl)

pub inner_bit-requires-clause-shape : goal.inner_bit-requires-clause-shape
inner_bit-requires-clause-shape c =
    let k = known c.self.inside.listed.items c.self.inside.shapes.items c.self.inside.current c.self.inside.saved.items c.args.self.now (number_of c.args.v) c.index-shape.result.now c.index.result.now c.self.view_is c.self.invariant c.requires.within (rw c.number-i.ensures at c.index-shape.ensures) (rw c.number-i.ensures at c.index.ensures) in
    rw (c.as_slice-listed.ensures.value, c.as_slice-bits.ensures.value) k.shaped

pub inner_bit-requires-clause-within : goal.inner_bit-requires-clause-within
inner_bit-requires-clause-within c =
    let k = known c.self.inside.listed.items c.self.inside.shapes.items c.self.inside.current c.self.inside.saved.items c.args.self.now (number_of c.args.v) c.index-shape.result.now c.index.result.now c.self.view_is c.self.invariant c.requires.within (rw c.number-i.ensures at c.index-shape.ensures) (rw c.number-i.ensures at c.index.ensures) in
    k.held.within

pub unmark-requires-clause-here : goal.unmark-requires-clause-here
unmark-requires-clause-here c =
    let st = stands_at c.self.inside.listed.items c.self.inside.shapes.items c.self.inside.current c.self.inside.saved.items c.args.self.now (number_of c.args.v) c.self.view_is c.self.invariant c.requires.within in
    slice_get_read c.self.inside.current.ends.items (length c.self.inside.current.ends.items) c.number-i.result c.index.result.now refl (omega (arith, st.in_ends, c.number-i.ensures)) c.index.ensures

pub unmark-requires-clause-some : goal.unmark-requires-clause-some
unmark-requires-clause-some c =
    let k = known c.self.inside.listed.items c.self.inside.shapes.items c.self.inside.current c.self.inside.saved.items c.args.self.now (number_of c.args.v) c.index-shape.result.now c.index.result.now c.self.view_is c.self.invariant c.requires.within (rw c.number-i.ensures at c.index-shape.ensures) (rw c.number-i.ensures at c.index.ensures) in
    held_some c.self.inside.listed.items c.self.inside.current.bits.items c.index-shape.result.now c.index.result.now k.held

pub unmark-requires-clause-counted : goal.unmark-requires-clause-counted
unmark-requires-clause-counted c =
    let k = known c.self.inside.listed.items c.self.inside.shapes.items c.self.inside.current c.self.inside.saved.items c.args.self.now (number_of c.args.v) c.index-shape.result.now c.index.result.now c.self.view_is c.self.invariant c.requires.within (rw c.number-i.ensures at c.index-shape.ensures) (rw c.number-i.ensures at c.index.ensures) in
    k.counted

pub invariant_of-self : goal.invariant_of-self
invariant_of-self c =
    let tells = rw (to_z-of_z w64 c.args.a c.ranges.a) at c.in-Some.ensures.bit in
    let u = rw c.number-i.ensures at c.unmark.ensures in
    let out = unmarked_shape c.self.inside.listed.items c.self.inside.shapes.items c.self.inside.current c.unmark.new.self c.self.inside.saved.items c.args.self.now (number_of c.args.v) c.index-shape.result.now c.index.result.now c.args.a c.in-Some.bit c.unmark.result c.self.view_is c.self.invariant c.requires.within
    (rw c.number-i.ensures at c.index-shape.ensures) (rw c.number-i.ensures at c.index.ensures) tells u in
    out.kept

pub returns-in-Some : goal.returns-in-Some
returns-in-Some c =
    let tells = rw (to_z-of_z w64 c.args.a c.ranges.a) at c.in-Some.ensures.bit in
    let u = rw c.number-i.ensures at c.unmark.ensures in
    let out = unmarked_shape c.self.inside.listed.items c.self.inside.shapes.items c.self.inside.current c.unmark.new.self c.self.inside.saved.items c.args.self.now (number_of c.args.v) c.index-shape.result.now c.index.result.now c.args.a c.in-Some.bit c.unmark.result c.self.view_is c.self.invariant c.requires.within
    (rw c.number-i.ensures at c.index-shape.ensures) (rw c.number-i.ensures at c.index.ensures) tells u in
    out.changed

pub without-rest-requires-clause-shape : goal.without-rest-requires-clause-shape
without-rest-requires-clause-shape c =
    let k = known c.self.inside.listed.items c.self.inside.shapes.items c.self.inside.current c.self.inside.saved.items c.args.self.now (number_of c.args.v) c.index-shape.result.now c.index.result.now c.self.view_is c.self.invariant c.requires.within (rw c.number-i.ensures at c.index-shape.ensures) (rw c.number-i.ensures at c.index.ensures) in
    rw (c.as_slice-listed.ensures.value, c.as_slice-bits.ensures.value) k.shaped

pub without-rest-requires-clause-held : goal.without-rest-requires-clause-held
without-rest-requires-clause-held c =
    let k = known c.self.inside.listed.items c.self.inside.shapes.items c.self.inside.current c.self.inside.saved.items c.args.self.now (number_of c.args.v) c.index-shape.result.now c.index.result.now c.self.view_is c.self.invariant c.requires.within (rw c.number-i.ensures at c.index-shape.ensures) (rw c.number-i.ensures at c.index.ensures) in
    rw (c.as_slice-listed.ensures.value, c.as_slice-bits.ensures.value) k.held

pub without-rest-requires-clause-outer : goal.without-rest-requires-clause-outer
without-rest-requires-clause-outer c =
    let k = known c.self.inside.listed.items c.self.inside.shapes.items c.self.inside.current c.self.inside.saved.items c.args.self.now (number_of c.args.v) c.index-shape.result.now c.index.result.now c.self.view_is c.self.invariant c.requires.within (rw c.number-i.ensures at c.index-shape.ensures) (rw c.number-i.ensures at c.index.ensures) in
    let bounded = rw (to_z-of_z w64 c.args.a c.ranges.a) at c.in-None.ensures.bit in
    rw (c.as_slice-listed.ensures.value, c.as_slice-bits.ensures.value, to_z-of_z w64 c.args.a c.ranges.a)
    (inner_stays c.self.inside.listed.items c.self.inside.current.bits.items c.index-shape.result.now c.index.result.now c.args.a (variable_at c.args.self.now.vars (number_of c.args.v)) (set_of c.args.self.now.now.sets (number_of c.args.v)) k.set k.var c.requires.may k.held.ends bounded)

pub put-requires-clause-here : goal.put-requires-clause-here
put-requires-clause-here c =
    let st = stands_at c.self.inside.listed.items c.self.inside.shapes.items c.self.inside.current c.self.inside.saved.items c.args.self.now (number_of c.args.v) c.self.view_is c.self.invariant c.requires.within in
    slice_get_read c.self.inside.current.ends.items (length c.self.inside.current.ends.items) c.number-i.result c.index.result.now refl (omega (arith, st.in_ends, c.number-i.ensures)) c.index.ensures

pub put-requires-clause-less : goal.put-requires-clause-less
put-requires-clause-less c =
    let k = known c.self.inside.listed.items c.self.inside.shapes.items c.self.inside.current c.self.inside.saved.items c.args.self.now (number_of c.args.v) c.index-shape.result.now c.index.result.now c.self.view_is c.self.invariant c.requires.within (rw c.number-i.ensures at c.index-shape.ensures) (rw c.number-i.ensures at c.index.ensures) in
    let held = rw (c.as_slice-listed.ensures.value, c.as_slice-bits.ensures.value) at c.without-rest.ensures.held in
    let values = rw (c.as_slice-listed.ensures.value, c.as_slice-bits.ensures.value, to_z-of_z w64 c.args.a c.ranges.a) at c.without-rest.ensures.values in
    size_less c.self.inside.listed.items c.self.inside.current.bits.items _ c.index-shape.result.now c.index.result.now c.without-rest.result (is_not c.args.a) k.shaped k.held held values

pub put-requires-clause-counted : goal.put-requires-clause-counted
put-requires-clause-counted c =
    let k = known c.self.inside.listed.items c.self.inside.shapes.items c.self.inside.current c.self.inside.saved.items c.args.self.now (number_of c.args.v) c.index-shape.result.now c.index.result.now c.self.view_is c.self.invariant c.requires.within (rw c.number-i.ensures at c.index-shape.ensures) (rw c.number-i.ensures at c.index.ensures) in
    k.counted

pub invariant_of-self-in-None : goal.invariant_of-self-in-None
invariant_of-self-in-None c =
    let held = rw (c.as_slice-listed.ensures.value, c.as_slice-bits.ensures.value) at c.without-rest.ensures.held in
    let values = rw (c.as_slice-listed.ensures.value, c.as_slice-bits.ensures.value, to_z-of_z w64 c.args.a c.ranges.a) at c.without-rest.ensures.values in
    let put : PutAt c.self.inside.current c.put.new.self (number_of c.args.v) c.index.result.now c.without-rest.result = record { ends = rw c.number-i.ensures at c.put.ensures.ends; bits = c.put.ensures.bits; left = c.put.ensures.left } in
    kept_put c.self.inside.listed.items c.self.inside.shapes.items c.self.inside.current c.put.new.self c.self.inside.saved.items c.args.self.now (number_of c.args.v) c.index-shape.result.now c.index.result.now c.without-rest.result c.self.view_is c.self.invariant c.requires.within
    (rw c.number-i.ensures at c.index-shape.ensures) (rw c.number-i.ensures at c.index.ensures) held put

pub returns-in-None : goal.returns-in-None
returns-in-None c =
    let held = rw (c.as_slice-listed.ensures.value, c.as_slice-bits.ensures.value) at c.without-rest.ensures.held in
    let values = rw (c.as_slice-listed.ensures.value, c.as_slice-bits.ensures.value, to_z-of_z w64 c.args.a c.ranges.a) at c.without-rest.ensures.values in
    let put : PutAt c.self.inside.current c.put.new.self (number_of c.args.v) c.index.result.now c.without-rest.result = record { ends = rw c.number-i.ensures at c.put.ensures.ends; bits = c.put.ensures.bits; left = c.put.ensures.left } in
    changed_put c.self.inside.listed.items c.self.inside.shapes.items c.self.inside.current c.put.new.self c.self.inside.saved.items c.args.self.now (number_of c.args.v) c.index-shape.result.now c.index.result.now c.without-rest.result (is_not c.args.a) c.put.result c.self.view_is c.self.invariant c.requires.within
    (rw c.number-i.ensures at c.index-shape.ensures) (rw c.number-i.ensures at c.index.ensures) held values put c.put.ensures.moved
