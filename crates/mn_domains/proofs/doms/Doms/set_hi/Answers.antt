use Rattle.std.proofs.Common.{int_le, w64, arith, refl, length}
use Rattle.std.proofs.lemmas.Int.{ints, to_z-of_z}
use Rattle.std.proofs.lemmas.Option.{slice_get_read}
use Rattle.mn_model.specs.Variable.{number_of}
use Rattle.mn_domains.proofs.Emptying.{emptied_to, size_less}
use Rattle.mn_domains.proofs.Put.{PutAt, changed_put, kept_put}
use Rattle.mn_domains.proofs.ShapeLemmas.{kept_high}
use Rattle.mn_domains.proofs.Sifts.{rest_changed}
use Rattle.mn_domains.proofs.Standing.{known, stands_at}
use Rattle.mn_domains.proofs.doms.Doms.set_hi.Goals as goal

pub index-ends-requires : goal.index-ends-requires
index-ends-requires c =
    let st = stands_at c.self.inside.listed.items c.self.inside.shapes.items c.self.inside.current c.self.inside.saved.items c.args.self.now (number_of c.args.v) c.self.view_is c.self.invariant c.requires in
    omega (arith, st.in_ends, c.self.inside.current.ends.ok.0, c.number-i.ensures)

pub index-shape-requires : goal.index-shape-requires
index-shape-requires c =
    let st = stands_at c.self.inside.listed.items c.self.inside.shapes.items c.self.inside.current c.self.inside.saved.items c.args.self.now (number_of c.args.v) c.self.view_is c.self.invariant c.requires in
    omega (arith, st.in_shapes, c.self.inside.shapes.ok.0, c.number-i.ensures)

pub returns-then-a-ends : goal.returns-then-a-ends
returns-then-a-ends c = (emptied_to c.self.inside.listed.items c.self.inside.shapes.items c.self.inside.current c.self.inside.saved.items c.args.self.now (number_of c.args.v) c.index-ends.result.now c.args.a c.self.view_is c.self.invariant c.requires (rw c.number-i.ensures at c.index-ends.ensures) (omega (arith, ints)), refl)

pub cut_high-cut-requires-clause-shape : goal.cut_high-cut-requires-clause-shape
cut_high-cut-requires-clause-shape c =
    let k = known c.self.inside.listed.items c.self.inside.shapes.items c.self.inside.current c.self.inside.saved.items c.args.self.now (number_of c.args.v) c.index-shape.result.now c.index-ends.result.now c.self.view_is c.self.invariant c.requires (rw c.number-i.ensures at c.index-shape.ensures) (rw c.number-i.ensures at c.index-ends.ensures) in
    rw (c.as_slice-listed.ensures.value, c.as_slice-bits.ensures.value) k.shaped

pub cut_high-cut-requires-clause-held : goal.cut_high-cut-requires-clause-held
cut_high-cut-requires-clause-held c =
    let k = known c.self.inside.listed.items c.self.inside.shapes.items c.self.inside.current c.self.inside.saved.items c.args.self.now (number_of c.args.v) c.index-shape.result.now c.index-ends.result.now c.self.view_is c.self.invariant c.requires (rw c.number-i.ensures at c.index-shape.ensures) (rw c.number-i.ensures at c.index-ends.ensures) in
    rw (c.as_slice-listed.ensures.value, c.as_slice-bits.ensures.value) k.held

pub put-requires-clause-here : goal.put-requires-clause-here
put-requires-clause-here c =
    let st = stands_at c.self.inside.listed.items c.self.inside.shapes.items c.self.inside.current c.self.inside.saved.items c.args.self.now (number_of c.args.v) c.self.view_is c.self.invariant c.requires in
    slice_get_read c.self.inside.current.ends.items (length c.self.inside.current.ends.items) c.number-i.result c.index-ends.result.now refl (omega (arith, st.in_ends, c.number-i.ensures)) c.index-ends.ensures

pub put-requires-clause-less : goal.put-requires-clause-less
put-requires-clause-less c =
    let k = known c.self.inside.listed.items c.self.inside.shapes.items c.self.inside.current c.self.inside.saved.items c.args.self.now (number_of c.args.v) c.index-shape.result.now c.index-ends.result.now c.self.view_is c.self.invariant c.requires (rw c.number-i.ensures at c.index-shape.ensures) (rw c.number-i.ensures at c.index-ends.ensures) in
    let held = rw (c.as_slice-listed.ensures.value, c.as_slice-bits.ensures.value) at c.cut_high-cut.ensures.held in
    let values = rw (c.as_slice-listed.ensures.value, c.as_slice-bits.ensures.value, to_z-of_z w64 c.args.a c.ranges.a) at c.cut_high-cut.ensures.values in
    size_less c.self.inside.listed.items c.self.inside.current.bits.items _ c.index-shape.result.now c.index-ends.result.now c.cut_high-cut.result (λ x. int_le x c.args.a) k.shaped k.held held values

pub put-requires-clause-counted : goal.put-requires-clause-counted
put-requires-clause-counted c =
    let k = known c.self.inside.listed.items c.self.inside.shapes.items c.self.inside.current c.self.inside.saved.items c.args.self.now (number_of c.args.v) c.index-shape.result.now c.index-ends.result.now c.self.view_is c.self.invariant c.requires (rw c.number-i.ensures at c.index-shape.ensures) (rw c.number-i.ensures at c.index-ends.ensures) in
    k.counted

pub invariant_of-self : goal.invariant_of-self
invariant_of-self c =
    let held = rw (c.as_slice-listed.ensures.value, c.as_slice-bits.ensures.value) at c.cut_high-cut.ensures.held in
    let values = rw (c.as_slice-listed.ensures.value, c.as_slice-bits.ensures.value, to_z-of_z w64 c.args.a c.ranges.a) at c.cut_high-cut.ensures.values in
    let put : PutAt c.self.inside.current c.put.new.self (number_of c.args.v) c.index-ends.result.now c.cut_high-cut.result = record { ends = rw c.number-i.ensures at c.put.ensures.ends; bits = c.put.ensures.bits; left = c.put.ensures.left } in
    kept_put c.self.inside.listed.items c.self.inside.shapes.items c.self.inside.current c.put.new.self c.self.inside.saved.items c.args.self.now (number_of c.args.v) c.index-shape.result.now c.index-ends.result.now c.cut_high-cut.result c.self.view_is c.self.invariant c.requires
    (rw c.number-i.ensures at c.index-shape.ensures) (rw c.number-i.ensures at c.index-ends.ensures) held put

pub returns : goal.returns
returns c =
    let held = rw (c.as_slice-listed.ensures.value, c.as_slice-bits.ensures.value) at c.cut_high-cut.ensures.held in
    let values = rw (c.as_slice-listed.ensures.value, c.as_slice-bits.ensures.value, to_z-of_z w64 c.args.a c.ranges.a) at c.cut_high-cut.ensures.values in
    let put : PutAt c.self.inside.current c.put.new.self (number_of c.args.v) c.index-ends.result.now c.cut_high-cut.result = record { ends = rw c.number-i.ensures at c.put.ensures.ends; bits = c.put.ensures.bits; left = c.put.ensures.left } in
    changed_put c.self.inside.listed.items c.self.inside.shapes.items c.self.inside.current c.put.new.self c.self.inside.saved.items c.args.self.now (number_of c.args.v) c.index-shape.result.now c.index-ends.result.now c.cut_high-cut.result (λ x. int_le x c.args.a) c.put.result c.self.view_is c.self.invariant c.requires
    (rw c.number-i.ensures at c.index-shape.ensures) (rw c.number-i.ensures at c.index-ends.ensures) held values put c.put.ensures.moved

pub returns-then-ends-a : goal.returns-then-ends-a
returns-then-ends-a c =
    let k = known c.self.inside.listed.items c.self.inside.shapes.items c.self.inside.current c.self.inside.saved.items c.args.self.now (number_of c.args.v) c.index-shape.result.now c.index-ends.result.now c.self.view_is c.self.invariant c.requires (rw c.number-i.ensures at c.index-shape.ensures) (rw c.number-i.ensures at c.index-ends.ensures) in
    let values = kept_high c.self.inside.listed.items c.self.inside.current.bits.items _ c.index-shape.result.now c.index-ends.result.now c.args.a k.shaped k.held (omega (arith, ints)) in
    rest_changed c.self.inside.listed.items c.self.inside.shapes.items c.self.inside.current c.self.inside.saved.items c.args.self.now (number_of c.args.v) c.index-shape.result.now c.index-ends.result.now (λ x. int_le x c.args.a) c.moved.result c.self.view_is c.self.invariant c.requires
    (rw c.number-i.ensures at c.index-shape.ensures) (rw c.number-i.ensures at c.index-ends.ensures) values c.moved.ensures
