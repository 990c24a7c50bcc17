use Rattle.std.proofs.Common.{w64, arith, refl, true≢false, sym, ◌∙◌, length}
use Rattle.std.proofs.lemmas.Int.{to_z-of_z}
use Rattle.std.specs.Ordering.{int_eq}
use Rattle.std.proofs.lemmas.Option.{slice_get_read}
use Rattle.mn_model.specs.Variable.{number_of}
use Rattle.mn_boxes.specs.Boxes.{set_of}
use Rattle.mn_domains.proofs.Emptying.{none_equal, size_less}
use Rattle.mn_domains.proofs.Put.{PutAt, changed_put, kept_put}
use Rattle.mn_domains.proofs.Standing.{known, stands_at}
use Rattle.mn_domains.proofs.doms.Doms.assign.Goals as goal

pub index-ends-requires : goal.index-ends-requires
index-ends-requires c =
    let st = stands_at c.self.inside.listed.items c.self.inside.shapes.items c.self.inside.current c.self.inside.saved.items c.args.self.now (number_of c.args.v) c.self.view_is c.self.invariant c.requires in
    omega (arith, st.in_ends, c.self.inside.current.ends.ok.0, c.number-i.ensures)

pub index-shape-requires : goal.index-shape-requires
index-shape-requires c =
    let st = stands_at c.self.inside.listed.items c.self.inside.shapes.items c.self.inside.current c.self.inside.saved.items c.args.self.now (number_of c.args.v) c.self.view_is c.self.invariant c.requires in
    omega (arith, st.in_shapes, c.self.inside.shapes.ok.0, c.number-i.ensures)

pub has-requires-clause-shape : goal.has-requires-clause-shape
has-requires-clause-shape c =
    let k = known c.self.inside.listed.items c.self.inside.shapes.items c.self.inside.current c.self.inside.saved.items c.args.self.now (number_of c.args.v) c.index-shape.result.now c.index-ends.result.now c.self.view_is c.self.invariant c.requires (rw c.number-i.ensures at c.index-shape.ensures) (rw c.number-i.ensures at c.index-ends.ensures) in
    rw (c.as_slice-listed.ensures.value, c.as_slice-bits.ensures.value) k.shaped

pub has-requires-clause-held : goal.has-requires-clause-held
has-requires-clause-held c =
    let k = known c.self.inside.listed.items c.self.inside.shapes.items c.self.inside.current c.self.inside.saved.items c.args.self.now (number_of c.args.v) c.index-shape.result.now c.index-ends.result.now c.self.view_is c.self.invariant c.requires (rw c.number-i.ensures at c.index-shape.ensures) (rw c.number-i.ensures at c.index-ends.ensures) in
    rw (c.as_slice-listed.ensures.value, c.as_slice-bits.ensures.value) k.held

pub returns-then-not-has : goal.returns-then-not-has
returns-then-not-has c =
    let k = known c.self.inside.listed.items c.self.inside.shapes.items c.self.inside.current c.self.inside.saved.items c.args.self.now (number_of c.args.v) c.index-shape.result.now c.index-ends.result.now c.self.view_is c.self.invariant c.requires (rw c.number-i.ensures at c.index-shape.ensures) (rw c.number-i.ensures at c.index-ends.ensures) in
    let told = rw (c.as_slice-listed.ensures.value, c.as_slice-bits.ensures.value, to_z-of_z w64 c.args.a c.ranges.a) at c.has.ensures in
    (none_equal (set_of c.args.self.now.now.sets (number_of c.args.v)) c.args.a (λ has. true≢false (sym (told.1 (rw k.set at has)) ∙ c.if-not-has.true)), refl)

pub only-alone-requires-clause-shape : goal.only-alone-requires-clause-shape
only-alone-requires-clause-shape c =
    let k = known c.self.inside.listed.items c.self.inside.shapes.items c.self.inside.current c.self.inside.saved.items c.args.self.now (number_of c.args.v) c.index-shape.result.now c.index-ends.result.now c.self.view_is c.self.invariant c.requires (rw c.number-i.ensures at c.index-shape.ensures) (rw c.number-i.ensures at c.index-ends.ensures) in
    rw (c.as_slice-listed.ensures.value, c.as_slice-bits.ensures.value) k.shaped

pub only-alone-requires-clause-held : goal.only-alone-requires-clause-held
only-alone-requires-clause-held c =
    let k = known c.self.inside.listed.items c.self.inside.shapes.items c.self.inside.current c.self.inside.saved.items c.args.self.now (number_of c.args.v) c.index-shape.result.now c.index-ends.result.now c.self.view_is c.self.invariant c.requires (rw c.number-i.ensures at c.index-shape.ensures) (rw c.number-i.ensures at c.index-ends.ensures) in
    rw (c.as_slice-listed.ensures.value, c.as_slice-bits.ensures.value) k.held

pub put-requires-clause-here : goal.put-requires-clause-here
put-requires-clause-here c =
    let st = stands_at c.self.inside.listed.items c.self.inside.shapes.items c.self.inside.current c.self.inside.saved.items c.args.self.now (number_of c.args.v) c.self.view_is c.self.invariant c.requires in
    slice_get_read c.self.inside.current.ends.items (length c.self.inside.current.ends.items) c.number-i.result c.index-ends.result.now refl (omega (arith, st.in_ends, c.number-i.ensures)) c.index-ends.ensures

pub put-requires-clause-less : goal.put-requires-clause-less
put-requires-clause-less c =
    let k = known c.self.inside.listed.items c.self.inside.shapes.items c.self.inside.current c.self.inside.saved.items c.args.self.now (number_of c.args.v) c.index-shape.result.now c.index-ends.result.now c.self.view_is c.self.invariant c.requires (rw c.number-i.ensures at c.index-shape.ensures) (rw c.number-i.ensures at c.index-ends.ensures) in
    let held = rw (c.as_slice-listed.ensures.value, c.as_slice-bits.ensures.value) at c.only-alone.ensures.held in
    let values = rw (c.as_slice-listed.ensures.value, c.as_slice-bits.ensures.value, to_z-of_z w64 c.args.a c.ranges.a) at c.only-alone.ensures.values in
    size_less c.self.inside.listed.items c.self.inside.current.bits.items _ c.index-shape.result.now c.index-ends.result.now c.only-alone.result (λ x. int_eq x c.args.a) k.shaped k.held held values

pub put-requires-clause-counted : goal.put-requires-clause-counted
put-requires-clause-counted c =
    let k = known c.self.inside.listed.items c.self.inside.shapes.items c.self.inside.current c.self.inside.saved.items c.args.self.now (number_of c.args.v) c.index-shape.result.now c.index-ends.result.now c.self.view_is c.self.invariant c.requires (rw c.number-i.ensures at c.index-shape.ensures) (rw c.number-i.ensures at c.index-ends.ensures) in
    k.counted

pub invariant_of-self : goal.invariant_of-self
invariant_of-self c =
    let held = rw (c.as_slice-listed.ensures.value, c.as_slice-bits.ensures.value) at c.only-alone.ensures.held in
    let values = rw (c.as_slice-listed.ensures.value, c.as_slice-bits.ensures.value, to_z-of_z w64 c.args.a c.ranges.a) at c.only-alone.ensures.values in
    let put : PutAt c.self.inside.current c.put.new.self (number_of c.args.v) c.index-ends.result.now c.only-alone.result = record { ends = rw c.number-i.ensures at c.put.ensures.ends; bits = c.put.ensures.bits; left = c.put.ensures.left } in
    kept_put c.self.inside.listed.items c.self.inside.shapes.items c.self.inside.current c.put.new.self c.self.inside.saved.items c.args.self.now (number_of c.args.v) c.index-shape.result.now c.index-ends.result.now c.only-alone.result c.self.view_is c.self.invariant c.requires
    (rw c.number-i.ensures at c.index-shape.ensures) (rw c.number-i.ensures at c.index-ends.ensures) held put

pub returns : goal.returns
returns c =
    let held = rw (c.as_slice-listed.ensures.value, c.as_slice-bits.ensures.value) at c.only-alone.ensures.held in
    let values = rw (c.as_slice-listed.ensures.value, c.as_slice-bits.ensures.value, to_z-of_z w64 c.args.a c.ranges.a) at c.only-alone.ensures.values in
    let put : PutAt c.self.inside.current c.put.new.self (number_of c.args.v) c.index-ends.result.now c.only-alone.result = record { ends = rw c.number-i.ensures at c.put.ensures.ends; bits = c.put.ensures.bits; left = c.put.ensures.left } in
    changed_put c.self.inside.listed.items c.self.inside.shapes.items c.self.inside.current c.put.new.self c.self.inside.saved.items c.args.self.now (number_of c.args.v) c.index-shape.result.now c.index-ends.result.now c.only-alone.result (λ x. int_eq x c.args.a) c.put.result c.self.view_is c.self.invariant c.requires
    (rw c.number-i.ensures at c.index-shape.ensures) (rw c.number-i.ensures at c.index-ends.ensures) held values put c.put.ensures.moved
