use Rattle.std.proofs.Common.{FitsSigned, rules, w64, arith, refl, sym, ◌∙◌, length}
use Rattle.std.proofs.lemmas.Int.{to_z-of_z}
use Rattle.std.proofs.lemmas.Option.{slice_get_read}
use Rattle.mn_model.specs.Variable.{number_of}
use Rattle.mn_boxes.specs.Boxes.{set_of, variable_at}
use Rattle.mn_domains.specs.Rows.{passes}
use Rattle.mn_domains.specs.Sifting.{stays}
use Rattle.mn_domains.proofs.Emptying.{size_less}
use Rattle.mn_domains.proofs.Put.{PutAt, changed_put, kept_put}
use Rattle.mn_domains.proofs.Sifts.{cut_values, emptied_greatest, emptied_least, none_so, passing, rest_changed, rest_values, sifted}
use Rattle.mn_domains.proofs.Standing.{known, stands_at}
use Rattle.mn_domains.proofs.doms.Doms.sift.Goals as goal

pub index-ends-requires : goal.index-ends-requires
index-ends-requires c =
    let st = stands_at c.self.inside.listed.items c.self.inside.shapes.items c.self.inside.current c.self.inside.saved.items c.args.self.now (number_of c.args.v) c.self.view_is c.self.invariant c.requires in
    omega (arith, st.in_ends, c.self.inside.current.ends.ok.0, c.number-i.ensures)

pub next_passing-lost-requires-clause-held : goal.next_passing-lost-requires-clause-held
next_passing-lost-requires-clause-held c =
    let k = known c.self.inside.listed.items c.self.inside.shapes.items c.self.inside.current c.self.inside.saved.items c.args.self.now (number_of c.args.v) c.index-shape.result.now c.index-ends.result.now c.self.view_is c.self.invariant c.requires (rw c.number-i.ensures at c.index-shape.ensures) (rw c.number-i.ensures at c.index-ends.ensures) in
    rw (c.as_slice-listed.ensures.value, c.as_slice-bits.ensures.value) k.held

pub next_passing-requires-clause-held : goal.next_passing-requires-clause-held
next_passing-requires-clause-held c =
    let k = known c.self.inside.listed.items c.self.inside.shapes.items c.self.inside.current c.self.inside.saved.items c.args.self.now (number_of c.args.v) c.index-shape.result.now c.index-ends.result.now c.self.view_is c.self.invariant c.requires (rw c.number-i.ensures at c.index-shape.ensures) (rw c.number-i.ensures at c.index-ends.ensures) in
    rw (c.as_slice-listed.ensures.value, c.as_slice-bits.ensures.value) k.held

pub last_passing-requires-clause-held : goal.last_passing-requires-clause-held
last_passing-requires-clause-held c =
    let k = known c.self.inside.listed.items c.self.inside.shapes.items c.self.inside.current c.self.inside.saved.items c.args.self.now (number_of c.args.v) c.index-shape.result.now c.index-ends.result.now c.self.view_is c.self.invariant c.requires (rw c.number-i.ensures at c.index-shape.ensures) (rw c.number-i.ensures at c.index-ends.ensures) in
    rw (c.as_slice-listed.ensures.value, c.as_slice-bits.ensures.value) k.held

pub marked_row-requires-clause-held : goal.marked_row-requires-clause-held
marked_row-requires-clause-held c =
    let k = known c.self.inside.listed.items c.self.inside.shapes.items c.self.inside.current c.self.inside.saved.items c.args.self.now (number_of c.args.v) c.index-shape.result.now c.index-ends.result.now c.self.view_is c.self.invariant c.requires (rw c.number-i.ensures at c.index-shape.ensures) (rw c.number-i.ensures at c.index-ends.ensures) in
    rw (c.as_slice-listed.ensures.value, c.as_slice-bits.ensures.value) k.held

pub between-cut-requires-clause-held : goal.between-cut-requires-clause-held
between-cut-requires-clause-held c =
    let k = known c.self.inside.listed.items c.self.inside.shapes.items c.self.inside.current c.self.inside.saved.items c.args.self.now (number_of c.args.v) c.index-shape.result.now c.index-ends.result.now c.self.view_is c.self.invariant c.requires (rw c.number-i.ensures at c.index-shape.ensures) (rw c.number-i.ensures at c.index-ends.ensures) in
    rw (c.as_slice-listed.ensures.value, c.as_slice-bits.ensures.value) k.held

pub returns-then-is_none : goal.returns-then-is_none
returns-then-is_none c =
    let k = known c.self.inside.listed.items c.self.inside.shapes.items c.self.inside.current c.self.inside.saved.items c.args.self.now (number_of c.args.v) c.index-shape.result.now c.index-ends.result.now c.self.view_is c.self.invariant c.requires (rw c.number-i.ensures at c.index-shape.ensures) (rw c.number-i.ensures at c.index-ends.ensures) in
    let low : FitsSigned w64 c.index-ends.result.now.lo = search rules in
    let none = none_so c.next_passing-lost.result c.is_none.result c.is_none.ensures c.if-is_none.true in
    let lost = sym (rw (c.as_slice-listed.ensures.value, c.as_slice-bits.ensures.value, to_z-of_z w64 c.index-ends.result.now.lo low) at c.next_passing-lost.ensures) ∙ none in
    let values = rest_values c.self.inside.listed.items c.self.inside.current.bits.items _ c.index-shape.result.now c.index-ends.result.now c.args.values.now c.args.wanted (variable_at c.args.self.now.vars (number_of c.args.v)) (set_of c.args.self.now.now.sets (number_of c.args.v)) k.shaped k.held k.set lost in
    rest_changed c.self.inside.listed.items c.self.inside.shapes.items c.self.inside.current c.self.inside.saved.items c.args.self.now (number_of c.args.v) c.index-shape.result.now c.index-ends.result.now (stays (variable_at c.args.self.now.vars (number_of c.args.v)) (passes c.args.values.now c.args.wanted) (set_of c.args.self.now.now.sets (number_of c.args.v))) c.moved.result c.self.view_is c.self.invariant c.requires (rw c.number-i.ensures at c.index-shape.ensures) (rw c.number-i.ensures at c.index-ends.ensures) values c.moved.ensures

pub returns-in-None : goal.returns-in-None
returns-in-None c =
    let k = known c.self.inside.listed.items c.self.inside.shapes.items c.self.inside.current c.self.inside.saved.items c.args.self.now (number_of c.args.v) c.index-shape.result.now c.index-ends.result.now c.self.view_is c.self.invariant c.requires (rw c.number-i.ensures at c.index-shape.ensures) (rw c.number-i.ensures at c.index-ends.ensures) in
    let low : FitsSigned w64 c.index-ends.result.now.lo = search rules in
    let none = rw (c.as_slice-listed.ensures.value, c.as_slice-bits.ensures.value, to_z-of_z w64 c.index-ends.result.now.lo low) at c.in-None.ensures in
    (emptied_least c.self.inside.listed.items c.self.inside.current.bits.items _ c.index-shape.result.now c.index-ends.result.now (passes c.args.values.now c.args.wanted) (variable_at c.args.self.now.vars (number_of c.args.v)) (set_of c.args.self.now.now.sets (number_of c.args.v)) k.shaped k.held k.set (sym none), refl)

pub returns-in-None-last_passing : goal.returns-in-None-last_passing
returns-in-None-last_passing c =
    let k = known c.self.inside.listed.items c.self.inside.shapes.items c.self.inside.current c.self.inside.saved.items c.args.self.now (number_of c.args.v) c.index-shape.result.now c.index-ends.result.now c.self.view_is c.self.invariant c.requires (rw c.number-i.ensures at c.index-shape.ensures) (rw c.number-i.ensures at c.index-ends.ensures) in
    let low : FitsSigned w64 c.index-ends.result.now.lo = search rules in
    let none = rw (c.as_slice-listed.ensures.value, c.as_slice-bits.ensures.value, to_z-of_z w64 c.index-ends.result.now.lo low) at c.in-None-last_passing.ensures in
    (emptied_greatest c.self.inside.listed.items c.self.inside.current.bits.items _ c.index-shape.result.now c.index-ends.result.now (passes c.args.values.now c.args.wanted) (variable_at c.args.self.now.vars (number_of c.args.v)) (set_of c.args.self.now.now.sets (number_of c.args.v)) k.shaped k.held k.set (sym none), refl)

pub last_passing-requires-clause-high : goal.last_passing-requires-clause-high
last_passing-requires-clause-high c =
    let k = known c.self.inside.listed.items c.self.inside.shapes.items c.self.inside.current c.self.inside.saved.items c.args.self.now (number_of c.args.v) c.index-shape.result.now c.index-ends.result.now c.self.view_is c.self.invariant c.requires (rw c.number-i.ensures at c.index-shape.ensures) (rw c.number-i.ensures at c.index-ends.ensures) in
    let low : FitsSigned w64 c.index-ends.result.now.lo = search rules in
    rw (to_z-of_z w64 c.index-ends.result.now.lo low) k.held.ends.ordered

pub sieve-requires-clause-here : goal.sieve-requires-clause-here
sieve-requires-clause-here c =
    let st = stands_at c.self.inside.listed.items c.self.inside.shapes.items c.self.inside.current c.self.inside.saved.items c.args.self.now (number_of c.args.v) c.self.view_is c.self.invariant c.requires in
    slice_get_read c.self.inside.current.ends.items (length c.self.inside.current.ends.items) c.number-i.result c.index-ends.result.now refl (omega (arith, st.in_ends, c.number-i.ensures)) c.index-ends.ensures

pub put-requires-clause-here : goal.put-requires-clause-here
put-requires-clause-here c =
    let st = stands_at c.self.inside.listed.items c.self.inside.shapes.items c.self.inside.current c.self.inside.saved.items c.args.self.now (number_of c.args.v) c.self.view_is c.self.invariant c.requires in
    slice_get_read c.self.inside.current.ends.items (length c.self.inside.current.ends.items) c.number-i.result c.index-ends.result.now refl (omega (arith, st.in_ends, c.number-i.ensures)) c.index-ends.ensures

pub sieve-requires-clause-counted : goal.sieve-requires-clause-counted
sieve-requires-clause-counted c =
    let k = known c.self.inside.listed.items c.self.inside.shapes.items c.self.inside.current c.self.inside.saved.items c.args.self.now (number_of c.args.v) c.index-shape.result.now c.index-ends.result.now c.self.view_is c.self.invariant c.requires (rw c.number-i.ensures at c.index-shape.ensures) (rw c.number-i.ensures at c.index-ends.ensures) in
    k.counted

pub put-requires-clause-counted : goal.put-requires-clause-counted
put-requires-clause-counted c =
    let k = known c.self.inside.listed.items c.self.inside.shapes.items c.self.inside.current c.self.inside.saved.items c.args.self.now (number_of c.args.v) c.index-shape.result.now c.index-ends.result.now c.self.view_is c.self.invariant c.requires (rw c.number-i.ensures at c.index-shape.ensures) (rw c.number-i.ensures at c.index-ends.ensures) in
    k.counted

pub invariant_of-self : goal.invariant_of-self
invariant_of-self c =
    let k = known c.self.inside.listed.items c.self.inside.shapes.items c.self.inside.current c.self.inside.saved.items c.args.self.now (number_of c.args.v) c.index-shape.result.now c.index-ends.result.now c.self.view_is c.self.invariant c.requires (rw c.number-i.ensures at c.index-shape.ensures) (rw c.number-i.ensures at c.index-ends.ensures) in
    let low : FitsSigned w64 c.index-ends.result.now.lo = search rules in
    let first = rw (c.as_slice-listed.ensures.value, c.as_slice-bits.ensures.value, to_z-of_z w64 c.index-ends.result.now.lo low) at c.in-Some.ensures in
    let last = rw (c.as_slice-listed.ensures.value, c.as_slice-bits.ensures.value, to_z-of_z w64 c.index-ends.result.now.lo low) at c.in-Some-last_passing.ensures in
    let ps = passing c.self.inside.listed.items c.self.inside.current.bits.items _ c.index-shape.result.now c.index-ends.result.now (passes c.args.values.now c.args.wanted) c.in-Some.a c.in-Some-last_passing.a k.shaped k.held first last in
    let fits_a : FitsSigned w64 c.in-Some.a = search rules in
    let fits_b : FitsSigned w64 c.in-Some-last_passing.a = search rules in
    let marks = rw (c.as_slice-bits.ensures.value) at c.in-Some-marked_row.ensures in
    let put = rw (c.number-i.ensures, to_z-of_z w64 c.in-Some.a fits_a, to_z-of_z w64 c.in-Some-last_passing.a fits_b) at c.sieve.ensures.put in
    let out = sifted c.self.inside.listed.items c.self.inside.shapes.items c.self.inside.current c.sieve.new.self c.self.inside.saved.items c.args.self.now (number_of c.args.v) c.index-shape.result.now c.index-ends.result.now c.in-Some-marked_row.row c.args.values.now c.args.wanted c.in-Some.a c.in-Some-last_passing.a c.sieve.result c.self.view_is c.self.invariant c.requires (rw c.number-i.ensures at c.index-shape.ensures) (rw c.number-i.ensures at c.index-ends.ensures) marks ps c.sieve.ensures.bits c.sieve.ensures.words put in
    out.kept

pub returns-in-Some-marked_row : goal.returns-in-Some-marked_row
returns-in-Some-marked_row c =
    let k = known c.self.inside.listed.items c.self.inside.shapes.items c.self.inside.current c.self.inside.saved.items c.args.self.now (number_of c.args.v) c.index-shape.result.now c.index-ends.result.now c.self.view_is c.self.invariant c.requires (rw c.number-i.ensures at c.index-shape.ensures) (rw c.number-i.ensures at c.index-ends.ensures) in
    let low : FitsSigned w64 c.index-ends.result.now.lo = search rules in
    let first = rw (c.as_slice-listed.ensures.value, c.as_slice-bits.ensures.value, to_z-of_z w64 c.index-ends.result.now.lo low) at c.in-Some.ensures in
    let last = rw (c.as_slice-listed.ensures.value, c.as_slice-bits.ensures.value, to_z-of_z w64 c.index-ends.result.now.lo low) at c.in-Some-last_passing.ensures in
    let ps = passing c.self.inside.listed.items c.self.inside.current.bits.items _ c.index-shape.result.now c.index-ends.result.now (passes c.args.values.now c.args.wanted) c.in-Some.a c.in-Some-last_passing.a k.shaped k.held first last in
    let fits_a : FitsSigned w64 c.in-Some.a = search rules in
    let fits_b : FitsSigned w64 c.in-Some-last_passing.a = search rules in
    let marks = rw (c.as_slice-bits.ensures.value) at c.in-Some-marked_row.ensures in
    let put = rw (c.number-i.ensures, to_z-of_z w64 c.in-Some.a fits_a, to_z-of_z w64 c.in-Some-last_passing.a fits_b) at c.sieve.ensures.put in
    let out = sifted c.self.inside.listed.items c.self.inside.shapes.items c.self.inside.current c.sieve.new.self c.self.inside.saved.items c.args.self.now (number_of c.args.v) c.index-shape.result.now c.index-ends.result.now c.in-Some-marked_row.row c.args.values.now c.args.wanted c.in-Some.a c.in-Some-last_passing.a c.sieve.result c.self.view_is c.self.invariant c.requires (rw c.number-i.ensures at c.index-shape.ensures) (rw c.number-i.ensures at c.index-ends.ensures) marks ps c.sieve.ensures.bits c.sieve.ensures.words put in
    out.changed

pub between-cut-requires-clause-low : goal.between-cut-requires-clause-low
between-cut-requires-clause-low c =
    let k = known c.self.inside.listed.items c.self.inside.shapes.items c.self.inside.current c.self.inside.saved.items c.args.self.now (number_of c.args.v) c.index-shape.result.now c.index-ends.result.now c.self.view_is c.self.invariant c.requires (rw c.number-i.ensures at c.index-shape.ensures) (rw c.number-i.ensures at c.index-ends.ensures) in
    let low : FitsSigned w64 c.index-ends.result.now.lo = search rules in
    let first = rw (c.as_slice-listed.ensures.value, c.as_slice-bits.ensures.value, to_z-of_z w64 c.index-ends.result.now.lo low) at c.in-Some.ensures in
    let last = rw (c.as_slice-listed.ensures.value, c.as_slice-bits.ensures.value, to_z-of_z w64 c.index-ends.result.now.lo low) at c.in-Some-last_passing.ensures in
    let ps = passing c.self.inside.listed.items c.self.inside.current.bits.items _ c.index-shape.result.now c.index-ends.result.now (passes c.args.values.now c.args.wanted) c.in-Some.a c.in-Some-last_passing.a k.shaped k.held first last in
    let fits_a : FitsSigned w64 c.in-Some.a = search rules in
    rw (c.as_slice-listed.ensures.value, c.as_slice-bits.ensures.value, to_z-of_z w64 c.in-Some.a fits_a) ps.low

pub between-cut-requires-clause-order : goal.between-cut-requires-clause-order
between-cut-requires-clause-order c =
    let k = known c.self.inside.listed.items c.self.inside.shapes.items c.self.inside.current c.self.inside.saved.items c.args.self.now (number_of c.args.v) c.index-shape.result.now c.index-ends.result.now c.self.view_is c.self.invariant c.requires (rw c.number-i.ensures at c.index-shape.ensures) (rw c.number-i.ensures at c.index-ends.ensures) in
    let low : FitsSigned w64 c.index-ends.result.now.lo = search rules in
    let first = rw (c.as_slice-listed.ensures.value, c.as_slice-bits.ensures.value, to_z-of_z w64 c.index-ends.result.now.lo low) at c.in-Some.ensures in
    let last = rw (c.as_slice-listed.ensures.value, c.as_slice-bits.ensures.value, to_z-of_z w64 c.index-ends.result.now.lo low) at c.in-Some-last_passing.ensures in
    let ps = passing c.self.inside.listed.items c.self.inside.current.bits.items _ c.index-shape.result.now c.index-ends.result.now (passes c.args.values.now c.args.wanted) c.in-Some.a c.in-Some-last_passing.a k.shaped k.held first last in
    let fits_a : FitsSigned w64 c.in-Some.a = search rules in
    let fits_b : FitsSigned w64 c.in-Some-last_passing.a = search rules in
    rw (to_z-of_z w64 c.in-Some.a fits_a, to_z-of_z w64 c.in-Some-last_passing.a fits_b) ps.order

pub between-cut-requires-clause-high : goal.between-cut-requires-clause-high
between-cut-requires-clause-high c =
    let k = known c.self.inside.listed.items c.self.inside.shapes.items c.self.inside.current c.self.inside.saved.items c.args.self.now (number_of c.args.v) c.index-shape.result.now c.index-ends.result.now c.self.view_is c.self.invariant c.requires (rw c.number-i.ensures at c.index-shape.ensures) (rw c.number-i.ensures at c.index-ends.ensures) in
    let low : FitsSigned w64 c.index-ends.result.now.lo = search rules in
    let first = rw (c.as_slice-listed.ensures.value, c.as_slice-bits.ensures.value, to_z-of_z w64 c.index-ends.result.now.lo low) at c.in-Some.ensures in
    let last = rw (c.as_slice-listed.ensures.value, c.as_slice-bits.ensures.value, to_z-of_z w64 c.index-ends.result.now.lo low) at c.in-Some-last_passing.ensures in
    let ps = passing c.self.inside.listed.items c.self.inside.current.bits.items _ c.index-shape.result.now c.index-ends.result.now (passes c.args.values.now c.args.wanted) c.in-Some.a c.in-Some-last_passing.a k.shaped k.held first last in
    let fits_b : FitsSigned w64 c.in-Some-last_passing.a = search rules in
    rw (c.as_slice-listed.ensures.value, c.as_slice-bits.ensures.value, to_z-of_z w64 c.in-Some-last_passing.a fits_b) ps.high

pub put-requires-clause-less : goal.put-requires-clause-less
put-requires-clause-less c =
    let k = known c.self.inside.listed.items c.self.inside.shapes.items c.self.inside.current c.self.inside.saved.items c.args.self.now (number_of c.args.v) c.index-shape.result.now c.index-ends.result.now c.self.view_is c.self.invariant c.requires (rw c.number-i.ensures at c.index-shape.ensures) (rw c.number-i.ensures at c.index-ends.ensures) in
    let low : FitsSigned w64 c.index-ends.result.now.lo = search rules in
    let first = rw (c.as_slice-listed.ensures.value, c.as_slice-bits.ensures.value, to_z-of_z w64 c.index-ends.result.now.lo low) at c.in-Some.ensures in
    let last = rw (c.as_slice-listed.ensures.value, c.as_slice-bits.ensures.value, to_z-of_z w64 c.index-ends.result.now.lo low) at c.in-Some-last_passing.ensures in
    let ps = passing c.self.inside.listed.items c.self.inside.current.bits.items _ c.index-shape.result.now c.index-ends.result.now (passes c.args.values.now c.args.wanted) c.in-Some.a c.in-Some-last_passing.a k.shaped k.held first last in
    let fits_a : FitsSigned w64 c.in-Some.a = search rules in
    let fits_b : FitsSigned w64 c.in-Some-last_passing.a = search rules in
    let held = rw (c.as_slice-listed.ensures.value, c.as_slice-bits.ensures.value) at c.between-cut.ensures.held in
    let cut = rw (c.as_slice-listed.ensures.value, c.as_slice-bits.ensures.value, to_z-of_z w64 c.in-Some.a fits_a, to_z-of_z w64 c.in-Some-last_passing.a fits_b) at c.between-cut.ensures.values in
    let p = stays (variable_at c.args.self.now.vars (number_of c.args.v)) (passes c.args.values.now c.args.wanted) (set_of c.args.self.now.now.sets (number_of c.args.v)) in
    let values = cut_values c.self.inside.listed.items c.self.inside.current.bits.items _ c.index-shape.result.now c.index-ends.result.now c.between-cut.result (passes c.args.values.now c.args.wanted) c.in-Some.a c.in-Some-last_passing.a (variable_at c.args.self.now.vars (number_of c.args.v)) (set_of c.args.self.now.now.sets (number_of c.args.v)) k.shaped k.held k.set k.var c.in-None-marked_row.ensures ps cut in
    size_less c.self.inside.listed.items c.self.inside.current.bits.items _ c.index-shape.result.now c.index-ends.result.now c.between-cut.result p k.shaped k.held held values

pub invariant_of-self-in-None-marked_row : goal.invariant_of-self-in-None-marked_row
invariant_of-self-in-None-marked_row c =
    let k = known c.self.inside.listed.items c.self.inside.shapes.items c.self.inside.current c.self.inside.saved.items c.args.self.now (number_of c.args.v) c.index-shape.result.now c.index-ends.result.now c.self.view_is c.self.invariant c.requires (rw c.number-i.ensures at c.index-shape.ensures) (rw c.number-i.ensures at c.index-ends.ensures) in
    let low : FitsSigned w64 c.index-ends.result.now.lo = search rules in
    let first = rw (c.as_slice-listed.ensures.value, c.as_slice-bits.ensures.value, to_z-of_z w64 c.index-ends.result.now.lo low) at c.in-Some.ensures in
    let last = rw (c.as_slice-listed.ensures.value, c.as_slice-bits.ensures.value, to_z-of_z w64 c.index-ends.result.now.lo low) at c.in-Some-last_passing.ensures in
    let ps = passing c.self.inside.listed.items c.self.inside.current.bits.items _ c.index-shape.result.now c.index-ends.result.now (passes c.args.values.now c.args.wanted) c.in-Some.a c.in-Some-last_passing.a k.shaped k.held first last in
    let fits_a : FitsSigned w64 c.in-Some.a = search rules in
    let fits_b : FitsSigned w64 c.in-Some-last_passing.a = search rules in
    let held = rw (c.as_slice-listed.ensures.value, c.as_slice-bits.ensures.value) at c.between-cut.ensures.held in
    let put : PutAt c.self.inside.current c.put.new.self (number_of c.args.v) c.index-ends.result.now c.between-cut.result = record { ends = rw c.number-i.ensures at c.put.ensures.ends; bits = c.put.ensures.bits; left = c.put.ensures.left } in
    kept_put c.self.inside.listed.items c.self.inside.shapes.items c.self.inside.current c.put.new.self c.self.inside.saved.items c.args.self.now (number_of c.args.v) c.index-shape.result.now c.index-ends.result.now c.between-cut.result c.self.view_is c.self.invariant c.requires
    (rw c.number-i.ensures at c.index-shape.ensures) (rw c.number-i.ensures at c.index-ends.ensures) held put

pub returns-in-None-marked_row : goal.returns-in-None-marked_row
returns-in-None-marked_row c =
    let k = known c.self.inside.listed.items c.self.inside.shapes.items c.self.inside.current c.self.inside.saved.items c.args.self.now (number_of c.args.v) c.index-shape.result.now c.index-ends.result.now c.self.view_is c.self.invariant c.requires (rw c.number-i.ensures at c.index-shape.ensures) (rw c.number-i.ensures at c.index-ends.ensures) in
    let low : FitsSigned w64 c.index-ends.result.now.lo = search rules in
    let first = rw (c.as_slice-listed.ensures.value, c.as_slice-bits.ensures.value, to_z-of_z w64 c.index-ends.result.now.lo low) at c.in-Some.ensures in
    let last = rw (c.as_slice-listed.ensures.value, c.as_slice-bits.ensures.value, to_z-of_z w64 c.index-ends.result.now.lo low) at c.in-Some-last_passing.ensures in
    let ps = passing c.self.inside.listed.items c.self.inside.current.bits.items _ c.index-shape.result.now c.index-ends.result.now (passes c.args.values.now c.args.wanted) c.in-Some.a c.in-Some-last_passing.a k.shaped k.held first last in
    let fits_a : FitsSigned w64 c.in-Some.a = search rules in
    let fits_b : FitsSigned w64 c.in-Some-last_passing.a = search rules in
    let held = rw (c.as_slice-listed.ensures.value, c.as_slice-bits.ensures.value) at c.between-cut.ensures.held in
    let cut = rw (c.as_slice-listed.ensures.value, c.as_slice-bits.ensures.value, to_z-of_z w64 c.in-Some.a fits_a, to_z-of_z w64 c.in-Some-last_passing.a fits_b) at c.between-cut.ensures.values in
    let p = stays (variable_at c.args.self.now.vars (number_of c.args.v)) (passes c.args.values.now c.args.wanted) (set_of c.args.self.now.now.sets (number_of c.args.v)) in
    let values = cut_values c.self.inside.listed.items c.self.inside.current.bits.items _ c.index-shape.result.now c.index-ends.result.now c.between-cut.result (passes c.args.values.now c.args.wanted) c.in-Some.a c.in-Some-last_passing.a (variable_at c.args.self.now.vars (number_of c.args.v)) (set_of c.args.self.now.now.sets (number_of c.args.v)) k.shaped k.held k.set k.var c.in-None-marked_row.ensures ps cut in
    let put : PutAt c.self.inside.current c.put.new.self (number_of c.args.v) c.index-ends.result.now c.between-cut.result = record { ends = rw c.number-i.ensures at c.put.ensures.ends; bits = c.put.ensures.bits; left = c.put.ensures.left } in
    changed_put c.self.inside.listed.items c.self.inside.shapes.items c.self.inside.current c.put.new.self c.self.inside.saved.items c.args.self.now (number_of c.args.v) c.index-shape.result.now c.index-ends.result.now c.between-cut.result p c.put.result c.self.view_is c.self.invariant c.requires
    (rw c.number-i.ensures at c.index-shape.ensures) (rw c.number-i.ensures at c.index-ends.ensures) held values put c.put.ensures.moved
