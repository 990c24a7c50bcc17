use Rattle.std.proofs.Common.{FitsSigned, rules, w64, arith, sym, ap, ◌∙◌}
use Rattle.std.proofs.lemmas.Int.{ints, to_z-of_z}
use Rattle.mn_model.specs.Variable.{number_of}
use Rattle.mn_boxes.specs.Sets.{least}
use Rattle.mn_boxes.specs.Values.{members}
use Rattle.mn_domains.specs.Held.{values_held}
use Rattle.mn_domains.proofs.Firsts.{any_least, any_none}
use Rattle.mn_domains.proofs.ShapeLemmas.{Ascends-held}
use Rattle.mn_domains.proofs.Sifted.{from_least}
use Rattle.mn_domains.proofs.Standing.{known, stands_at}
use Rattle.mn_domains.proofs.doms.Doms.meets.Goals as goal

pub index-ends-requires : goal.index-ends-requires
index-ends-requires c =
    let st = stands_at c.self.inside.listed.items c.self.inside.shapes.items c.self.inside.current c.self.inside.saved.items c.args.self.now (number_of c.args.v) c.self.view_is c.self.invariant c.requires in
    omega (arith, st.in_ends, c.self.inside.current.ends.ok.0, c.number-i.ensures)

pub index-requires : goal.index-requires
index-requires c =
    let st = stands_at c.self.inside.listed.items c.self.inside.shapes.items c.self.inside.current c.self.inside.saved.items c.args.self.now (number_of c.args.v) c.self.view_is c.self.invariant c.requires in
    omega (arith, st.in_shapes, c.self.inside.shapes.ok.0, c.number-i.ensures)

pub next_passing-found-requires-clause-shape : goal.next_passing-found-requires-clause-shape
next_passing-found-requires-clause-shape c =
    let k = known c.self.inside.listed.items c.self.inside.shapes.items c.self.inside.current c.self.inside.saved.items c.args.self.now (number_of c.args.v) c.index.result.now c.index-ends.result.now c.self.view_is c.self.invariant c.requires (rw c.number-i.ensures at c.index.ensures) (rw c.number-i.ensures at c.index-ends.ensures) in
    rw (c.as_slice.ensures.value, c.as_slice-2.ensures.value) k.shaped

pub next_passing-found-requires-clause-held : goal.next_passing-found-requires-clause-held
next_passing-found-requires-clause-held c =
    let k = known c.self.inside.listed.items c.self.inside.shapes.items c.self.inside.current c.self.inside.saved.items c.args.self.now (number_of c.args.v) c.index.result.now c.index-ends.result.now c.self.view_is c.self.invariant c.requires (rw c.number-i.ensures at c.index.ensures) (rw c.number-i.ensures at c.index-ends.ensures) in
    rw (c.as_slice.ensures.value, c.as_slice-2.ensures.value) k.held

pub returns-in-Some : goal.returns-in-Some
returns-in-Some c =
    let k = known c.self.inside.listed.items c.self.inside.shapes.items c.self.inside.current c.self.inside.saved.items c.args.self.now (number_of c.args.v) c.index.result.now c.index-ends.result.now c.self.view_is c.self.invariant c.requires (rw c.number-i.ensures at c.index.ensures) (rw c.number-i.ensures at c.index-ends.ensures) in
    let low : FitsSigned w64 c.index-ends.result.now.lo = search rules in
    let xs = values_held c.self.inside.listed.items c.self.inside.current.bits.items c.index.result.now c.index-ends.result.now in
    let up = Ascends-held c.self.inside.listed.items c.self.inside.current.bits.items _ c.index.result.now c.index-ends.result.now k.shaped k.held.within in
    let all = from_least xs c.index-ends.result.now c.index-ends.result.now.lo (members c.args.values.now) up k.held.ends (omega (arith, ints)) in
    let found = rw (c.as_slice.ensures.value, c.as_slice-2.ensures.value, to_z-of_z w64 c.index-ends.result.now.lo low) at c.next_passing-found.ensures in
    rw k.set (sym (any_least (members c.args.values.now) xs c.in-Some.field-0 (sym (ap least all) ∙ (sym found ∙ c.in-Some.is))))

pub returns-in-None : goal.returns-in-None
returns-in-None c =
    let k = known c.self.inside.listed.items c.self.inside.shapes.items c.self.inside.current c.self.inside.saved.items c.args.self.now (number_of c.args.v) c.index.result.now c.index-ends.result.now c.self.view_is c.self.invariant c.requires (rw c.number-i.ensures at c.index.ensures) (rw c.number-i.ensures at c.index-ends.ensures) in
    let low : FitsSigned w64 c.index-ends.result.now.lo = search rules in
    let xs = values_held c.self.inside.listed.items c.self.inside.current.bits.items c.index.result.now c.index-ends.result.now in
    let up = Ascends-held c.self.inside.listed.items c.self.inside.current.bits.items _ c.index.result.now c.index-ends.result.now k.shaped k.held.within in
    let all = from_least xs c.index-ends.result.now c.index-ends.result.now.lo (members c.args.values.now) up k.held.ends (omega (arith, ints)) in
    let found = rw (c.as_slice.ensures.value, c.as_slice-2.ensures.value, to_z-of_z w64 c.index-ends.result.now.lo low) at c.next_passing-found.ensures in
    rw k.set (sym (any_none (members c.args.values.now) xs (sym (ap least all) ∙ (sym found ∙ c.in-None.is))))
