use Rattle.std.proofs.Common.{FitsSigned, rules, w64, sym, ap, ◌∙◌, arith}
use Rattle.std.proofs.lemmas.Int.{ints, to_z-of_z}
use Rattle.mn_boxes.specs.Sets.{least}
use Rattle.mn_domains.specs.Held.{values_held}
use Rattle.mn_domains.specs.Rows.{passes}
use Rattle.mn_domains.proofs.ShapeLemmas.{Ascends-held}
use Rattle.mn_domains.proofs.Sifted.{from_least, from_past}
use Rattle.mn_domains.proofs.shape.next_passing.Goals as goal

pub returns-then-ends-from : goal.returns-then-ends-from
returns-then-ends-from c =
    let up = Ascends-held c.args.listed.now c.args.bits.now _ c.args.shape c.args.ends c.requires.shape c.requires.held.within in
    sym (ap least (from_past (values_held c.args.listed.now c.args.bits.now c.args.shape c.args.ends) c.args.ends c.args.from (passes c.args.set.now c.args.wanted) up c.requires.held.ends (omega (arith, ints))))

pub returns-then-from-ends : goal.returns-then-from-ends
returns-then-from-ends c =
    let low : FitsSigned w64 c.args.ends.lo = search rules in
    let up = Ascends-held c.args.listed.now c.args.bits.now _ c.args.shape c.args.ends c.requires.shape c.requires.held.within in
    let xs = values_held c.args.listed.now c.args.bits.now c.args.shape c.args.ends in
    let p = passes c.args.set.now c.args.wanted in
    let all = from_least xs c.args.ends c.args.ends.lo p up c.requires.held.ends (omega (arith, ints)) in
    let these = from_least xs c.args.ends c.args.from p up c.requires.held.ends (omega (arith, ints)) in
    (rw (to_z-of_z w64 c.args.ends.lo low) at c.first_passing.ensures) ∙ ap least (all ∙ sym these)
