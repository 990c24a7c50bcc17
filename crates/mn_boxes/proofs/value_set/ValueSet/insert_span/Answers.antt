use Rattle.std.proofs.Common.{w64, FitsSigned, ◌≡◌, ℕ, ap, sym, subst, ◌∙◌, ◌&&◌, ◌||◌, int_le, nat_le, rules}
use Rattle.std.specs.Int.{int_gap}
use Rattle.std.proofs.lemmas.Int.{to_z-of_z}
use Rattle.mn_boxes.specs.Bits.{bit_of}
use Rattle.mn_boxes.specs.Values.{IsCovered, Values, members}
use Rattle.mn_boxes.proofs.Spans.{members_span}
use Rattle.mn_boxes.proofs.value_set.ValueSet.insert_span.Goals as goal

pub returns-clause-members : goal.returns-clause-members
returns-clause-members c = λ x.
    let low_fits : FitsSigned w64 c.self.inside.low = search rules in
    let first = subst (λ (s : Values). IsCovered s c.args.lo) (sym c.self.view_is) c.requires.low in
    let last = subst (λ (s : Values). IsCovered s c.args.hi) (sym c.self.view_is) c.requires.high in
    let from = rw (to_z-of_z w64 c.self.inside.low low_fits, to_z-of_z w64 c.args.lo c.ranges.lo) at c.bit_number-from.ensures in
    let to = rw (to_z-of_z w64 c.self.inside.low low_fits, to_z-of_z w64 c.args.hi c.ranges.hi) at c.bit_number-to.ensures in
    let bits : (i : ℕ) → bit_of c.mark_span.new.words.items i ≡ ((nat_le (int_gap c.self.inside.low c.args.lo) i && nat_le i (int_gap c.self.inside.low c.args.hi)) || bit_of c.self.inside.words.items i) = rw (from, to) at c.mark_span.ensures.bits in
    members_span c.self.inside.low c.self.inside.words.items c.mark_span.new.words.items c.args.lo c.args.hi x first.low last.low bits
    ∙ ap (λ (s : Values). (int_le c.args.lo x && int_le x c.args.hi) || members s x) c.self.view_is
