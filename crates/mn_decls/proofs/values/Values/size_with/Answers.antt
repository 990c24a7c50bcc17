use Rattle.std.proofs.Common.{rules, ◌≡◌, ◌+◌, ◌-◌, length, ◌-ℤ◌, ◌+ℤ◌, pos, to_z, of_z, w64, ap, ◌∙◌}
use Rattle.std.proofs.lemmas.Int.{to_z-of_z}
use Rattle.mn_decls.proofs.Ranges.{counted_up}
use Rattle.mn_decls.proofs.values.Values.size_with.Goals as goal

pub returns : goal.returns
returns c =
    let same : c.as_slice-values.result.now ≡ c.args.self.now = search rules in
    ap (λ l. c.places_below-below.result + c.span.result + (length l - c.places_to.result)) same
    ∙ counted_up c.args.self.now c.args.lo c.args.hi c.places_below-below.result c.places_to.result c.span.result c.requires.ordered (search rules) (search rules) (search rules) (search rules) (c.span.ensures ∙ ap (λ z. (z -ℤ to_z w64 (of_z w64 c.args.lo)) +ℤ pos 1) (to_z-of_z w64 c.args.hi c.ranges.hi) ∙ ap (λ z. (c.args.hi -ℤ z) +ℤ pos 1) (to_z-of_z w64 c.args.lo c.ranges.lo))
