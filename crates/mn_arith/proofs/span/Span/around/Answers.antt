use Rattle.std.proofs.Common.{◌≡◌, ℤ, ◌<ℤ◌, ◌⊎◌, inl, inr, FitsSigned, rules, w64, refl, arith, ◌∙◌}
use Rattle.std.proofs.lemmas.Int.{ints, to_z-of_z}
use Rattle.mn_arith.proofs.Distances.{around_so}
use Rattle.mn_arith.proofs.span.Span.around.Goals as goal

-- the same of numbers that are equal
moved : (end from over short r e f o s : ℤ) → end ≡ e → from ≡ f → over ≡ o → short ≡ s → ((end <ℤ from) × (r ≡ over)) ⊎ (r ≡ short) → ((e <ℤ f) × (r ≡ o)) ⊎ (r ≡ s)
moved end from over short r e f o s ends begins passes stays (inl gap) = let less = gap.0 in inl (omega (arith, ints, less, ends, begins), gap.1 ∙ passes)
moved end from over short r e f o s ends begins passes stays (inr same) = inr (same ∙ stays)

pub returns : goal.returns
returns c =
    let s = c.args.self in
    let x = c.args.x in
    let z = c.args.z in
    let least = c.least_size-least.result in
    let lo : FitsSigned w64 c.args.self.lo = search rules in
    let hi : FitsSigned w64 c.args.self.hi = search rules in
    let first : FitsSigned w64 c.args.x.lo = search rules in
    let last : FitsSigned w64 c.args.x.hi = search rules in
    let most : FitsSigned w64 c.args.z.hi = search rules in
    let small : FitsSigned w64 c.least_size-least.result = search rules in
    let b : FitsSigned w64 c.less-below.result = search rules in
    let a : FitsSigned w64 c.more-above.result = search rules in
    let l : FitsSigned w64 c.less.result = search rules in
    let m : FitsSigned w64 c.more.result = search rules in
    let p : FitsSigned w64 c.beyond.result = search rules in
    let q : FitsSigned w64 c.beyond-2.result = search rules in
    let below = rw (to_z-of_z w64 c.args.self.hi hi, to_z-of_z w64 c.least_size-least.result small) at c.less-below.ensures in
    let above = rw (to_z-of_z w64 c.args.self.lo lo, to_z-of_z w64 c.least_size-least.result small) at c.more-above.ensures in
    let far = rw (to_z-of_z w64 c.args.self.lo lo, to_z-of_z w64 c.args.z.hi most) at c.less.ensures in
    let farther = rw (to_z-of_z w64 c.args.self.hi hi, to_z-of_z w64 c.args.z.hi most) at c.more.ensures in
    let from = rw (to_z-of_z w64 c.less-below.result b, to_z-of_z w64 c.args.x.lo first, to_z-of_z w64 c.more-above.result a, to_z-of_z w64 c.less.result l) at c.beyond.ensures in
    let to = rw (to_z-of_z w64 c.args.x.hi last, to_z-of_z w64 c.more-above.result a, to_z-of_z w64 c.less-below.result b, to_z-of_z w64 c.more.result m) at c.beyond-2.ensures in
    rw (to_z-of_z w64 c.beyond.result p, to_z-of_z w64 c.beyond-2.result q) (around_so s x z least c.beyond.result c.beyond-2.result c.least_size-least.ensures (moved _ x.lo _ _ c.beyond.result _ x.lo _ _ below refl above far from) (moved x.hi _ _ _ c.beyond-2.result x.hi _ _ _ refl above below farther to))
