use Rattle.std.proofs.Common.{◌≡◌, ◌-ℤ◌, ◌*ℤ◌, ◌≤ℤ◌, ◌↔◌, ℤ, pos, neg_ℤ, FitsSigned, to_z, of_z, w64, rules, subst, arith}
use Rattle.std.proofs.lemmas.Int.{ints, to_z-of_z}
use Rattle.mn_sums.proofs.Numbers.{below_within}
use Rattle.mn_sums.proofs.part.least_within.Goals as goal

pub returns : goal.returns
returns c = λ a.
    let fits : FitsSigned w64 c.quotient.result = search rules in
    let turned : to_z w64 (of_z w64 (pos 0 -ℤ to_z w64 (of_z w64 c.args.w))) ≡ neg_ℤ c.args.w = omega (arith, ints, c.requires.weight.0, c.requires.weight.1) in
    let apart : FitsSigned w64 (c.args.hi -ℤ c.quotient.result) = search rules in
    let is = subst (λ (w : ℤ). (d : ℤ) → d ≤ℤ c.quotient.result ↔ (w *ℤ d) ≤ℤ c.args.slack) turned (rw (to_z-of_z w64 c.args.slack c.ranges.slack) at c.quotient.ensures.is) in
    rw (to_z-of_z w64 c.args.hi c.ranges.hi, to_z-of_z w64 c.quotient.result fits, to_z-of_z w64 (c.args.hi -ℤ c.quotient.result) apart) (below_within c.args.w c.args.hi a c.args.slack c.quotient.result c.requires.below is)
