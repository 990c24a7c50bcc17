use Rattle.std.proofs.Common.{ℤ, ◌<ℤ◌, ◌≤ℤ◌, ◌+ℤ◌, ◌*ℤ◌, FitsSigned, w64, rules, sym, subst}
use Rattle.std.proofs.lemmas.Int.{to_z-of_z}
use Rattle.mn_sums.proofs.Numbers.{euclid_floor, quotient_is}
use Rattle.mn_sums.proofs.part.quotient.Goals as goal

pub returns-clause-is : goal.returns-clause-is
returns-clause-is c = λ d.
    let fits : FitsSigned w64 c.div_euclid.result = search rules in
    let is = rw (to_z-of_z w64 c.args.a c.ranges.a, to_z-of_z w64 c.args.b c.ranges.b) at c.div_euclid.ensures in
    let floor = euclid_floor c.args.a c.args.b c.requires.above in
    let both = subst (λ (q : ℤ). ((c.args.b *ℤ q) ≤ℤ c.args.a) × (c.args.a <ℤ ((c.args.b *ℤ q) +ℤ c.args.b))) (sym is) floor in
    rw (to_z-of_z w64 c.div_euclid.result fits) (quotient_is c.args.a c.args.b c.div_euclid.result d c.requires.above both.0 both.1)
