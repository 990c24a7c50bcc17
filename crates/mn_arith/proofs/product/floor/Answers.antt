use Rattle.std.proofs.Common.{ℤ, ◌<ℤ◌, ◌≤ℤ◌, ◌+ℤ◌, ◌*ℤ◌, FitsSigned, w64, rules, sym, subst}
use Rattle.std.proofs.lemmas.Int.{to_z-of_z}
use Rattle.mn_arith.proofs.Products.{rounded, rounded_down}
use Rattle.mn_arith.proofs.product.floor.Goals as goal

pub returns : goal.returns
returns c = λ b.
    let fits : FitsSigned w64 c.div_euclid.result = search rules in
    let is = rw (to_z-of_z w64 c.args.n c.ranges.n, to_z-of_z w64 c.args.a c.ranges.a) at c.div_euclid.ensures in
    let both = subst (λ (q : ℤ). ((c.args.a *ℤ q) ≤ℤ c.args.n) × (c.args.n <ℤ ((c.args.a *ℤ q) +ℤ c.args.a))) (sym is) (rounded c.args.n c.args.a c.requires.above) in
    rw (to_z-of_z w64 c.div_euclid.result fits) (rounded_down c.args.n c.args.a c.div_euclid.result c.requires.above both.0 both.1 b)
