use Rattle.std.proofs.Common.{◌↔◌, ◌*ℤ◌, ◌≤ℤ◌, ℤ, neg_ℤ, FitsSigned, w64, rules, subst, arith}
use Rattle.std.proofs.lemmas.Int.{ints, to_z-of_z}
use Rattle.mn_arith.proofs.Products.{exact_turned, quotient_near, rounded_up}
use Rattle.mn_arith.proofs.product.ceiling.Goals as goal

-- what the quotient of the number with its sign turned is
down : (c : goal.After-floor) → (b : ℤ) → b ≤ℤ c.floor.result ↔ (c.args.a *ℤ b) ≤ℤ neg_ℤ c.args.n
down c =
    let near = c.requires.near in
    subst (λ (n : ℤ). (b : ℤ) → b ≤ℤ c.floor.result ↔ (c.args.a *ℤ b) ≤ℤ n) (exact_turned c.args.n (omega (arith, ints, near.0)) (omega (arith, ints, near.1))) (rw (to_z-of_z w64 c.args.a c.ranges.a) at c.floor.ensures)

pub overflow_sub-result : goal.overflow_sub-result
overflow_sub-result c =
    let fits : FitsSigned w64 c.floor.result = search rules in
    let low = quotient_near c.args.n c.args.a c.floor.result c.requires.above c.requires.near (down c) in
    rw (to_z-of_z w64 c.floor.result fits) (omega (arith, ints, low, fits))

pub returns : goal.returns
returns c = λ b.
    let fits : FitsSigned w64 c.floor.result = search rules in
    let low = quotient_near c.args.n c.args.a c.floor.result c.requires.above c.requires.near (down c) in
    rw (exact_turned c.floor.result (omega (arith, ints, low)) (omega (arith, ints, fits))) (rounded_up c.args.n c.args.a c.floor.result (down c) b)
