use Rattle.std.proofs.Common.{◌≡◌, ◌*ℤ◌, to_z, of_z, rules, arith}
use Rattle.std.proofs.lemmas.Int.{ints}
use Rattle.mn_meaning.proofs.Places.{same_bits}
use Rattle.mn_meaning.proofs.sums.is_product.Goals as goal
use mir.Syntax.{w128}

pub returns : goal.returns
returns c =
    let product : c.from.result ≡ c.args.product = omega (arith, ints) in
    let a : to_z w128 (of_z w128 c.from-2.result) ≡ c.args.a = omega (arith, ints) in
    let b : to_z w128 (of_z w128 c.from-3.result) ≡ c.args.b = omega (arith, ints) in
    same_bits w128 c.from.result _ c.args.product _ (search rules) (search rules) product (λ i. a i *ℤ b i)
