use Rattle.std.proofs.Common.{◌≡◌, ℤ, pos, nat_abs, ◌-ℤ◌, to_z, of_z, ap, ◌∙◌, rules, arith}
use Rattle.std.proofs.lemmas.Int.{ints}
use Rattle.mn_meaning.proofs.Places.{same_bits}
use Rattle.mn_meaning.proofs.sums.is_distance.Goals as goal
use mir.Syntax.{w128}

pub returns : goal.returns
returns c =
    let distance : c.from.result ≡ c.args.distance = omega (arith, ints) in
    let apart : to_z w128 (of_z w128 (to_z w128 (of_z w128 c.from-2.result) -ℤ to_z w128 (of_z w128 c.from-3.result))) ≡ c.args.a -ℤ c.args.b = omega (arith, ints) in
    same_bits w128 c.from.result c.abs.result c.args.distance _ (search rules) (search rules) distance (c.abs.ensures.value ∙ ap (λ (z : ℤ). pos (nat_abs z)) apart)
