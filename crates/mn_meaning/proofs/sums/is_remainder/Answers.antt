use Rattle.std.proofs.Common.{◌≡◌, ◌-ℤ◌, ◌*ℤ◌, to_z, of_z, w64, ◌∙◌, rules, arith}
use Rattle.std.proofs.lemmas.Int.{ints, to_z-of_z}
use Rattle.mn_meaning.specs.Families.{quotient}
use Rattle.mn_meaning.proofs.Places.{same_bits}
use Rattle.mn_meaning.proofs.Quotients.{product_between}
use Rattle.mn_meaning.proofs.sums.is_remainder.Goals as goal
use mir.Syntax.{w128}

pub overflow_sub-result : goal.overflow_sub-result
overflow_sub-result c =
    let b : to_z w128 (of_z w128 c.from-then-b-ne0-2.result) ≡ c.args.b = omega (arith, ints) in
    let exact : c.quotient.result ≡ quotient c.args.a c.args.b = c.quotient.ensures ∙ (λ i. quotient (to_z-of_z w64 c.args.a c.ranges.a i) (to_z-of_z w64 c.args.b c.ranges.b i)) in
    let q = to_z-of_z w128 c.quotient.result (search rules) ∙ exact in
    let product : to_z w128 (of_z w128 c.from-then-b-ne0-2.result) *ℤ to_z w128 (of_z w128 c.quotient.result) ≡ c.args.b *ℤ quotient c.args.a c.args.b = λ i. b i *ℤ q i in
    let bounds = product_between c.args.a c.args.b c.ranges.a c.ranges.b in
    omega (arith, ints, product, bounds.0, bounds.1)

pub returns-then-b-ne0 : goal.returns-then-b-ne0
returns-then-b-ne0 c =
    let a : to_z w128 (of_z w128 c.from-then-b-ne0.result) ≡ c.args.a = omega (arith, ints) in
    let b : to_z w128 (of_z w128 c.from-then-b-ne0-2.result) ≡ c.args.b = omega (arith, ints) in
    let exact : c.quotient.result ≡ quotient c.args.a c.args.b = c.quotient.ensures ∙ (λ i. quotient (to_z-of_z w64 c.args.a c.ranges.a i) (to_z-of_z w64 c.args.b c.ranges.b i)) in
    let q = to_z-of_z w128 c.quotient.result (search rules) ∙ exact in
    let product : to_z w128 (of_z w128 c.from-then-b-ne0-2.result) *ℤ to_z w128 (of_z w128 c.quotient.result) ≡ c.args.b *ℤ quotient c.args.a c.args.b = λ i. b i *ℤ q i in
    let bounds = product_between c.args.a c.args.b c.ranges.a c.ranges.b in
    let left : c.from.result ≡ c.args.r = omega (arith, ints) in
    let rest = same_bits w128 c.from.result (to_z w128 (of_z w128 c.from-then-b-ne0.result) -ℤ to_z w128 (of_z w128 (to_z w128 (of_z w128 c.from-then-b-ne0-2.result) *ℤ to_z w128 (of_z w128 c.quotient.result)))) c.args.r (c.args.a -ℤ c.args.b *ℤ quotient c.args.a c.args.b) (search rules) (omega (arith, ints, product, bounds.0, bounds.1)) left (omega (arith, ints, product, bounds.0, bounds.1)) in
    (λ e. (λ zero. omega (arith, ints, zero), rest.0 e), λ both. rest.1 both.1)
