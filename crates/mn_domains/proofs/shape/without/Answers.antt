use Rattle.std.proofs.Common.{◌≡◌, pos, ◌+ℤ◌, ◌-ℤ◌, FitsSigned, int_le, filter, rules, w64, to_z, of_z, arith, ◌∙◌}
use Rattle.std.proofs.lemmas.Int.{ints, to_z-of_z}
use Rattle.mn_domains.specs.Held.{values_held}
use Rattle.mn_domains.proofs.ShapeLemmas.{outside_none, without_hi, without_lo, without_none}
use Rattle.mn_domains.proofs.shape.without.Goals as goal

pub returns-then-a-ends-clause-values : goal.returns-then-a-ends-clause-values
returns-then-a-ends-clause-values c =
    let next : FitsSigned w64 (c.args.a +ℤ pos 1) = search rules in
    let cut : values_held c.args.listed.now c.args.bits.now c.args.shape c.cut_low.result ≡ filter (λ x. int_le (to_z w64 (of_z w64 (to_z w64 (of_z w64 c.args.a) +ℤ pos 1))) x) (values_held c.args.listed.now c.args.bits.now c.args.shape c.args.ends) = c.cut_low.ensures.values in
    let values = rw (to_z-of_z w64 c.args.a c.ranges.a, to_z-of_z w64 (c.args.a +ℤ pos 1) next) at cut in
    let is : c.args.a ≡ c.args.ends.lo = omega (arith, ints) in
    rw is (rw is at values ∙ without_lo c.args.listed.now c.args.bits.now _ c.args.shape c.args.ends c.requires.shape c.requires.held)

pub returns-then-a-ends-2-clause-values : goal.returns-then-a-ends-2-clause-values
returns-then-a-ends-2-clause-values c =
    let before : FitsSigned w64 (c.args.a -ℤ pos 1) = search rules in
    let cut : values_held c.args.listed.now c.args.bits.now c.args.shape c.cut_high.result ≡ filter (λ x. int_le x (to_z w64 (of_z w64 (to_z w64 (of_z w64 c.args.a) -ℤ pos 1)))) (values_held c.args.listed.now c.args.bits.now c.args.shape c.args.ends) = c.cut_high.ensures.values in
    let values = rw (to_z-of_z w64 c.args.a c.ranges.a, to_z-of_z w64 (c.args.a -ℤ pos 1) before) at cut in
    let is : c.args.a ≡ c.args.ends.hi = omega (arith, ints) in
    rw is (rw is at values ∙ without_hi c.args.listed.now c.args.bits.now _ c.args.shape c.args.ends c.requires.shape c.requires.held)

pub returns-clause-values : goal.returns-clause-values
returns-clause-values c =
    without_none (values_held c.args.listed.now c.args.bits.now c.args.shape c.args.ends) c.args.a
    (outside_none c.args.listed.now c.args.bits.now _ c.args.shape c.args.ends c.args.a c.requires.shape c.requires.held (λ is. omega (arith, ints, is)) (λ is. omega (arith, ints, is)) c.requires.outer)
