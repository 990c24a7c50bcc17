use Rattle.std.proofs.Common.{◌≡◌, arith, ap, length, pos, ◌-ℤ◌, ◌+ℤ◌, ◌∙◌, refl}
use Rattle.std.proofs.lemmas.Int.{ints}
use Rattle.mn_model.proofs.Stretches.{length-stretch, domain_is_stretch}
use Rattle.mn_model.proofs.domain.Domain.size.Goals as goal

pub returns-then-is_empty : goal.returns-then-is_empty
returns-then-is_empty c =
    let ordered = c.self.invariant.ordered in
    let low = c.self.invariant.low in
    let high = c.self.invariant.high in
    let is = domain_is_stretch c.self.inside.lo c.self.inside.hi c.self.inside.listed c.args.self.now (c.if-is_empty.ensures.0 refl) c.self.view_is in
    let long : pos (length c.args.self.now) ≡ c.self.inside.hi -ℤ c.self.inside.lo +ℤ pos 1 = ap (λ values. pos (length values)) is ∙ length-stretch c.self.inside.lo c.self.inside.hi ordered in
    omega (arith, ints, c.abs_diff.ensures, long, low.0, low.1, high.0, high.1)
