use Rattle.std.proofs.Common.{arith, ap, Some, ◌∙◌, refl}
use Rattle.std.proofs.lemmas.Int.{ints}
use Rattle.mn_model.proofs.Stretches.{stretched_to}
use Rattle.mn_model.proofs.domain.Domain.nth.Goals as goal

pub overflow_cast-result : goal.overflow_cast-result
overflow_cast-result c =
    let at = stretched_to c.self.inside.lo c.self.inside.hi c.self.inside.listed c.args.self.now c.args.i c.self.invariant.ordered (c.if-is_empty.ensures.0 refl) c.self.view_is c.requires in
    grind (arith, ints, at.bound, c.self.invariant.low.0, c.self.invariant.high.1)

pub overflow_add-result : goal.overflow_add-result
overflow_add-result c =
    let at = stretched_to c.self.inside.lo c.self.inside.hi c.self.inside.listed c.args.self.now c.args.i c.self.invariant.ordered (c.if-is_empty.ensures.0 refl) c.self.view_is c.requires in
    grind (arith, ints, at.bound, c.self.invariant.low.0, c.self.invariant.high.1)

pub returns-then-is_empty : goal.returns-then-is_empty
returns-then-is_empty c =
    let at = stretched_to c.self.inside.lo c.self.inside.hi c.self.inside.listed c.args.self.now c.args.i c.self.invariant.ordered (c.if-is_empty.ensures.0 refl) c.self.view_is c.requires in
    at.value ∙ ap Some (omega (arith, ints, at.bound, c.self.invariant.low.0, c.self.invariant.high.1))
