use Rattle.std.proofs.Common.{ℤ, sym, subst}
use Rattle.mn_arith.specs.Hulls.{value_by}
use Rattle.mn_arith.specs.Spans.{HasPartner, IsIn}
use Rattle.mn_arith.proofs.hull.Operation.operands.Goals as goal

pub returns-in-Difference : goal.returns-in-Difference
returns-in-Difference c = subst (λ f. (a : ℤ) → IsIn c.args.x a → HasPartner (value_by f) a c.args.s c.args.z → IsIn c.around.result a) (sym c.in-Difference.is) c.around.ensures

pub returns-in-Product : goal.returns-in-Product
returns-in-Product c = subst (λ f. (a : ℤ) → IsIn c.args.x a → HasPartner (value_by f) a c.args.s c.args.z → IsIn c.factors.result a) (sym c.in-Product.is) c.factors.ensures
