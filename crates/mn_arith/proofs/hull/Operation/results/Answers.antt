use Rattle.std.proofs.Common.{ℤ, sym, subst}
use Rattle.mn_arith.specs.Hulls.{value_by}
use Rattle.mn_arith.specs.Spans.{GivesAbove, GivesBelow, IsIn}
use Rattle.mn_arith.proofs.hull.Operation.results.Goals as goal

pub returns-in-Difference : goal.returns-in-Difference
returns-in-Difference c = subst (λ f. (a : ℤ) → GivesBelow (value_by f) a c.args.s c.args.u → GivesAbove (value_by f) a c.args.s c.args.u → IsIn c.distances.result a) (sym c.in-Difference.is) c.distances.ensures

pub returns-in-Product : goal.returns-in-Product
returns-in-Product c = subst (λ f. (a : ℤ) → GivesBelow (value_by f) a c.args.s c.args.u → GivesAbove (value_by f) a c.args.s c.args.u → IsIn c.products.result a) (sym c.in-Product.is) c.products.ensures
