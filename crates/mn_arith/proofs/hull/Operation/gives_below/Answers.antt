use Rattle.std.proofs.Common.{◌↔◌, IsTrue, sym, subst, w64}
use Rattle.std.proofs.lemmas.Int.{to_z-of_z}
use Rattle.mn_arith.specs.Hulls.{value_by}
use Rattle.mn_arith.specs.Spans.{GivesBelow}
use Rattle.mn_arith.proofs.hull.Operation.gives_below.Goals as goal

pub returns-in-Difference : goal.returns-in-Difference
returns-in-Difference c = subst (λ f. IsTrue c.is_near.result ↔ GivesBelow (value_by f) c.args.a c.args.s c.args.u) (sym c.in-Difference.is) (rw (to_z-of_z w64 c.args.a c.ranges.a) at c.is_near.ensures)

pub returns-in-Product : goal.returns-in-Product
returns-in-Product c = subst (λ f. IsTrue c.has_product_to.result ↔ GivesBelow (value_by f) c.args.a c.args.s c.args.u) (sym c.in-Product.is) (rw (to_z-of_z w64 c.args.a c.ranges.a) at c.has_product_to.ensures)
