use Rattle.std.proofs.Common.{◌↔◌, IsTrue, sym, subst, w64}
use Rattle.std.proofs.lemmas.Int.{to_z-of_z}
use Rattle.mn_arith.specs.Hulls.{value_by}
use Rattle.mn_arith.specs.Spans.{HasPartner}
use Rattle.mn_arith.proofs.hull.Operation.has_partner.Goals as goal

pub returns-in-Difference : goal.returns-in-Difference
returns-in-Difference c = subst (λ f. IsTrue c.has_distance.result ↔ HasPartner (value_by f) c.args.a c.args.s c.args.z) (sym c.in-Difference.is) (rw (to_z-of_z w64 c.args.a c.ranges.a) at c.has_distance.ensures)

pub returns-in-Product : goal.returns-in-Product
returns-in-Product c = subst (λ f. IsTrue c.has_product.result ↔ HasPartner (value_by f) c.args.a c.args.s c.args.z) (sym c.in-Product.is) (rw (to_z-of_z w64 c.args.a c.ranges.a) at c.has_product.ensures)
