use Rattle.mn_meaning.proofs.Near.{near_product}
use Rattle.mn_arith.proofs.Products.{exact_product}
use Rattle.mn_arith.proofs.product.times.Goals as goal

pub returns : goal.returns
returns c = exact_product c.args.a c.args.b c.ranges.a c.ranges.b (near_product c.args.a c.args.b c.requires.first c.requires.second)
