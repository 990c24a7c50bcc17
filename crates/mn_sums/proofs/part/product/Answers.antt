use Rattle.std.proofs.Common.{sym, subst}
use Rattle.mn_meaning.proofs.Near.{near_product}
use Rattle.mn_sums.specs.Parts.{IsSmall}
use Rattle.mn_sums.proofs.Numbers.{exact_product}
use Rattle.mn_sums.proofs.part.product.Goals as goal

pub returns-clause-is : goal.returns-clause-is
returns-clause-is c = exact_product c.args.a c.args.b c.ranges.a c.ranges.b (near_product c.args.a c.args.b c.requires.weight c.requires.value)

pub returns-clause-small : goal.returns-clause-small
returns-clause-small c =
    let bounds = near_product c.args.a c.args.b c.requires.weight c.requires.value in
    subst IsSmall (sym (exact_product c.args.a c.args.b c.ranges.a c.ranges.b bounds)) bounds
