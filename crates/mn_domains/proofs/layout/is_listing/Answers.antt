use Rattle.std.proofs.Common.{arith}
use Rattle.mn_domains.proofs.Laying.{same_by_slice_get}
use Rattle.mn_domains.proofs.layout.is_listing.Goals as goal

pub returns : goal.returns
returns c = λ t. same_by_slice_get c.args.values.now c.args.domain.now (omega arith) (λ k below. c.loop-i.invariant k (omega arith))
