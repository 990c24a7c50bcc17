use Rattle.std.proofs.Common.{w64}
use Rattle.std.proofs.lemmas.Int.{to_z-of_z}
use Rattle.mn_model.proofs.Stretches.{IsDomainFrom-stretch}
use Rattle.mn_model.proofs.domain.Domain.stretch.Goals as goal

pub invariant_of-result : goal.invariant_of-result
invariant_of-result c =
    rw (to_z-of_z w64 c.args.lo c.ranges.lo, to_z-of_z w64 c.args.hi c.ranges.hi, c.new.ensures) (IsDomainFrom-stretch c.args.lo c.args.hi c.requires.ordered c.requires.low c.requires.high)
