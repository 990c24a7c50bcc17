use Rattle.std.proofs.Common.{◌+◌, w64, arith}
use Rattle.std.proofs.lemmas.Int.{ints, to_z-of_z}
use Rattle.mn_domains.proofs.ShapeLemmas.{stretch_ends}
use Rattle.mn_domains.proofs.shape.stretched.Goals as goal

pub returns-clause-ends : goal.returns-clause-ends
returns-clause-ends c =
    rw (to_z-of_z w64 c.args.lo c.ranges.lo, to_z-of_z w64 c.args.hi c.ranges.hi)
    (stretch_ends c.args.lo c.args.hi (c.abs_diff.result + 1) 0 c.requires.ordered c.requires.low c.requires.high (omega (arith, ints, c.abs_diff.ensures, c.requires.low.0, c.requires.low.1, c.requires.high.0, c.requires.high.1, c.requires.ordered)))
