use Rattle.std.proofs.Common.{arith}
use Rattle.std.proofs.lemmas.Int.{ints}
use Rattle.mn_meaning.proofs.sums.is_at_most.Goals as goal

pub returns : goal.returns
returns c = (λ e. omega (arith, ints, e), λ le. grind (arith, ints, le))
