use Rattle.std.proofs.Common.{◌+ℤ◌, FitsSigned, w64, rules}
use Rattle.std.proofs.lemmas.Int.{to_z-of_z}
use Rattle.mn_sums.proofs.Numbers.{above_within}
use Rattle.mn_sums.proofs.part.most_within.Goals as goal

pub returns : goal.returns
returns c = λ a.
    let fits : FitsSigned w64 c.quotient.result = search rules in
    let sum : FitsSigned w64 (c.args.lo +ℤ c.quotient.result) = search rules in
    let is = rw (to_z-of_z w64 c.args.w c.ranges.w, to_z-of_z w64 c.args.slack c.ranges.slack) at c.quotient.ensures.is in
    rw (to_z-of_z w64 c.args.lo c.ranges.lo, to_z-of_z w64 c.quotient.result fits, to_z-of_z w64 (c.args.lo +ℤ c.quotient.result) sum) (above_within c.args.w c.args.lo a c.args.slack c.quotient.result c.requires.above is)
