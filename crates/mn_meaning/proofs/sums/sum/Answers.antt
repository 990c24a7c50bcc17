use Rattle.std.proofs.Common.{w64, ap, arith, rules}
use Rattle.std.proofs.lemmas.Int.{ints}
use Rattle.std.specs.Int.RustNames.{FitsSigned}
use Rattle.mn_meaning.specs.Families.{sum_of}
use Rattle.mn_meaning.proofs.Places.{at_next}
use Rattle.mn_meaning.proofs.sums.sum.Goals as goal

pub loop-t-preserved : goal.loop-t-preserved
loop-t-preserved g c =
    let next = at_next (g.V.Values.values c.args.s.now) c.as_slice-t-items.result.now c.args.v.now c.loop-t.t-index _ c.value_at.result c.as_slice-t-items.ensures c.loop-t-test.true c.value_at.ensures in
    let summed = ap sum_of next in
    let fits : FitsSigned w64 c.value_at.result = search rules in
    record { whole = omega (arith, ints); least = omega (arith, ints); most = omega (arith, ints) }
