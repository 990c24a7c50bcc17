use Rattle.std.proofs.Common.{FitsSigned, get_or, pos, rules, w64}
use Rattle.std.proofs.lemmas.Int.{to_z-of_z}
use Rattle.mn_basic.proofs.Reached.{remain_on}
use Rattle.mn_basic.proofs.numbers.raised_past.Goals as goal

pub loop-k-preserved : goal.loop-k-preserved
loop-k-preserved c =
    let fits : FitsSigned w64 (get_or c.as_slice-k-items.result.now c.loop-k.k-index (pos 0)) = search rules in
    remain_on c.as_slice-k-items.result.now c.args.ks.now c.loop-k.k-index (pos 0) c.args.own c.loop-k.span c.without-span.result c.as_slice-k-items.ensures c.loop-k-test.true c.loop-k.invariant
    (rw (to_z-of_z w64 (get_or c.as_slice-k-items.result.now c.loop-k.k-index (pos 0)) fits) at c.without-span.ensures)
