use Rattle.std.proofs.Common.{FitsSigned, get_or, pos, rules, w64}
use Rattle.std.proofs.lemmas.Int.{to_z-of_z}
use Rattle.mn_basic.proofs.Reached.{reach_on, spans}
use Rattle.mn_basic.proofs.numbers.reach_of.Goals as goal

pub loop-k-preserved : goal.loop-k-preserved
loop-k-preserved c =
    let fits : FitsSigned w64 (get_or c.as_slice-k-items.result.now c.loop-k.k-index (pos 0)) = search rules in
    reach_on c.as_slice-k-items.result.now c.args.ks.now c.loop-k.k-index (pos 0) c.args.own c.loop-k.span c.of.result c.with-span.result c.as_slice-k-items.ensures c.loop-k-test.true c.loop-k.invariant c.with-span.ensures.before
    (spans c.of.result (get_or c.as_slice-k-items.result.now c.loop-k.k-index (pos 0)) (get_or c.as_slice-k-items.result.now c.loop-k.k-index (pos 0)) (rw (to_z-of_z w64 (get_or c.as_slice-k-items.result.now c.loop-k.k-index (pos 0)) fits) at c.of.ensures.lo) (rw (to_z-of_z w64 (get_or c.as_slice-k-items.result.now c.loop-k.k-index (pos 0)) fits) at c.of.ensures.hi)) c.with-span.ensures.added
