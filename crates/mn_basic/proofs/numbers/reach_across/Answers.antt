use Rattle.std.proofs.Common.{FitsSigned, get_or, pos, rules, w64, arith}
use Rattle.std.proofs.lemmas.Int.{to_z-of_z}
use Rattle.mn_basic.proofs.Reached.{all_crossed, cross_on, spans}
use Rattle.mn_basic.proofs.numbers.reach_across.Goals as goal

pub loop-rest-preserved : goal.loop-rest-preserved
loop-rest-preserved c =
    let lo : FitsSigned w64 (get_or c.split_at.result.0.now 0 (pos 0)) = search rules in
    let hi : FitsSigned w64 (get_or c.split_at.result.0.now 1 (pos 0)) = search rules in
    cross_on c.args.ends.now c.loop-rest.rest.now c.split_at.result.0.now c.split_at.result.1.now c.args.own c.loop-rest.span c.of.result c.with-span.result c.loop-rest-test.true c.split_at.ensures.front c.split_at.ensures.back c.loop-rest.invariant c.with-span.ensures.before
    (spans c.of.result (get_or c.split_at.result.0.now 0 (pos 0)) (get_or c.split_at.result.0.now 1 (pos 0)) (rw (to_z-of_z w64 (get_or c.split_at.result.0.now 0 (pos 0)) lo) at c.of.ensures.lo) (rw (to_z-of_z w64 (get_or c.split_at.result.0.now 1 (pos 0)) hi) at c.of.ensures.hi)) c.with-span.ensures.added

pub returns : goal.returns
returns c = all_crossed c.args.ends.now c.loop-rest.rest.now c.args.own c.loop-rest.span (omega (arith, c.loop-rest-test.false)) c.loop-rest.invariant
