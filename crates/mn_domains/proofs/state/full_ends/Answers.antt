use Rattle.std.proofs.Common.{◌^◌, ◌≤◌, arith}
use Rattle.std.proofs.lemmas.List.{get_or_default}
use Rattle.mn_model.proofs.Lists.{all_push}
use Rattle.mn_domains.specs.declared.shape.Ends.{Ends}
use Rattle.mn_domains.proofs.Full.{full_more}
use Rattle.mn_domains.proofs.state.full_ends.Goals as goal

pub loop-shape-preserved : goal.loop-shape-preserved
loop-shape-preserved c = rw c.in_ok-push.ensures.items (record {
  full = full_more c.args.listed.now c.args.shapes.now c.loop-shape.ends.items c.loop-shape.shape-index _ c.full.result (omega arith) (get_or_default c.args.shapes.now c.loop-shape.shape-index _ _ (omega arith)) c.loop-shape.invariant.full c.full.ensures.full;
  small = all_push (λ (e : Ends). e.size ≤ 2 ^ 32) c.loop-shape.ends.items c.full.result c.loop-shape.invariant.small c.full.ensures.few;
})
