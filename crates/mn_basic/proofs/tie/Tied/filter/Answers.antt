use Rattle.std.proofs.Common.{subst, sym}
use Rattle.mn_closure.specs.Closed.{LeafClosed}
use Rattle.mn_prop.specs.Posts.{IsReady}
use Rattle.mn_prop.proofs.Narrowing.{narrows_step}
use Rattle.mn_prop.proofs.Stepping.{same_vars}
use Rattle.mn_basic.specs.Ties.{tie_of}
use Rattle.mn_basic.proofs.tie.Tied.filter.Goals as goal

pub revise_second-requires : goal.revise_second-requires
revise_second-requires c =
    let s = c.args.self.now in
    subst (λ vars. IsReady vars s.inst.now.tuples (tie_of s.tie s.x s.y)) (sym (same_vars c.cut_first.ensures.loses)) c.requires

pub returns : goal.returns
returns c =
    let s = c.args.self.now in
    narrows_step (λ vars. LeafClosed vars s.inst.now.tuples (tie_of s.tie s.x s.y)) c.in_ok-cut_first.ensures c.revise_second.ensures
