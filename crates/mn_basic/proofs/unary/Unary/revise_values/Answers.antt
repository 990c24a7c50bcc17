use Rattle.std.proofs.Common.{subst, sym}
use Rattle.mn_closure.specs.Closed.{LeafClosed}
use Rattle.mn_prop.specs.Posts.{IsReady}
use Rattle.mn_prop.proofs.Narrowing.{narrows_step}
use Rattle.mn_prop.proofs.Stepping.{same_vars}
use Rattle.mn_basic.specs.Unaries.{literal_of}
use Rattle.mn_basic.proofs.unary.Unary.revise_values.Goals as goal

pub revise_all-requires : goal.revise_all-requires
revise_all-requires c =
    let s = c.args.self.now in
    subst (λ vars. IsReady vars s.inst.now.tuples (literal_of s.numbers s.x)) (sym (same_vars c.cut_ends.ensures.loses)) c.requires

pub returns : goal.returns
returns c =
    let s = c.args.self.now in
    narrows_step (λ vars. LeafClosed vars s.inst.now.tuples (literal_of s.numbers s.x)) c.in_ok-cut_ends.ensures c.revise_all.ensures
