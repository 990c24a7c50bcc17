use Rattle.std.proofs.Common.{sym, subst}
use Rattle.mn_prop.specs.Posts.{IsReadyToRun}
use Rattle.mn_prop.proofs.Stepping.{same_vars}
use Rattle.mn_arith.specs.Extremes.{extreme_of}
use Rattle.mn_arith.proofs.Pruned.{part_stops}
use Rattle.mn_arith.proofs.Spreading.{place_then}
use Rattle.mn_arith.proofs.extreme.Extreme.narrow_place.Goals as goal

pub returns-in_err-cut_before : goal.returns-in_err-cut_before
returns-in_err-cut_before c = part_stops _ c.in_err-cut_before.was c.from_residual.ensures.0 c.cut_before.ensures

pub revise-requires-clause-ready : goal.revise-requires-clause-ready
revise-requires-clause-ready c = subst (λ vars. IsReadyToRun vars (extreme_of c.args.self.now)) (sym (same_vars c.in_ok-cut_before.ensures.narrows.loses)) c.requires.ready

pub returns : goal.returns
returns c = let s = c.args.self.now in place_then s.greatest s.terms.now s.x s.inst.now.tuples c.args.i c.in_ok-cut_before.ensures c.revise.ensures
