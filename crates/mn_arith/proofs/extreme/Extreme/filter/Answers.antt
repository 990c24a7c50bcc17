use Rattle.std.proofs.Common.{refl, subst, sym, ◌∙◌}
use Rattle.mn_prop.specs.Posts.{IsReadyToRun}
use Rattle.mn_prop.proofs.Stepping.{same_vars}
use Rattle.mn_arith.specs.Extremes.{extreme_of}
use Rattle.mn_arith.proofs.Pruned.{part_then, pass_stops}
use Rattle.mn_arith.proofs.Spreading.{bare_fails, pass_by_parts}
use Rattle.mn_arith.proofs.extreme.Extreme.filter.Goals as goal

pub returns-then-len-eq0 : goal.returns-then-len-eq0
returns-then-len-eq0 c = let s = c.args.self.now in bare_fails s.greatest s.terms.now s.x s.inst.now.tuples c.args.c.now c.requires (sym c.len.ensures ∙ c.if-len-eq0.true) refl

pub returns-in_err-cut_extreme : goal.returns-in_err-cut_extreme
returns-in_err-cut_extreme c = pass_stops _ c.in_err-cut_extreme.was c.from_residual.ensures.0 c.cut_extreme.ensures

pub narrow_extreme-requires : goal.narrow_extreme-requires
narrow_extreme-requires c = subst (λ vars. IsReadyToRun vars (extreme_of c.args.self.now)) (sym (same_vars c.in_ok-cut_extreme.ensures.narrows.loses)) c.requires

pub returns-in_err-narrow_extreme : goal.returns-in_err-narrow_extreme
returns-in_err-narrow_extreme c = pass_stops _ c.in_err-narrow_extreme.was c.from_residual-in_err-narrow_extreme.ensures.0 (part_then c.in_ok-cut_extreme.ensures c.narrow_extreme.ensures)

pub cut_places-requires : goal.cut_places-requires
cut_places-requires c = subst (λ vars. IsReadyToRun vars (extreme_of c.args.self.now)) (sym (same_vars c.in_ok-narrow_extreme.ensures.narrows.loses ∙ same_vars c.in_ok-cut_extreme.ensures.narrows.loses)) c.requires

pub returns-in_err-cut_places : goal.returns-in_err-cut_places
returns-in_err-cut_places c = pass_stops _ c.in_err-cut_places.was c.from_residual-in_err-cut_places.ensures.0 (part_then (part_then c.in_ok-cut_extreme.ensures c.in_ok-narrow_extreme.ensures) c.cut_places.ensures)

pub narrow_only-requires : goal.narrow_only-requires
narrow_only-requires c = subst (λ vars. IsReadyToRun vars (extreme_of c.args.self.now)) (sym (same_vars c.in_ok-cut_places.ensures.narrows.loses ∙ (same_vars c.in_ok-narrow_extreme.ensures.narrows.loses ∙ same_vars c.in_ok-cut_extreme.ensures.narrows.loses))) c.requires

pub returns : goal.returns
returns c = let s = c.args.self.now in pass_by_parts s.greatest s.terms.now s.x s.inst.now.tuples c.in_ok-cut_extreme.ensures c.in_ok-narrow_extreme.ensures c.in_ok-cut_places.ensures c.narrow_only.ensures
