use Rattle.std.proofs.Common.{FitsSigned, rules, w64}
use Rattle.std.proofs.lemmas.Int.{to_z-of_z}
use Rattle.mn_basic.proofs.Tying.{keep_settles, keep_step, keep_stop}
use Rattle.mn_basic.proofs.interval.Interval.keep.Goals as goal

pub returns-in_err-set_lo-clause-step : goal.returns-in_err-set_lo-clause-step
returns-in_err-set_lo-clause-step c =
    let low : FitsSigned w64 c.args.self.lo = search rules in
    keep_stop c.args.self c.args.t c.args.c.now c.set_lo.new.self c.set_lo.result c.from_residual.result _ c.requires (rw (to_z-of_z w64 c.args.self.lo low) at c.set_lo.ensures) c.in_err-set_lo.was c.from_residual.ensures.0

pub returns-clause-step : goal.returns-clause-step
returns-clause-step c =
    let low : FitsSigned w64 c.args.self.lo = search rules in
    let high : FitsSigned w64 c.args.self.hi = search rules in
    keep_step c.args.self c.args.t c.args.c.now c.set_lo.new.self c.set_hi.new.self c.in_ok-set_lo.field-0 c.set_hi.result c.requires (rw (to_z-of_z w64 c.args.self.lo low) at c.in_ok-set_lo.ensures) (rw (to_z-of_z w64 c.args.self.hi high) at c.set_hi.ensures)

pub returns-clause-settled : goal.returns-clause-settled
returns-clause-settled c =
    let low : FitsSigned w64 c.args.self.lo = search rules in
    let high : FitsSigned w64 c.args.self.hi = search rules in
    keep_settles c.args.self c.args.t c.args.c.now c.set_lo.new.self c.set_hi.new.self c.set_hi.result c.requires (rw (to_z-of_z w64 c.args.self.lo low) at c.in_ok-set_lo.ensures) (rw (to_z-of_z w64 c.args.self.hi high) at c.set_hi.ensures)
