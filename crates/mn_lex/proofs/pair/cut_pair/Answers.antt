use Rattle.std.proofs.Common.{w64}
use Rattle.std.proofs.lemmas.Int.{to_z-of_z}
use Rattle.mn_lex.proofs.Changed.{cut_done, cut_step, cut_stops}
use Rattle.mn_lex.proofs.pair.cut_pair.Goals as goal

pub returns-in_err-set_hi-clause-step : goal.returns-in_err-set_hi-clause-step
returns-in_err-set_hi-clause-step c =
    cut_stops c.args.x c.args.y c.args.most c.args.least c.args.c.now c.set_hi.new.self c.set_hi.result c.from_residual.result _ c.requires.first (rw (to_z-of_z w64 c.args.most c.ranges.most) at c.set_hi.ensures) c.in_err-set_hi.was c.from_residual.ensures.0

pub returns-clause-step : goal.returns-clause-step
returns-clause-step c =
    cut_step c.args.x c.args.y c.args.most c.args.least c.args.c.now c.set_hi.new.self c.set_lo.new.self c.in_ok-set_hi.field-0 c.set_lo.result c.requires.first c.requires.second
    (rw (to_z-of_z w64 c.args.most c.ranges.most) at c.in_ok-set_hi.ensures) (rw (to_z-of_z w64 c.args.least c.ranges.least) at c.set_lo.ensures)

pub returns-clause-cut : goal.returns-clause-cut
returns-clause-cut c =
    cut_done c.args.x c.args.y c.args.most c.args.least c.args.c.now c.set_hi.new.self c.set_lo.new.self c.set_lo.result c.requires.second
    (rw (to_z-of_z w64 c.args.most c.ranges.most) at c.in_ok-set_hi.ensures) (rw (to_z-of_z w64 c.args.least c.ranges.least) at c.set_lo.ensures)
