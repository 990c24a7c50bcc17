use Rattle.std.proofs.Common.{ap, refl, inl, inr, ◌∙◌}
use Rattle.mn_driver.specs.Codes.{status_of}
use Rattle.mn_driver.specs.Outputs.{output_of}
use Rattle.mn_driver.proofs.Lines.{memory_said}
use Rattle.mn_driver.proofs.Stopping.{cut_report}
use Rattle.mn_driver.proofs.program.write_report.Goals as goal

pub returns-in-Ok-clause-solves : goal.returns-in-Ok-clause-solves
returns-in-Ok-clause-solves g c = inl (c.status_of.ensures ∙ ap status_of c.in-Ok.ensures.reports.outcome, c.in-Ok.ensures.reports.report)

pub returns-in-Failed-clause-solves : goal.returns-in-Failed-clause-solves
returns-in-Failed-clause-solves g c =
    let cut = cut_report c.args.plan.now c.args.inst.now (output_of g.O.Sink.content g.O.Sink.faults c.args.out.now c.solve.new.out) c.in-Err.stopped c.in-Failed.is c.in-Err.ensures.reports in
    inr (inl (refl, cut))

pub returns-in-NoMemory-clause-solves : goal.returns-in-NoMemory-clause-solves
returns-in-NoMemory-clause-solves g c =
    let stopped = c.in-Err.ensures.reports in
    let out = memory_said c.args.plan.now c.args.inst.now (g.O.Sink.content c.args.out.now) (g.O.Sink.content c.solve.new.out) (g.O.Sink.content c.write_line.new.out) (g.O.Sink.faults c.args.out.now) (g.O.Sink.faults c.solve.new.out) (g.O.Sink.faults c.write_line.new.out) c.in-Err.stopped.counts
    stopped.some stopped.visits c.solve.ensures.kept c.write_line.ensures.line in
    inr (inr (refl, out))
