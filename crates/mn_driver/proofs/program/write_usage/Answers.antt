use Rattle.std.proofs.Common.{[], sym, subst, inl}
use Rattle.mn_options.specs.declared.usage.Usage.{Usage}
use Rattle.mn_driver.specs.Outputs.{AddsLine, output_of}
use Rattle.mn_driver.specs.Report.{usage_line}
use Rattle.mn_driver.proofs.program.write_usage.Goals as goal

pub returns-in-NoModel-clause-misuses : goal.returns-in-NoModel-clause-misuses
returns-in-NoModel-clause-misuses g c = inl (
  c.uncounted.ensures.status,
  subst (λ (rule : Usage). AddsLine (output_of g.O.Sink.content g.O.Sink.faults c.args.out.now c.write_line.new.out) [] (usage_line rule)) (sym c.in-NoModel.is) c.write_line.ensures.line,
)
