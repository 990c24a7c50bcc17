use Rattle.std.proofs.Common.{[], List, ℕ, inl, subst, ◌∙◌}
use Rattle.mn_driver.specs.Outputs.{AddsLine, output_of}
use Rattle.mn_driver.proofs.program.write_print_fault.Goals as goal

pub returns-in-Ok-clause-undumps : goal.returns-in-Ok-clause-undumps
returns-in-Ok-clause-undumps g c = inl (
  c.in-TooLong.n,
  c.in-TooLong.is,
  c.uncounted.ensures.status,
  subst (λ (line : List ℕ). AddsLine (output_of g.O.Sink.content g.O.Sink.faults c.args.out.now c.write_line.new.out) [] line) (c.as_slice.ensures.value ∙ c.in-Ok.ensures) c.write_line.ensures.line,
)
