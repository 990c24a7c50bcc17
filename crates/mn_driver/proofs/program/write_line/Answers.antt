use Rattle.mn_driver.specs.Outputs.{output_of}
use Rattle.mn_driver.proofs.Lines.{said}
use Rattle.mn_driver.proofs.program.write_line.Goals as goal

pub returns-clause-line : goal.returns-clause-line
returns-clause-line g c = said c.put_all.result (output_of g.O.Sink.content g.O.Sink.faults c.args.out.now c.put_all.new.out) c.args.line.now c.put_all.ensures.written c.put_all.ensures.part c.put_all.ensures.failed
