use Rattle.std.proofs.Common.{inr}
use Rattle.mn_driver.specs.Outputs.{output_of}
use Rattle.mn_driver.proofs.Dumping.{text_cut}
use Rattle.mn_driver.proofs.program.write_text.Goals as goal

pub returns-in-Err-clause-puts : goal.returns-in-Err-clause-puts
returns-in-Err-clause-puts g c = inr (
  c.uncounted-in-Err.ensures.status,
  text_cut c.args.text.now (output_of g.O.Sink.content g.O.Sink.faults c.args.out.now c.put_all.new.out) c.in-Err.ensures.failed c.in-Err.ensures.part,
)
