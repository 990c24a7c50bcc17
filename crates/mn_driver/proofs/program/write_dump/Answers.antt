use Rattle.std.proofs.Common.{subst, sym, ◌∙◌, ◌≤◌, length, List, ℕ}
use Rattle.mn_model.specs.declared.limits.TheConstants.{TEXT_BYTES}
use Rattle.mn_driver.specs.Outputs.{output_of}
use Rattle.mn_driver.proofs.Dumping.{dumped_so, undumped_so}
use Rattle.mn_driver.proofs.program.write_dump.Goals as goal

pub returns-in-Ok-clause-dumps : goal.returns-in-Ok-clause-dumps
returns-in-Ok-clause-dumps g c =
    dumped_so c.args.inst.now c.as_slice.result.now (output_of g.O.Sink.content g.O.Sink.faults c.args.out.now c.write_text.new.out) c.write_text.result.status c.write_text.result.counts
    (c.as_slice.ensures.value ∙ c.in-Ok.ensures.text) (subst (λ (t : List ℕ). length t ≤ TEXT_BYTES) (sym c.as_slice.ensures.value) c.in-Ok.ensures.fits) c.write_text.ensures.none c.write_text.ensures.puts

pub returns-in-Err-clause-dumps : goal.returns-in-Err-clause-dumps
returns-in-Err-clause-dumps g c =
    undumped_so c.args.inst.now c.in-Err.fault (output_of g.O.Sink.content g.O.Sink.faults c.args.out.now c.write_print_fault.new.out) c.write_print_fault.result.status c.write_print_fault.result.counts
    c.in-Err.ensures.too_long c.write_print_fault.ensures.none c.write_print_fault.ensures.undumps
