use Rattle.std.proofs.Common.{List, ℕ, map, string_bytes, subst}
use Rattle.mn_outside.specs.Faults.{HasRisen}
use Rattle.mn_driver.specs.Loads.{Unloads}
use Rattle.mn_driver.specs.Outputs.{input_of, output_of}
use Rattle.mn_driver.specs.Runs.{IsTheModel}
use Rattle.mn_driver.specs.Words.{asked_of}
use Rattle.mn_driver.proofs.Ending.{answered_ends, misused_ends, refused_ends}
use Rattle.mn_driver.proofs.program.unfinished.Goals as goal

pub returns-in-Err-clause-ends : goal.returns-in-Err-clause-ends
returns-in-Err-clause-ends g c =
    misused_ends (input_of g.F.Files.content g.F.Files.reading c.args.files.now c.args.files.now) (map string_bytes c.args.words.now.items) (output_of g.O.Sink.content g.O.Sink.faults c.args.out.now c.write_usage.new.out) c.write_usage.result.status c.write_usage.result.counts
    c.in-Err.rule c.in-Err.ensures.broken c.write_usage.ensures.memory c.write_usage.ensures.none c.write_usage.ensures.misuses

pub returns-in-Ok-obtain-clause-ends : goal.returns-in-Ok-obtain-clause-ends
returns-in-Ok-obtain-clause-ends g c =
    answered_ends (input_of g.F.Files.content g.F.Files.reading c.args.files.now c.obtain.new.files) (map string_bytes c.args.words.now.items) (output_of g.O.Sink.content g.O.Sink.faults c.args.out.now c.write_answer.new.out) c.write_answer.result.status c.write_answer.result.counts
    (asked_of c.in-Ok.request) c.in-Ok.ensures.asks c.in-Ok-obtain.inst
    c.in-Ok-obtain.ensures.model c.write_answer.ensures.answers

pub returns-clause-ends : goal.returns-clause-ends
returns-clause-ends g c =
    refused_ends (input_of g.F.Files.content g.F.Files.reading c.args.files.now c.obtain.new.files) (map string_bytes c.args.words.now.items) (output_of g.O.Sink.content g.O.Sink.faults c.args.out.now c.write_refusal.new.out) c.write_refusal.result.status c.write_refusal.result.counts
    (asked_of c.in-Ok.request) c.in-Ok.ensures.asks c.in-Err-obtain.why c.in-Err-obtain.ensures.unloaded c.in-Err-obtain.ensures.of_text c.in-Err-obtain.ensures.failed
    c.write_refusal.ensures.none c.write_refusal.ensures.refuses
