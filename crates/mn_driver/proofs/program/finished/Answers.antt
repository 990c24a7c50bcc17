use Rattle.std.proofs.Common.{map, string_bytes, sym, subst}
use Rattle.mn_driver.specs.Codes.{unflushed}
use Rattle.mn_driver.specs.Ends.{Ends}
use Rattle.mn_driver.specs.Outputs.{input_of, output_of}
use Rattle.mn_driver.specs.declared.status.Counts.{Counts}
use Rattle.mn_driver.specs.declared.status.Status.{Status}
use Rattle.mn_driver.proofs.Flushed.{flushed, not_flushed}
use Rattle.mn_driver.proofs.program.finished.Goals as goal

pub returns-in-Ok-clause-ends : goal.returns-in-Ok-clause-ends
returns-in-Ok-clause-ends g c =
    flushed (input_of g.F.Files.content g.F.Files.reading c.args.files.now c.unfinished-ended.new.files) (map string_bytes c.args.words.now.items) (g.O.Sink.content c.args.out.now) (g.O.Sink.content c.unfinished-ended.new.out)
    (g.O.Sink.faults c.args.out.now) (g.O.Sink.faults c.unfinished-ended.new.out) (g.O.Sink.faults c.flush.new.self) c.unfinished-ended.ensures.kept c.flush.ensures.kept
    (g.O.Sink.content c.flush.new.self) c.flush.ensures.same_content c.unfinished-ended.result.status c.unfinished-ended.result.counts c.unfinished-ended.ensures.ends

pub returns-in-Err-clause-ends : goal.returns-in-Err-clause-ends
returns-in-Err-clause-ends g c =
    let ends = not_flushed (input_of g.F.Files.content g.F.Files.reading c.args.files.now c.unfinished-ended.new.files) (map string_bytes c.args.words.now.items) (g.O.Sink.content c.args.out.now) (g.O.Sink.content c.unfinished-ended.new.out)
    (g.O.Sink.faults c.args.out.now) (g.O.Sink.faults c.unfinished-ended.new.out) (g.O.Sink.faults c.flush.new.self) c.unfinished-ended.ensures.kept c.flush.ensures.kept
    (g.O.Sink.content c.flush.new.self) c.flush.ensures.same_content c.unfinished-ended.result.status c.unfinished-ended.result.counts c.unfinished-ended.ensures.ends c.in-Err.ensures.failed in
    subst (λ (status : Status). Ends (input_of g.F.Files.content g.F.Files.reading c.args.files.now c.unfinished-ended.new.files) (map string_bytes c.args.words.now.items) (output_of g.O.Sink.content g.O.Sink.faults c.args.out.now c.flush.new.self) status c.unflushed.result.counts) (sym c.unflushed.ensures.status)
    (subst (λ (counts : Counts). Ends (input_of g.F.Files.content g.F.Files.reading c.args.files.now c.unfinished-ended.new.files) (map string_bytes c.args.words.now.items) (output_of g.O.Sink.content g.O.Sink.faults c.args.out.now c.flush.new.self) (unflushed c.unfinished-ended.result.status) counts) (sym c.unflushed.ensures.counts) ends)
