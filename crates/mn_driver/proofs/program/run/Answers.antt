use Rattle.std.proofs.Common.{map, refl, string_bytes}
use Rattle.mn_order.specs.declared.choice.Choice.TheVariants.{Fixed}
use Rattle.mn_search.specs.Visits.{all_visits}
use Rattle.mn_driver.specs.Outputs.{input_of, output_of}
use Rattle.mn_driver.specs.declared.status.Status.TheVariants.{Complete, AtSolutionLimit, AtNodeLimit, Printed, Refused, Usage, ReadFault, WriteFault, DumpTooLong, NoMemory}
use Rattle.mn_driver.proofs.Clauses as clauses
use Rattle.mn_driver.proofs.Fronts.{cut_short}
use Rattle.mn_driver.proofs.program.run.Goals as goal

pub returns-clause-complete : goal.returns-clause-complete
returns-clause-complete g c = clauses.of_status (input_of g.F.Files.content g.F.Files.reading c.args.files.now c.finished.new.files) (map string_bytes c.args.words.now.items) (output_of g.O.Sink.content g.O.Sink.faults c.args.out.now c.finished.new.out) c.finished.result.status c.finished.result.counts c.finished.ensures.ends Complete

pub returns-clause-at_solution_limit : goal.returns-clause-at_solution_limit
returns-clause-at_solution_limit g c = clauses.of_status (input_of g.F.Files.content g.F.Files.reading c.args.files.now c.finished.new.files) (map string_bytes c.args.words.now.items) (output_of g.O.Sink.content g.O.Sink.faults c.args.out.now c.finished.new.out) c.finished.result.status c.finished.result.counts c.finished.ensures.ends AtSolutionLimit

pub returns-clause-at_node_limit : goal.returns-clause-at_node_limit
returns-clause-at_node_limit g c = clauses.of_status (input_of g.F.Files.content g.F.Files.reading c.args.files.now c.finished.new.files) (map string_bytes c.args.words.now.items) (output_of g.O.Sink.content g.O.Sink.faults c.args.out.now c.finished.new.out) c.finished.result.status c.finished.result.counts c.finished.ensures.ends AtNodeLimit

pub returns-clause-dumped : goal.returns-clause-dumped
returns-clause-dumped g c = clauses.of_status (input_of g.F.Files.content g.F.Files.reading c.args.files.now c.finished.new.files) (map string_bytes c.args.words.now.items) (output_of g.O.Sink.content g.O.Sink.faults c.args.out.now c.finished.new.out) c.finished.result.status c.finished.result.counts c.finished.ensures.ends Printed

pub returns-clause-write_fault : goal.returns-clause-write_fault
returns-clause-write_fault g c = clauses.of_status (input_of g.F.Files.content g.F.Files.reading c.args.files.now c.finished.new.files) (map string_bytes c.args.words.now.items) (output_of g.O.Sink.content g.O.Sink.faults c.args.out.now c.finished.new.out) c.finished.result.status c.finished.result.counts c.finished.ensures.ends WriteFault

pub returns-clause-read_fault : goal.returns-clause-read_fault
returns-clause-read_fault g c = clauses.of_status (input_of g.F.Files.content g.F.Files.reading c.args.files.now c.finished.new.files) (map string_bytes c.args.words.now.items) (output_of g.O.Sink.content g.O.Sink.faults c.args.out.now c.finished.new.out) c.finished.result.status c.finished.result.counts c.finished.ensures.ends ReadFault

pub returns-clause-no_memory : goal.returns-clause-no_memory
returns-clause-no_memory g c = clauses.of_status (input_of g.F.Files.content g.F.Files.reading c.args.files.now c.finished.new.files) (map string_bytes c.args.words.now.items) (output_of g.O.Sink.content g.O.Sink.faults c.args.out.now c.finished.new.out) c.finished.result.status c.finished.result.counts c.finished.ensures.ends NoMemory

pub returns-clause-dump_too_long : goal.returns-clause-dump_too_long
returns-clause-dump_too_long g c = λ n. clauses.of_status (input_of g.F.Files.content g.F.Files.reading c.args.files.now c.finished.new.files) (map string_bytes c.args.words.now.items) (output_of g.O.Sink.content g.O.Sink.faults c.args.out.now c.finished.new.out) c.finished.result.status c.finished.result.counts c.finished.ensures.ends (DumpTooLong n)

pub returns-clause-refused : goal.returns-clause-refused
returns-clause-refused g c = λ why. clauses.of_status (input_of g.F.Files.content g.F.Files.reading c.args.files.now c.finished.new.files) (map string_bytes c.args.words.now.items) (output_of g.O.Sink.content g.O.Sink.faults c.args.out.now c.finished.new.out) c.finished.result.status c.finished.result.counts c.finished.ensures.ends (Refused why)

pub returns-clause-usage : goal.returns-clause-usage
returns-clause-usage g c = λ rule. clauses.of_status (input_of g.F.Files.content g.F.Files.reading c.args.files.now c.finished.new.files) (map string_bytes c.args.words.now.items) (output_of g.O.Sink.content g.O.Sink.faults c.args.out.now c.finished.new.out) c.finished.result.status c.finished.result.counts c.finished.ensures.ends (Usage rule)

pub returns-clause-broken : goal.returns-clause-broken
returns-clause-broken g c = clauses.broken (input_of g.F.Files.content g.F.Files.reading c.args.files.now c.finished.new.files) (map string_bytes c.args.words.now.items) (output_of g.O.Sink.content g.O.Sink.faults c.args.out.now c.finished.new.out) c.finished.result.status c.finished.result.counts c.finished.ensures.ends

pub returns-clause-absent : goal.returns-clause-absent
returns-clause-absent g c = clauses.absent (input_of g.F.Files.content g.F.Files.reading c.args.files.now c.finished.new.files) (map string_bytes c.args.words.now.items) (output_of g.O.Sink.content g.O.Sink.faults c.args.out.now c.finished.new.out) c.finished.result.status c.finished.result.counts c.finished.ensures.ends

pub returns-clause-model : goal.returns-clause-model
returns-clause-model g c = clauses.model (input_of g.F.Files.content g.F.Files.reading c.args.files.now c.finished.new.files) (map string_bytes c.args.words.now.items) (output_of g.O.Sink.content g.O.Sink.faults c.args.out.now c.finished.new.out) c.finished.result.status c.finished.result.counts c.finished.ensures.ends c.one_verdict.ensures.one

pub returns-clause-printed : goal.returns-clause-printed
returns-clause-printed g c = clauses.printed (input_of g.F.Files.content g.F.Files.reading c.args.files.now c.finished.new.files) (map string_bytes c.args.words.now.items) (output_of g.O.Sink.content g.O.Sink.faults c.args.out.now c.finished.new.out) c.finished.result.status c.finished.result.counts c.finished.ensures.ends c.one_verdict.ensures.one

pub returns-clause-redumped : goal.returns-clause-redumped
returns-clause-redumped g c = clauses.redumped (input_of g.F.Files.content g.F.Files.reading c.args.files.now c.finished.new.files) (map string_bytes c.args.words.now.items) (output_of g.O.Sink.content g.O.Sink.faults c.args.out.now c.finished.new.out) c.finished.result.status c.finished.result.counts c.finished.ensures.ends c.one_verdict.ensures.one

pub returns-clause-refuses : goal.returns-clause-refuses
returns-clause-refuses g c = clauses.refuses (input_of g.F.Files.content g.F.Files.reading c.args.files.now c.finished.new.files) (map string_bytes c.args.words.now.items) (output_of g.O.Sink.content g.O.Sink.faults c.args.out.now c.finished.new.out) c.finished.result.status c.finished.result.counts c.finished.ensures.ends c.one_verdict.ensures.one

pub returns-clause-each_once : goal.returns-clause-each_once
returns-clause-each_once g c = λ p lawful. (c.records_are_owed.ensures.distinct p (c.lawful_problems_are_fit.ensures.ascend p lawful), c.records_are_owed.ensures.ordered p (c.lawful_problems_are_fit.ensures.ascend p lawful))

pub returns-clause-in_order : goal.returns-clause-in_order
returns-clause-in_order g c = λ p lawful. c.solutions_are_visited.ensures.all p lawful (all_visits p Fixed) ((c.visits_are_there.ensures.all p lawful Fixed (all_visits p Fixed)).1 refl)

pub returns-clause-in_any_order : goal.returns-clause-in_any_order
returns-clause-in_any_order g c = λ p lawful none choice. c.solutions_are_visited_once.ensures.all p lawful none choice (all_visits p choice) ((c.visits_are_there.ensures.all p lawful choice (all_visits p choice)).1 refl)

pub returns-clause-improving : goal.returns-clause-improving
returns-clause-improving g c = λ p goal_is lawful has choice. c.solutions_improve.ensures.all p goal_is lawful has choice (all_visits p choice) ((c.visits_are_there.ensures.all p lawful choice (all_visits p choice)).1 refl)

pub returns-clause-limited : goal.returns-clause-limited
returns-clause-limited g c = λ plan p. cut_short plan p
