use Rattle.mn_cursor.specs.Progress.{rest}
use Rattle.mn_constraints.specs.Numbering.{wanted_seen}
use Rattle.mn_constraints.proofs.ArgumentSteps.{term_gives, vector_gives, number_gives, numbers_gives, range_gives, tuples_gives}
use Rattle.mn_constraints.proofs.arguments.argument.Goals as goal

pub returns-in-Term-clause-gives : goal.returns-in-Term-clause-gives
returns-in-Term-clause-gives c = λ vs same. term_gives _ c.one_term.result c.args.scan.now.problem c.args.used c.args.argument vs (rest c.args.scan.now) c.in-Term.is c.one_term.ensures.gives

pub returns-in-Vector-clause-gives : goal.returns-in-Vector-clause-gives
returns-in-Vector-clause-gives c = λ vs same. vector_gives _ c.one_vector.result c.args.scan.now.problem c.args.used c.args.argument vs (rest c.args.scan.now) c.in-Vector.places c.bounds_of.result c.in-Vector.is (c.bounds_of.ensures vs same) c.one_vector.ensures.gives

pub returns-in-Number-clause-gives : goal.returns-in-Number-clause-gives
returns-in-Number-clause-gives c = λ vs same. number_gives _ c.one_number.result c.args.scan.now.problem c.args.used c.args.argument vs (rest c.args.scan.now) c.in-Number.is c.one_number.ensures.gives

pub returns-in-Numbers-clause-gives : goal.returns-in-Numbers-clause-gives
returns-in-Numbers-clause-gives c = λ vs same. numbers_gives _ c.many_numbers.result c.args.scan.now.problem c.args.used c.args.argument vs (rest c.args.scan.now) c.in-Numbers.numbers (wanted_seen c.wanted_of.result) c.in-Numbers.is (c.wanted_of.ensures vs same) c.many_numbers.ensures.gives

pub returns-in-Range-clause-gives : goal.returns-in-Range-clause-gives
returns-in-Range-clause-gives c = λ vs same. range_gives _ c.one_range.result c.args.scan.now.problem c.args.used c.args.argument vs (rest c.args.scan.now) c.in-Range.is c.one_range.ensures.gives

pub returns-in-Tuples-clause-gives : goal.returns-in-Tuples-clause-gives
returns-in-Tuples-clause-gives c = λ vs same. tuples_gives _ c.one_table.result c.args.scan.now.problem c.args.used c.args.argument vs (rest c.args.scan.now) c.args.length c.in-Tuples.is same c.one_table.ensures.gives
