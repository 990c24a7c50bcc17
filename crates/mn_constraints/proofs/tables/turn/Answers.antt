use Rattle.std.proofs.Common.{drop, length, refl}
use Rattle.mn_lexer.specs.declared.marks.Mark.TheVariants.{CloseCurly}
use Rattle.mn_cursor.specs.Progress.{rest}
use Rattle.mn_language.specs.Arguments.{tuple_ends}
use Rattle.mn_language.specs.Constructing.{tuple_at}
use Rattle.mn_references.proofs.ListTurns.{turn_gives}
use Rattle.mn_constraints.proofs.TupleSteps.{behind_kept}
use Rattle.mn_constraints.proofs.tables.turn.Goals as goal

pub returns-clause-gives : goal.returns-clause-gives
returns-clause-gives c =
    let cells = c.args.cells.now in
    let more = drop (length cells) c.tuple.new.cells in
    turn_gives CloseCurly tuple_ends (tuple_at c.args.used c.args.arity) cells _ more (rest c.args.scan.now) (rest c.tuple.new.scan) _ _ _ c.ends.result
    c.in_ok-tuple.ensures.gives (behind_kept cells c.tuple.new.cells c.in_ok-tuple.ensures.keeps) refl refl c.ends.ensures.gives
