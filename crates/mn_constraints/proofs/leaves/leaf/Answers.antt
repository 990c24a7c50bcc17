use Rattle.std.proofs.Common.{◌≡◌, ap}
use Rattle.std.proofs.lemmas.Result.{err_from_is_err_and}
use Rattle.mn_cursor.specs.Progress.{Progress, rest}
use Rattle.mn_constraints.specs.Filling.{row_seen}
use Rattle.mn_constraints.proofs.RowSteps.{leaf_round_stops, leaf_row_stops, leaf_reads}
use Rattle.mn_constraints.proofs.leaves.leaf.Goals as goal

pub returns-in_err-mark-clause-gives : goal.returns-in_err-mark-clause-gives
returns-in_err-mark-clause-gives c =
    let p = err_from_is_err_and c.from_residual.result c.from_residual.ensures.1 in
    rw (p.1, p.2) (leaf_round_stops c.args.scan.now.problem c.args.used c.args.leaf (rest c.args.scan.now) c.in_err-mark.field-0.0 c.in_err-mark.ensures.gives)

pub returns-in_err-row-clause-gives : goal.returns-in_err-row-clause-gives
returns-in_err-row-clause-gives c =
    let p = err_from_is_err_and c.from_residual-in_err-row.result c.from_residual-in_err-row.ensures.1 in
    let same : c.mark.new.self.problem ≡ c.args.scan.now.problem = ap (λ (s : Progress). s.problem) c.in_ok-mark.ensures.moves in
    rw (p.1, p.2)
    (leaf_row_stops c.args.scan.now.problem c.args.used c.args.leaf (rest c.args.scan.now) (rest c.mark.new.self) c.in_ok-mark.ensures.gives c.mark.new.self.problem same c.arguments_of.result.now c.arguments_of.ensures
    c.in_err-row.field-0.0 c.in_err-row.ensures.gives)

pub returns-clause-gives : goal.returns-clause-gives
returns-clause-gives c =
    let same : c.mark.new.self.problem ≡ c.args.scan.now.problem = ap (λ (s : Progress). s.problem) c.in_ok-mark.ensures.moves in
    leaf_reads c.args.scan.now.problem c.args.used c.args.leaf (rest c.args.scan.now) (rest c.mark.new.self) c.in_ok-mark.ensures.gives c.mark.new.self.problem same c.arguments_of.result.now c.arguments_of.ensures
    (row_seen c.in_ok-row.row) (rest c.all_arguments.new.scan) c.meaning.result c.in_ok-row.ensures.gives c.meaning.ensures
