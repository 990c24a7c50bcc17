use Rattle.std.proofs.Common.{◌≡◌, ◌∷◌, [], length, sym, ap, ◌∙◌, length-append}
use Rattle.std.proofs.lemmas.Result.{err_from_is_err_and}
use Rattle.mn_cursor.specs.Progress.{Progress, rest}
use Rattle.mn_language.specs.Values.{value_seen}
use Rattle.mn_references.proofs.Stepping.{moves_on}
use Rattle.mn_constraints.specs.Filling.{row_seen}
use Rattle.mn_constraints.proofs.RowSteps.{some_stops, some_on, none_stops, none_on, fewer}
use Rattle.mn_constraints.proofs.leaves.all_arguments.Goals as goal

pub returns-in_err-argument_then-clause-gives : goal.returns-in_err-argument_then-clause-gives
returns-in_err-argument_then-clause-gives c =
    let p = err_from_is_err_and c.from_residual-in_err-argument_then.result c.from_residual-in_err-argument_then.ensures.1 in
    let vs = row_seen c.loop-left.row in
    let same : c.loop-left.scan.problem ≡ c.args.scan.now.problem = ap (λ (s : Progress). s.problem) c.loop-left.invariant.moves in
    rw (p.1, p.2)
    (some_stops c.args.scan.now.problem c.args.used c.loop-left.argument vs (rest c.loop-left.scan) _ c.loop-left.scan.problem same c.loop-left.left.now c.loop-left.invariant.same c.in-len1-up-left.len_at_least
    c.in_err-argument_then.field-0.0 (c.in_err-argument_then.ensures.gives vs (sym c.in_ok-length.ensures.ok)))

pub loop-left-preserved : goal.loop-left-preserved
loop-left-preserved c =
    let vs = row_seen c.loop-left.row in
    let v = value_seen c.in_ok-argument_then.field-0 in
    let same : c.loop-left.scan.problem ≡ c.args.scan.now.problem = ap (λ (s : Progress). s.problem) c.loop-left.invariant.moves in
    record {
      same = some_on c.args.scan.now.problem c.args.used c.loop-left.argument vs (rest c.loop-left.scan) _ c.loop-left.scan.problem same c.loop-left.left.now c.loop-left.invariant.same c.in-len1-up-left.len_at_least
          v (row_seen c.with-row.result) (rest c.argument_then.new.scan) c.with-row.ensures (c.in_ok-argument_then.ensures.gives vs (sym c.in_ok-length.ensures.ok));
      moves = moves_on c.args.scan.now c.loop-left.scan c.argument_then.new.scan c.loop-left.invariant.moves c.in_ok-argument_then.ensures.moves;
      few = fewer (length vs) (length (row_seen c.with-row.result)) c.loop-left.left.now c.loop-left.invariant.few c.in-len1-up-left.len_at_least (ap length c.with-row.ensures ∙ length-append vs (v ∷ []));
    }

pub returns-in_err-argument_then-2-clause-gives : goal.returns-in_err-argument_then-2-clause-gives
returns-in_err-argument_then-2-clause-gives c =
    let p = err_from_is_err_and c.from_residual-in_err-argument_then-2.result c.from_residual-in_err-argument_then-2.ensures.1 in
    let vs = row_seen c.loop-left.row in
    let same : c.loop-left.scan.problem ≡ c.args.scan.now.problem = ap (λ (s : Progress). s.problem) c.loop-left.invariant.moves in
    rw (p.1, p.2)
    (none_stops c.args.scan.now.problem c.args.used c.loop-left.argument vs (rest c.loop-left.scan) _ c.loop-left.scan.problem same c.loop-left.left.now c.loop-left.invariant.same c.in_default-left.len_below
    c.in_err-argument_then-2.field-0.0 (c.in_err-argument_then-2.ensures.gives vs (sym c.in_ok-length-2.ensures.ok)))

pub returns-clause-gives : goal.returns-clause-gives
returns-clause-gives c =
    let vs = row_seen c.loop-left.row in
    let v = value_seen c.in_ok-argument_then-2.field-0 in
    let same : c.loop-left.scan.problem ≡ c.args.scan.now.problem = ap (λ (s : Progress). s.problem) c.loop-left.invariant.moves in
    none_on c.args.scan.now.problem c.args.used c.loop-left.argument vs (rest c.loop-left.scan) _ c.loop-left.scan.problem same c.loop-left.left.now c.loop-left.invariant.same c.in_default-left.len_below
    v (row_seen c.with.result) (rest c.argument_then-2.new.scan) c.with.ensures (c.in_ok-argument_then-2.ensures.gives vs (sym c.in_ok-length-2.ensures.ok))
