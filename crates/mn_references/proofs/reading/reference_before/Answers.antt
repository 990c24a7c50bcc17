use Rattle.std.proofs.Common.{sym}
use Rattle.std.proofs.lemmas.Result.{err_from_is_err_and}
use Rattle.mn_references.specs.Lookups.{found_seen}
use Rattle.mn_cursor.specs.Progress.{rest}
use Rattle.mn_references.proofs.Followable.{then_stops, next_unseen, next_broken, next_kept}
use Rattle.mn_references.proofs.reading.reference_before.Goals as goal

pub returns-in_err-reference-clause-err : goal.returns-in_err-reference-clause-err
returns-in_err-reference-clause-err c =
    let p = err_from_is_err_and c.from_residual.result c.from_residual.ensures.1 in
    rw (p.1, p.2) (then_stops c.args.scan.now.problem c.args.want (rest c.args.scan.now) c.in_err-reference.field-0.0 c.in_err-reference.ensures.gives)

pub returns-in_err-next-clause-err : goal.returns-in_err-next-clause-err
returns-in_err-next-clause-err c =
    let p = err_from_is_err_and c.from_residual-in_err-next.result c.from_residual-in_err-next.ensures.1 in
    rw (p.1, p.2) (next_unseen c.args.scan.now.problem c.args.want (rest c.args.scan.now) (found_seen c.in_ok-reference.reference) (rest c.reference_at.new.scan) c.in_ok-reference.ensures.gives c.in_err-next.field-0.0 c.in_err-next.ensures.sees)

pub returns-in-Some-clause-err : goal.returns-in-Some-clause-err
returns-in-Some-clause-err c =
    next_broken c.args.scan.now.problem c.args.want (rest c.args.scan.now) (found_seen c.in_ok-reference.reference) (rest c.reference_at.new.scan) c.in_ok-reference.ensures.gives
    c.in_ok-next.next c.in-Some.kind c.refused.result c.in_ok-next.ensures.sees (sym c.in-Some.ensures) c.refused.ensures

pub returns-clause-ok : goal.returns-clause-ok
returns-clause-ok c = (
  c.in_ok-next.next,
  c.in_ok-next.ensures.sees,
  next_kept c.args.scan.now.problem c.args.want (rest c.args.scan.now) (found_seen c.in_ok-reference.reference) (rest c.reference_at.new.scan) c.in_ok-reference.ensures.gives
      c.in_ok-next.next c.in_ok-next.ensures.sees (sym c.in_default.ensures),
)
