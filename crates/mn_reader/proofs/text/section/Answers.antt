use Rattle.std.proofs.Common.{sym, subst, refl}
use Rattle.std.proofs.lemmas.Result.{err_from_is_err_and}
use Rattle.mn_cursor.specs.Progress.{rest, IsTold}
use Rattle.mn_reader.specs.TextProgress.{stated_of}
use Rattle.mn_language.specs.WholeTexts.{sections_at}
use Rattle.mn_reader.proofs.TextSteps.{told_stop, head_unseen, step_fails, step_on}
use Rattle.mn_reader.proofs.text.section.Goals as goal

pub returns-in-Err-clause-reads : goal.returns-in-Err-clause-reads
returns-in-Err-clause-reads c =
    let all = sections_at (stated_of c.args.c.now) (rest c.args.c.now) in
    subst (λ r. IsTold c.args.c.now r all) (sym c.refusal.ensures)
    (told_stop c.args.c.now c.args.c.now c.in-Err.stop all (record { text = refl; tokens = refl; stop = refl })
    (head_unseen (stated_of c.args.c.now) (rest c.args.c.now) c.in-Err.stop c.in-Err.ensures.sees))

pub returns-in_err-entries-clause-reads : goal.returns-in_err-entries-clause-reads
returns-in_err-entries-clause-reads c =
    let p = err_from_is_err_and c.from_residual.result c.from_residual.ensures.1 in
    rw (p.1, p.2)
    (step_fails c.args.c.now c.step.new.self c.entries.new.c c.in-Ok.head c.step.ensures.moves c.step.ensures.next c.in-Ok.ensures.sees
    c.in_err-entries.field-0.0 c.in_err-entries.ensures.reads)

pub returns-clause-reads : goal.returns-clause-reads
returns-clause-reads c =
    step_on c.args.c.now c.step.new.self c.entries.new.c c.in-Ok.head c.step.ensures.moves c.step.ensures.next c.in-Ok.ensures.sees
    c.has_entries.result c.has_entries.ensures c.in_ok-entries.ensures.reads
