use Rattle.std.proofs.Common.{◌≤◌, length, Ok, Err, arith}
use Rattle.std.proofs.lemmas.Result.{err_from_is_err_and}
use Rattle.mn_cursor.specs.Progress.{rest}
use Rattle.mn_model.specs.declared.limits.TheConstants.{TEXT_BYTES}
use Rattle.mn_language.proofs.Verdicts.{begun_told, begun_read, reads_clause, accepted_clause, refused_clause, refuses_clause}
use Rattle.mn_reader.proofs.text.read.Goals as goal

pub returns-in_err-whole-clause-accepted : goal.returns-in_err-whole-clause-accepted
returns-in_err-whole-clause-accepted c =
    let p = err_from_is_err_and c.from_residual-in_err-whole.result c.from_residual-in_err-whole.ensures.1 in
    let size : length c.args.text.now ≤ TEXT_BYTES = omega arith in
    let l = c.in_ok-lexed.lexed in
    let lexed = c.in_ok-lexed.ensures.lexed in
    let r = c.in_err-whole.field-0.0 in
    rw (p.1, p.2)
    (accepted_clause c.args.text.now size l.list l.stop lexed (Err r) (begun_told c.args.text.now size l.list l.stop lexed c.in_ok-c.c r c.in_ok-c.ensures c.in_err-whole.ensures.reads))

pub returns-in_err-whole-clause-refused : goal.returns-in_err-whole-clause-refused
returns-in_err-whole-clause-refused c =
    let p = err_from_is_err_and c.from_residual-in_err-whole.result c.from_residual-in_err-whole.ensures.1 in
    let size : length c.args.text.now ≤ TEXT_BYTES = omega arith in
    let l = c.in_ok-lexed.lexed in
    let lexed = c.in_ok-lexed.ensures.lexed in
    let r = c.in_err-whole.field-0.0 in
    rw (p.1, p.2)
    (refused_clause c.args.text.now size l.list l.stop lexed r (begun_told c.args.text.now size l.list l.stop lexed c.in_ok-c.c r c.in_ok-c.ensures c.in_err-whole.ensures.reads))

pub returns-in_err-whole-clause-refuses : goal.returns-in_err-whole-clause-refuses
returns-in_err-whole-clause-refuses c =
    let p = err_from_is_err_and c.from_residual-in_err-whole.result c.from_residual-in_err-whole.ensures.1 in
    let size : length c.args.text.now ≤ TEXT_BYTES = omega arith in
    let l = c.in_ok-lexed.lexed in
    let lexed = c.in_ok-lexed.ensures.lexed in
    let r = c.in_err-whole.field-0.0 in
    rw (p.1, p.2)
    (refuses_clause c.args.text.now size l.list l.stop lexed (Err r) (begun_told c.args.text.now size l.list l.stop lexed c.in_ok-c.c r c.in_ok-c.ensures c.in_err-whole.ensures.reads))

pub returns-clause-reads : goal.returns-clause-reads
returns-clause-reads c =
    let size : length c.args.text.now ≤ TEXT_BYTES = omega arith in
    let l = c.in_ok-lexed.lexed in
    let lexed = c.in_ok-lexed.ensures.lexed in
    rw c.finish.ensures
    (reads_clause c.args.text.now size l.list l.stop lexed c.whole.new.c.problem (begun_read c.args.text.now size l.list l.stop lexed c.in_ok-c.c c.whole.new.c.problem (rest c.whole.new.c) c.in_ok-c.ensures c.in_ok-whole.ensures.reads))

pub returns-clause-accepted : goal.returns-clause-accepted
returns-clause-accepted c =
    let size : length c.args.text.now ≤ TEXT_BYTES = omega arith in
    let l = c.in_ok-lexed.lexed in
    let lexed = c.in_ok-lexed.ensures.lexed in
    rw c.finish.ensures
    (accepted_clause c.args.text.now size l.list l.stop lexed (Ok c.whole.new.c.problem) (begun_read c.args.text.now size l.list l.stop lexed c.in_ok-c.c c.whole.new.c.problem (rest c.whole.new.c) c.in_ok-c.ensures c.in_ok-whole.ensures.reads))

pub returns-clause-refuses : goal.returns-clause-refuses
returns-clause-refuses c =
    let size : length c.args.text.now ≤ TEXT_BYTES = omega arith in
    let l = c.in_ok-lexed.lexed in
    let lexed = c.in_ok-lexed.ensures.lexed in
    rw c.finish.ensures
    (refuses_clause c.args.text.now size l.list l.stop lexed (Ok c.whole.new.c.problem) (begun_read c.args.text.now size l.list l.stop lexed c.in_ok-c.c c.whole.new.c.problem (rest c.whole.new.c) c.in_ok-c.ensures c.in_ok-whole.ensures.reads))
