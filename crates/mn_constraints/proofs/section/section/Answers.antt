use Rattle.std.proofs.Common.{rules, ◌≡◌, true, false, is_some, sym, ◌∙◌}
use Rattle.std.proofs.lemmas.Result.{err_from_is_err_and}
use Rattle.mn_cursor.specs.Heads.{head_of}
use Rattle.mn_cursor.specs.Looks.{first_as}
use Rattle.mn_cursor.specs.Progress.{rest}
use Rattle.mn_cursor.proofs.Turning.{stops_same}
use Rattle.mn_constraints.proofs.SectionSteps.{next_stops, next_goes_on, section_ends}
use Rattle.mn_constraints.proofs.section.section.Goals as goal

pub loop-c-smaller : goal.loop-c-smaller
loop-c-smaller c =
    let absent : is_some (first_as head_of (rest c.loop-c.c)) ≡ false = search rules in
    (next_goes_on c.loop-c.c.problem (rest c.loop-c.c) absent c.next.new.c.problem (rest c.next.new.c) c.in_ok-next.ensures.gives).1

pub loop-c-preserved : goal.loop-c-preserved
loop-c-preserved c =
    let absent : is_some (first_as head_of (rest c.loop-c.c)) ≡ false = search rules in
    let on = next_goes_on c.loop-c.c.problem (rest c.loop-c.c) absent c.next.new.c.problem (rest c.next.new.c) c.in_ok-next.ensures.gives in
    (sym on.0 ∙ c.loop-c.invariant.0, search rules)

pub returns-in_err-next-clause-err : goal.returns-in_err-next-clause-err
returns-in_err-next-clause-err c =
    let p = err_from_is_err_and c.from_residual.result c.from_residual.ensures.1 in
    let absent : is_some (first_as head_of (rest c.loop-c.c)) ≡ false = search rules in
    rw (p.1, p.2)
    (stops_same c.in_err-next.field-0.0 _ _ (sym c.loop-c.invariant.0)
    (next_stops c.loop-c.c.problem (rest c.loop-c.c) absent c.in_err-next.field-0.0 c.in_err-next.ensures.gives))

pub returns-clause-ok : goal.returns-clause-ok
returns-clause-ok c =
    let there : is_some (first_as head_of (rest c.loop-c.c)) ≡ true = search rules in
    let ends = section_ends c.loop-c.c.problem (rest c.loop-c.c) there in
    (ends.0, ends.1, sym c.loop-c.invariant.0 ∙ ends.2)
