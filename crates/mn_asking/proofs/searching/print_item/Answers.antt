use Rattle.std.proofs.Common.{◌≡◌, Ok, subst}
use Rattle.std.proofs.lemmas.Result.{err_from_is_err_and}
use Rattle.mn_grammar.specs.Gives.{Stops}
use Rattle.mn_model.specs.Lawful.{IsLawful}
use Rattle.mn_cursor.specs.Progress.{Progress, rest, Moves}
use Rattle.mn_references.proofs.FairTokens.{rest_fair}
use Rattle.mn_asking.specs.Searching.{print_at}
use Rattle.mn_asking.proofs.AskingSteps.{printing_stops, print_said}
use Rattle.mn_asking.proofs.LawfulAsking.{print_lawful}
use Rattle.mn_asking.proofs.searching.print_item.Goals as goal

pub returns-in_err-what-clause-err : goal.returns-in_err-what-clause-err
returns-in_err-what-clause-err c =
    let p = err_from_is_err_and c.from_residual.result c.from_residual.ensures.1 in
    let e = c.in_err-what.field-0.0 in
    rw (p.1, p.2) (printing_stops c.args.c.now e (subst (λ (s : Progress). Stops e (print_at s.problem (rest s))) c.new-scan.ensures c.in_err-what.ensures.gives))

pub say_print-requires-clause-lawful : goal.say_print-requires-clause-lawful
say_print-requires-clause-lawful c =
    print_lawful c.args.c.now.problem (subst IsLawful c.inst.ensures c.lawful-2.ensures) (rest c.args.c.now) (rest c.print.new.scan) c.in_ok-what.what (rest_fair c.args.c.now c.lawful.ensures)
    (subst (λ (s : Progress). print_at s.problem (rest s) ≡ Ok (c.in_ok-what.what, rest c.print.new.scan)) c.new-scan.ensures c.in_ok-what.ensures.gives)

pub returns-clause-ok : goal.returns-clause-ok
returns-clause-ok c =
    print_said c.args.c.now c.say_print.new.c c.print.new.scan c.left-left.result (subst (λ (s : Progress). Moves s c.print.new.scan) c.new-scan.ensures c.in_ok-what.ensures.moves) c.left-left.ensures.number
    c.in_ok-what.what
    (subst (λ (s : Progress). print_at s.problem (rest s) ≡ Ok (c.in_ok-what.what, rest c.print.new.scan)) c.new-scan.ensures c.in_ok-what.ensures.gives)
    c.say_print.ensures
