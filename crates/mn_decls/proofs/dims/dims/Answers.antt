use Rattle.std.proofs.Common.{rules, ◌≡◌, Ok, sym, ap, ◌∙◌}
use Rattle.std.proofs.lemmas.Result.{err_from_is_err_and}
use Rattle.mn_cursor.specs.Progress.{rest}
use Rattle.mn_model.specs.Problem.{Problem}
use Rattle.mn_decls.specs.Variables.{dims_list_at}
use Rattle.mn_cursor.proofs.Turning.{gives_same}
use Rattle.mn_decls.proofs.VariableSteps.{no_dims, square_stops, dims_same}
use Rattle.mn_decls.proofs.dims.dims.Goals as goal

pub returns-then-not-is_mark-clause-gives : goal.returns-then-not-is_mark-clause-gives
returns-then-not-is_mark-clause-gives c = no_dims c.args.c.now.problem (rest c.args.c.now) (search rules) ∙ ap (λ l. Ok (l, rest c.args.c.now)) (sym c.new.ensures)

pub returns-in_err-mark-clause-gives : goal.returns-in_err-mark-clause-gives
returns-in_err-mark-clause-gives c =
    let p = err_from_is_err_and c.from_residual.result c.from_residual.ensures.1 in
    rw (p.1, p.2) (square_stops c.args.c.now.problem (rest c.args.c.now) (search rules) c.in_err-mark.field-0.0 c.in_err-mark.ensures.gives)

pub returns-clause-gives : goal.returns-clause-gives
returns-clause-gives c =
    let same : c.mark.new.self.problem ≡ c.args.c.now.problem = ap (λ x. x.problem) c.in_ok-mark.ensures.moves in
    gives_same _ c.dims_list.result _ _
    (dims_same c.args.c.now.problem (rest c.args.c.now) (search rules) (rest c.mark.new.self) c.in_ok-mark.ensures.gives ∙ ap (λ (q : Problem). dims_list_at q (rest c.mark.new.self)) (sym same))
    c.dims_list.ensures.gives
