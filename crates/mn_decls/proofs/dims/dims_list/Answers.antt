use Rattle.std.proofs.Common.{rules, ◌≡◌, ◌+◌, ◌*◌, ◌≤◌, ◌∷◌, ◌++◌, [], pos, Ok, refl, sym, ap, subst, ◌∙◌, arith}
use Rattle.std.proofs.lemmas.Result.{err_from_is_err_and}
use Rattle.std.specs.List.{AllByRecursion}
use Rattle.mn_grammar.specs.Gives.{Stops}
use Rattle.mn_model.specs.Problem.{Problem, size_of_dims, variable_count}
use Rattle.mn_model.specs.declared.limits.TheConstants.{VARIABLES}
use Rattle.mn_model.proofs.Sizes.{size_of_dims-positive}
use Rattle.mn_model.proofs.Lists.{all_push}
use Rattle.mn_cursor.specs.Progress.{rest}
use Rattle.mn_decls.specs.Variables.{dim_at, dims_list_at}
use Rattle.mn_decls.proofs.Ranges.{size_more}
use Rattle.mn_cursor.proofs.Turning.{stops_same}
use Rattle.mn_decls.proofs.VariableSteps.{dims_from, dim_stops, dim_comma_stops, dim_goes_on, dim_ends}
use Rattle.mn_decls.proofs.dims.dims_list.Goals as goal

pub loop-shape-init : goal.loop-shape-init
unfolding dims_list_at
loop-shape-init c = rw (c.new-shape.ensures) (refl, refl, tt, omega arith, c.requires.room)

pub returns-in_err-dim-clause-gives : goal.returns-in_err-dim-clause-gives
returns-in_err-dim-clause-gives c =
    let p = err_from_is_err_and c.from_residual.result c.from_residual.ensures.1 in
    let e = c.in_err-dim.field-0.0 in
    let same : c.loop-shape.c.problem ≡ c.args.c.now.problem = ap (λ x. x.problem) c.loop-shape.invariant.1 in
    rw (p.1, p.2)
    (stops_same e _ _ (sym c.loop-shape.invariant.0)
    (dim_stops c.args.c.now.problem c.loop-shape.shape (rest c.loop-shape.c) e
    (subst (λ (q : Problem). Stops e (dim_at q c.loop-shape.shape (rest c.loop-shape.c))) same c.in_err-dim.ensures.gives)))

pub returns-in_err-more-clause-gives : goal.returns-in_err-more-clause-gives
returns-in_err-more-clause-gives c =
    let p = err_from_is_err_and c.from_residual-in_err-more.result c.from_residual-in_err-more.ensures.1 in
    let e = c.in_err-more.field-0.0 in
    let same : c.loop-shape.c.problem ≡ c.args.c.now.problem = ap (λ x. x.problem) c.loop-shape.invariant.1 in
    rw (p.1, p.2)
    (stops_same e _ _ (sym c.loop-shape.invariant.0)
    (dim_comma_stops c.args.c.now.problem c.loop-shape.shape (rest c.loop-shape.c) (pos c.in_ok-dim.dim) (rest c.dim.new.c)
    (subst (λ (q : Problem). dim_at q c.loop-shape.shape (rest c.loop-shape.c) ≡ Ok (pos c.in_ok-dim.dim, rest c.dim.new.c)) same c.in_ok-dim.ensures.gives)
    e c.in_err-more.ensures.gives))

pub returns-then-not-more-clause-gives : goal.returns-then-not-more-clause-gives
returns-then-not-more-clause-gives c =
    let same : c.loop-shape.c.problem ≡ c.args.c.now.problem = ap (λ x. x.problem) c.loop-shape.invariant.1 in
    sym c.loop-shape.invariant.0
    ∙ dim_ends c.args.c.now.problem c.loop-shape.shape (rest c.loop-shape.c) (pos c.in_ok-dim.dim) (rest c.dim.new.c)
    (subst (λ (q : Problem). dim_at q c.loop-shape.shape (rest c.loop-shape.c) ≡ Ok (pos c.in_ok-dim.dim, rest c.dim.new.c)) same c.in_ok-dim.ensures.gives)
    (rest c.comma.new.self) (search rules)
    ∙ ap (λ l. Ok (l, rest c.comma.new.self)) (sym (c.into_dims.ensures ∙ c.in_ok-push.ensures.ok))

pub returns-then-not-more-clause-room : goal.returns-then-not-more-clause-room
returns-then-not-more-clause-room c =
    let made : c.into_dims.result ≡ c.loop-shape.shape ++ c.in_ok-dim.dim ∷ [] = c.into_dims.ensures ∙ c.in_ok-push.ensures.ok in
    let same : c.loop-shape.c.problem ≡ c.args.c.now.problem = ap (λ x. x.problem) c.loop-shape.invariant.1 in
    let room : variable_count c.args.c.now.problem.decls + size_of_dims c.loop-shape.shape * c.in_ok-dim.dim ≤ VARIABLES =
    subst (λ (q : Problem). variable_count q.decls + size_of_dims c.loop-shape.shape * c.in_ok-dim.dim ≤ VARIABLES) same c.in_ok-dim.ensures.room in
    subst (λ n. variable_count c.args.c.now.problem.decls + n ≤ VARIABLES) (sym (ap size_of_dims made ∙ size_more c.loop-shape.shape c.in_ok-dim.dim)) room

pub loop-shape-smaller : goal.loop-shape-smaller
loop-shape-smaller c =
    let same : c.loop-shape.c.problem ≡ c.args.c.now.problem = ap (λ x. x.problem) c.loop-shape.invariant.1 in
    (dim_goes_on c.args.c.now.problem c.loop-shape.shape (rest c.loop-shape.c) (pos c.in_ok-dim.dim) (rest c.dim.new.c)
    (subst (λ (q : Problem). dim_at q c.loop-shape.shape (rest c.loop-shape.c) ≡ Ok (pos c.in_ok-dim.dim, rest c.dim.new.c)) same c.in_ok-dim.ensures.gives)
    (rest c.comma.new.self) (search rules)).1

pub loop-shape-preserved : goal.loop-shape-preserved
loop-shape-preserved c =
    let same : c.loop-shape.c.problem ≡ c.args.c.now.problem = ap (λ x. x.problem) c.loop-shape.invariant.1 in
    let on = dim_goes_on c.args.c.now.problem c.loop-shape.shape (rest c.loop-shape.c) (pos c.in_ok-dim.dim) (rest c.dim.new.c)
    (subst (λ (q : Problem). dim_at q c.loop-shape.shape (rest c.loop-shape.c) ≡ Ok (pos c.in_ok-dim.dim, rest c.dim.new.c)) same c.in_ok-dim.ensures.gives)
    (rest c.comma.new.self) (search rules) in
    let made : c.push.new.self ≡ c.loop-shape.shape ++ c.in_ok-dim.dim ∷ [] = c.in_ok-push.ensures.ok in
    let shaped : AllByRecursion (λ d. 1 ≤ d) c.push.new.self = subst (AllByRecursion (λ d. 1 ≤ d)) (sym made) (all_push (λ d. 1 ≤ d) c.loop-shape.shape c.in_ok-dim.dim c.loop-shape.invariant.2 c.in_ok-dim.ensures.least) in
    let room : variable_count c.args.c.now.problem.decls + size_of_dims c.loop-shape.shape * c.in_ok-dim.dim ≤ VARIABLES =
    subst (λ (q : Problem). variable_count q.decls + size_of_dims c.loop-shape.shape * c.in_ok-dim.dim ≤ VARIABLES) same c.in_ok-dim.ensures.room in (
      ap (λ l. dims_from c.args.c.now.problem l (rest c.comma.new.self)) made ∙ on.0 ∙ c.loop-shape.invariant.0,
      search rules,
      shaped,
      size_of_dims-positive c.push.new.self shaped,
      subst (λ n. variable_count c.args.c.now.problem.decls + n ≤ VARIABLES) (sym (ap size_of_dims made ∙ size_more c.loop-shape.shape c.in_ok-dim.dim)) room,
    )
