use Rattle.std.proofs.Common.{rules, ◌≡◌, ◌≤◌, ◌∷◌, ◌++◌, [], pos, Ok, refl, sym, ap, subst, ◌∙◌}
use Rattle.std.proofs.lemmas.Result.{err_from_is_err_and}
use Rattle.std.specs.List.{AllByRecursion}
use Rattle.mn_model.proofs.Lists.{all_push}
use Rattle.mn_cursor.specs.Progress.{rest}
use Rattle.mn_cursor.proofs.Turning.{stops_same}
use Rattle.mn_decls.specs.Variables.{alias_dims_at}
use Rattle.mn_decls.proofs.AliasSteps.{dims_from, dim_stops, dim_comma_stops, dim_goes_on, dim_ends}
use Rattle.mn_decls.proofs.alias_dims.alias_dims.Goals as goal

pub loop-dims-init : goal.loop-dims-init
unfolding alias_dims_at
loop-dims-init c = rw (c.new-dims.ensures) (refl, refl, tt)

pub returns-in_err-dim-clause-gives : goal.returns-in_err-dim-clause-gives
returns-in_err-dim-clause-gives c =
    let p = err_from_is_err_and c.from_residual.result c.from_residual.ensures.1 in
    let e = c.in_err-dim.field-0.0 in
    rw (p.1, p.2) (stops_same e _ _ (sym c.loop-dims.invariant.0) (dim_stops c.loop-dims.dims (rest c.loop-dims.c) e c.in_err-dim.ensures.gives))

pub returns-in_err-more-clause-gives : goal.returns-in_err-more-clause-gives
returns-in_err-more-clause-gives c =
    let p = err_from_is_err_and c.from_residual-in_err-more.result c.from_residual-in_err-more.ensures.1 in
    let e = c.in_err-more.field-0.0 in
    rw (p.1, p.2)
    (stops_same e _ _ (sym c.loop-dims.invariant.0)
    (dim_comma_stops c.loop-dims.dims (rest c.loop-dims.c) (pos c.in_ok-dim.dim) (rest c.dim_of_alias.new.c) c.in_ok-dim.ensures.gives e c.in_err-more.ensures.gives))

pub returns-then-not-more-clause-gives : goal.returns-then-not-more-clause-gives
returns-then-not-more-clause-gives c =
    sym c.loop-dims.invariant.0
    ∙ dim_ends c.loop-dims.dims (rest c.loop-dims.c) (pos c.in_ok-dim.dim) (rest c.dim_of_alias.new.c) c.in_ok-dim.ensures.gives (rest c.comma.new.self) (search rules)
    ∙ ap (λ l. Ok (l, rest c.comma.new.self)) (sym c.in_ok-push.ensures.ok)

pub loop-dims-smaller : goal.loop-dims-smaller
loop-dims-smaller c =
    (dim_goes_on c.loop-dims.dims (rest c.loop-dims.c) (pos c.in_ok-dim.dim) (rest c.dim_of_alias.new.c) c.in_ok-dim.ensures.gives (rest c.comma.new.self) (search rules)).1

pub loop-dims-preserved : goal.loop-dims-preserved
loop-dims-preserved c =
    let on = dim_goes_on c.loop-dims.dims (rest c.loop-dims.c) (pos c.in_ok-dim.dim) (rest c.dim_of_alias.new.c) c.in_ok-dim.ensures.gives (rest c.comma.new.self) (search rules) in
    let made : c.push.new.self ≡ c.loop-dims.dims ++ c.in_ok-dim.dim ∷ [] = c.in_ok-push.ensures.ok in (
      ap (λ l. dims_from l (rest c.comma.new.self)) made ∙ on.0 ∙ c.loop-dims.invariant.0,
      search rules,
      subst (AllByRecursion (λ d. 1 ≤ d)) (sym made) (all_push (λ d. 1 ≤ d) c.loop-dims.dims c.in_ok-dim.dim c.loop-dims.invariant.2 c.in_ok-dim.ensures.least),
    )
