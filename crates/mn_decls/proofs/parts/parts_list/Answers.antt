use Rattle.std.proofs.Common.{rules, ◌≡◌, ◌≤◌, length, Ok, FitsSigned, to_z, of_z, w64, refl, sym, ap, subst, ◌∙◌, arith}
use Rattle.std.proofs.lemmas.Int.{to_z-of_z}
use Rattle.std.proofs.lemmas.Result.{err_from_is_err_and}
use Rattle.mn_model.specs.declared.limits.TheConstants.{SPAN}
use Rattle.mn_cursor.specs.Progress.{rest}
use Rattle.mn_decls.specs.Variables.{parts_list_at, with_range}
use Rattle.mn_decls.proofs.Ranges.{range_some}
use Rattle.mn_cursor.proofs.Turning.{stops_same}
use Rattle.mn_decls.proofs.VariableSteps.{parts_from, part_stops, part_comma_stops, part_goes_on, part_ends}
use Rattle.mn_decls.proofs.parts.parts_list.Goals as goal

pub loop-values-init : goal.loop-values-init
unfolding parts_list_at
loop-values-init c = rw (c.new-values.ensures) (refl, refl, omega arith)

pub returns-in_err-lo-clause-gives : goal.returns-in_err-lo-clause-gives
returns-in_err-lo-clause-gives c =
    let p = err_from_is_err_and c.from_residual.result c.from_residual.ensures.1 in
    rw (p.1, p.2)
    (stops_same c.in_err-lo.field-0.0 _ _ (sym c.loop-values.invariant.0)
    (part_stops c.loop-values.values (rest c.loop-values.c) c.in_err-lo.field-0.0 c.in_err-lo.ensures.gives))

pub returns-in_err-more-clause-gives : goal.returns-in_err-more-clause-gives
returns-in_err-more-clause-gives c =
    let p = err_from_is_err_and c.from_residual-in_err-more.result c.from_residual-in_err-more.ensures.1 in
    rw (p.1, p.2)
    (stops_same c.in_err-more.field-0.0 _ _ (sym c.loop-values.invariant.0)
    (part_comma_stops c.loop-values.values (rest c.loop-values.c) (c.in_ok-lo.lo, c.in_ok-lo.hi) (rest c.part.new.c) c.in_ok-lo.ensures.gives c.in_err-more.field-0.0 c.in_err-more.ensures.gives))

pub returns-then-not-more-clause-gives : goal.returns-then-not-more-clause-gives
returns-then-not-more-clause-gives c =
    let fits : FitsSigned w64 c.in_ok-lo.lo = search rules in
    let fits_too : FitsSigned w64 c.in_ok-lo.hi = search rules in
    sym c.loop-values.invariant.0
    ∙ part_ends c.loop-values.values (rest c.loop-values.c) (c.in_ok-lo.lo, c.in_ok-lo.hi) (rest c.part.new.c) c.in_ok-lo.ensures.gives (rest c.comma.new.self) (search rules)
    ∙ ap (λ l. Ok (l, rest c.comma.new.self))
    (sym (c.in_ok-values.ensures ∙ ap (λ z. with_range c.loop-values.values z (to_z w64 (of_z w64 c.in_ok-lo.hi))) (to_z-of_z w64 c.in_ok-lo.lo fits) ∙ ap (λ z. with_range c.loop-values.values c.in_ok-lo.lo z) (to_z-of_z w64 c.in_ok-lo.hi fits_too)))

pub returns-then-not-more-clause-filled : goal.returns-then-not-more-clause-filled
returns-then-not-more-clause-filled c = λ none. range_some c.loop-values.values _ _ (sym c.in_ok-values.ensures ∙ none)

pub loop-values-smaller : goal.loop-values-smaller
loop-values-smaller c =
    (part_goes_on c.loop-values.values (rest c.loop-values.c) (c.in_ok-lo.lo, c.in_ok-lo.hi) (rest c.part.new.c) c.in_ok-lo.ensures.gives (rest c.comma.new.self) (search rules)).1

pub loop-values-preserved : goal.loop-values-preserved
loop-values-preserved c =
    let fits : FitsSigned w64 c.in_ok-lo.lo = search rules in
    let fits_too : FitsSigned w64 c.in_ok-lo.hi = search rules in
    let made : c.in_ok-values.values ≡ with_range c.loop-values.values c.in_ok-lo.lo c.in_ok-lo.hi =
    c.in_ok-values.ensures ∙ ap (λ z. with_range c.loop-values.values z (to_z w64 (of_z w64 c.in_ok-lo.hi))) (to_z-of_z w64 c.in_ok-lo.lo fits) ∙ ap (λ z. with_range c.loop-values.values c.in_ok-lo.lo z) (to_z-of_z w64 c.in_ok-lo.hi fits_too) in
    let on = part_goes_on c.loop-values.values (rest c.loop-values.c) (c.in_ok-lo.lo, c.in_ok-lo.hi) (rest c.part.new.c) c.in_ok-lo.ensures.gives (rest c.comma.new.self) (search rules) in (
      ap (λ l. parts_from l (rest c.comma.new.self)) made ∙ on.0 ∙ c.loop-values.invariant.0,
      search rules,
      subst (λ l. length l ≤ SPAN) (sym made) c.in_ok-lo.ensures.room,
    )
