use Rattle.std.proofs.Common.{◌↔◌, ◌≤◌, List, ℤ, take, refl, sym, true≢false, ap, subst, ◌∙◌, arith}
use Rattle.mn_model.specs.Members.{HasMember}
use Rattle.mn_meaning.specs.Families.{rows_of}
use Rattle.mn_meaning.specs.Meaning.{values_at}
use Rattle.mn_meaning.proofs.Rows.{rows_of-next, rows_of-end, row_on, row_is, no_row, row_tells}
use Rattle.mn_meaning.proofs.sets.is_tuple.Goals as goal

pub returns-then-is_row : goal.returns-then-is_row
returns-then-is_row g c =
    let least : 1 ≤ c.args.arity = omega arith in
    let next = rows_of-next c.args.arity c.loop-rest.rest.now least c.loop-rest-test.true in
    let tells = row_tells c.is_row.result c.split_at.result.0.now (take c.args.arity c.loop-rest.rest.now) (values_at (g.V.Values.values c.args.s.now) c.args.v.now) _ c.split_at.ensures.front (ap (values_at (g.V.Values.values c.args.s.now)) c.as_slice.ensures) c.is_row.ensures in
    (λ _. row_is _ _ _ _ _ next (tells.0 c.if-is_row.true) c.loop-rest.invariant, λ _. refl)

pub loop-rest-preserved : goal.loop-rest-preserved
loop-rest-preserved g c =
    let least : 1 ≤ c.args.arity = omega arith in
    let next = rows_of-next c.args.arity c.loop-rest.rest.now least c.loop-rest-test.true in
    let tells = row_tells c.is_row.result c.split_at.result.0.now (take c.args.arity c.loop-rest.rest.now) (values_at (g.V.Values.values c.args.s.now) c.args.v.now) _ c.split_at.ensures.front (ap (values_at (g.V.Values.values c.args.s.now)) c.as_slice.ensures) c.is_row.ensures in
    subst (λ (cells : List ℤ). HasMember (rows_of c.args.arity cells) (values_at (g.V.Values.values c.args.s.now) c.args.v.now) ↔ HasMember (rows_of c.args.arity c.args.cells.now) (values_at (g.V.Values.values c.args.s.now) c.args.v.now)) (sym c.split_at.ensures.back)
    (row_on _ _ _ _ _ next (λ e. true≢false (sym (tells.1 e) ∙ c.if-is_row.false)) c.loop-rest.invariant)

pub returns : goal.returns
returns g c =
    let end = rows_of-end c.args.arity c.loop-rest.rest.now c.loop-rest-test.false in
    (λ never. absurd (true≢false (sym never)), λ has. absurd (no_row _ _ _ end c.loop-rest.invariant has))
