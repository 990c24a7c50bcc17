use Rattle.std.proofs.Common.{◌≡◌, ◌||◌, ℤ, List, ◌∷◌, length, sym, subst, ap, ◌∙◌}
use Rattle.std.specs.List.{AllByRecursion}
use Rattle.std.specs.Prelude.{Vec}
use Rattle.std.specs.declared.alloc.Global.{Global}
use Rattle.std.specs.Set.{is_member}
use Rattle.mn_meaning.specs.Families.{rows_of}
use Rattle.mn_meaning.proofs.Rows.{rows_of-end}
use Rattle.mn_table.specs.Choosing.{row_eq, rows_in}
use Rattle.mn_table.proofs.Looking.{next_row}
use Rattle.mn_table.proofs.Repeats.{level_more, member_all, member_on}
use Rattle.mn_table.proofs.once.rows_once.Goals as goal

pub loop-rest-preserved : goal.loop-rest-preserved
loop-rest-preserved c =
    let arity = c.args.arity in
    let next = next_row arity c.loop-rest.rest.now c.split_at.result.0.now c.split_at.result.1.now c.requires c.loop-rest-test.true c.split_at.ensures.front c.split_at.ensures.back in
    let row = c.in_ok-from_slice.field-0 in
    let items : row.items ≡ c.split_at.result.0.now = c.in_ok-from_slice.ensures.items in
    let here = next ∙ ap (λ (r : List ℤ). r ∷ rows_of arity c.split_at.result.1.now) (sym items) in
    let long : length row.items ≡ arity = ap length items ∙ c.split_at.ensures.front_len in
    record {
      level = subst (λ (rows : List (Vec ℤ Global)). AllByRecursion (λ r. length r ≡ arity) (rows_in rows)) (sym c.in_ok-insert.ensures.keys) (level_more arity c.loop-rest.rows.keys row long c.loop-rest.invariant.level);
      same = λ q. subst (λ (rows : List (Vec ℤ Global)). (is_member row_eq (rows_in rows) q || is_member row_eq (rows_of arity c.split_at.result.1.now) q) ≡ is_member row_eq (rows_of arity c.args.cells.now) q) (sym c.in_ok-insert.ensures.keys)
          (member_on c.loop-rest.rows.keys row (rows_of arity c.loop-rest.rest.now) (rows_of arity c.split_at.result.1.now) (rows_of arity c.args.cells.now) q here (c.loop-rest.invariant.same q));
    }

pub returns-clause-same : goal.returns-clause-same
returns-clause-same c = λ q. member_all c.loop-rest.rows.keys (rows_of c.args.arity c.loop-rest.rest.now) (rows_of c.args.arity c.args.cells.now) q (rows_of-end c.args.arity c.loop-rest.rest.now c.loop-rest-test.false) (c.loop-rest.invariant.same q)
