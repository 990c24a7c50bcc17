use Rattle.std.proofs.Common.{◌≡◌, ℤ, List, length, sym, subst, ap, ◌∙◌}
use Rattle.std.specs.List.{AllByRecursion}
use Rattle.std.specs.Set.{is_member}
use Rattle.mn_meaning.specs.Families.{rows_of}
use Rattle.mn_table.specs.Choosing.{row_eq, rows_in}
use Rattle.mn_table.proofs.forbidden.Forbidden.of.Goals as goal

pub invariant_of-result : goal.invariant_of-result
invariant_of-result c = record {
  some = c.requires.some;
  level = subst (λ n. AllByRecursion (λ row. length row ≡ n) (rows_in c.in_ok-rows.rows.keys)) c.len.ensures c.in_ok-rows.ensures.level;
  same = λ q. c.in_ok-rows.ensures.same q ∙ (ap (λ n. is_member row_eq (rows_of n c.cells_of.result.now) q) c.len.ensures ∙ ap (λ (rows : List (List ℤ)). is_member row_eq rows q) (sym c.cells_of.ensures));
}
