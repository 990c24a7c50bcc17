use Rattle.std.proofs.Common.{◌≡◌, ◌||◌, List, ℤ, length}
use Rattle.std.specs.List.{AllByRecursion}
use Rattle.std.specs.Set.{is_member}
use Rattle.mn_meaning.specs.Families.{rows_of}
use Rattle.mn_table.specs.Choosing.{row_eq, rows_in}
use Rattle.mn_table.proofs.once.rows_once.Given as goal

-- those that are there and those that are left are all
abbrev pub invariant-loop-rest : goal.invariant-loop-rest
invariant-loop-rest l = record {
  level : AllByRecursion (λ row. length row ≡ l.arity) (rows_in l.rows.keys);
  same : (q : List ℤ) → (is_member row_eq (rows_in l.rows.keys) q || is_member row_eq (rows_of l.arity l.rest) q) ≡ is_member row_eq (rows_of l.arity l.cells) q;
}

abbrev pub decreases-loop-rest : goal.decreases-loop-rest
decreases-loop-rest l = length l.rest
