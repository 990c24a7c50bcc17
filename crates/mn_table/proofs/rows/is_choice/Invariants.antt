use Rattle.std.proofs.Common.{◌≡◌, ◌↔◌, length}
use Rattle.std.specs.Iterator.Adapters.{zip_first, zip_second}
use Rattle.std.specs.List.{AllByRecursion}
use Rattle.std.specs.Slice.Iter.{iter_rest}
use Rattle.mn_closure.specs.Supports.{Choice}
use Rattle.mn_prop.specs.Contexts.{IsNamed, box_of, vars_of}
use Rattle.mn_table.proofs.rows.is_choice.Given as goal

-- the places that are left decide of all
abbrev pub invariant-loop-t : goal.invariant-loop-t
invariant-loop-t l = record {
  whole : Choice (box_of l.c) (iter_rest (zip_first l.t-iterator)) (iter_rest (zip_second l.t-iterator)) ↔ Choice (box_of l.c) l.v l.row;
  named : AllByRecursion (IsNamed (vars_of l.c)) (iter_rest (zip_first l.t-iterator));
  level : length (iter_rest (zip_second l.t-iterator)) ≡ length (iter_rest (zip_first l.t-iterator));
}
