use Rattle.std.proofs.Common.{◌≡◌, ◌+◌, ◌≤◌}
use Rattle.mn_model.specs.Parts.{cell_count_of}
use Rattle.mn_model.specs.declared.constraint.Cons.{size-Cons}
use Rattle.mn_model.proofs.constraint.+counting.Given as goal

-- the cells counted and those of the children that are left are all of them
abbrev pub invariant-Cons::cells-loop-rest : goal.invariant-Cons::cells-loop-rest
invariant-Cons::cells-loop-rest l = record {
  whole : l.count + cell_count_of l.rest ≡ cell_count_of l.initial.rest;
  depth : size-Cons l.rest ≤ size-Cons l.initial.rest;
}
