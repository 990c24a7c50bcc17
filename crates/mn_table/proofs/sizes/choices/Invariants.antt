use Rattle.std.proofs.Common.{◌≡◌, ◌-◌, ◌*◌, ◌^◌, ◌≤◌, min, drop}
use Rattle.mn_prop.specs.Contexts.{box_of}
use Rattle.mn_table.specs.Choosing.{choice_count}
use Rattle.mn_table.proofs.sizes.choices.Given as goal

-- with the choices at the places that are left there are all
abbrev pub invariant-loop-t : goal.invariant-loop-t
invariant-loop-t l = record {
  few : l.many ≤ 2 ^ 128 - 1;
  whole : min (l.many * choice_count (box_of l.c) (drop l.t-index l.v)) (2 ^ 128 - 1) ≡ min (choice_count (box_of l.c) l.v) (2 ^ 128 - 1);
}
