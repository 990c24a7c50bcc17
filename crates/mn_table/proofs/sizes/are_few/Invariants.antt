use Rattle.std.proofs.Common.{◌*◌, ◌<◌, drop}
use Rattle.std.specs.List.{AllByRecursion}
use Rattle.mn_prop.specs.Contexts.{box_of}
use Rattle.mn_table.specs.Choosing.{choice_count, place_size}
use Rattle.mn_table.proofs.sizes.are_few.Given as goal

-- the places that are left decide of all
abbrev pub invariant-loop-t : goal.invariant-loop-t
invariant-loop-t l =
    AllByRecursion (λ t. l.tuples * place_size (box_of l.c) t < choice_count (box_of l.c) l.v) (drop l.t-index l.v)
    → AllByRecursion (λ t. l.tuples * place_size (box_of l.c) t < choice_count (box_of l.c) l.v) l.v
