use Rattle.std.proofs.Common.{◌≡◌, ◌+◌, ◌*◌, ◌^◌, ◌<◌, ◌++◌, length}
use Rattle.std.specs.List.{AllByRecursion, flat_map}
use Rattle.mn_references.specs.References.{places_from}
use Rattle.mn_references.specs.Lookups.{sub_seen}
use Rattle.mn_references.proofs.indices.places_below.Given as goal

-- what is done and what is left are the whole
abbrev pub invariant-loop-left : goal.invariant-loop-left
invariant-loop-left l = record {
  whole : l.out.items ++ flat_map (places_from l.dim (sub_seen l.index)) l.left ≡ flat_map (places_from l.dim (sub_seen l.index)) l.places;
  fits : AllByRecursion (λ place. (place + 1) * l.dim < 2 ^ 64) l.left;
}

abbrev pub decreases-loop-left : goal.decreases-loop-left
decreases-loop-left l = length l.left
