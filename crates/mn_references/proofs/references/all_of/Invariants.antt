use Rattle.std.proofs.Common.{◌≡◌, map}
use Rattle.std.specs.List.{range_with_len}
use Rattle.mn_references.specs.Lookups.{at_source}
use Rattle.mn_references.proofs.references.all_of.Given as goal

-- the variables so far
abbrev pub invariant-loop-place : goal.invariant-loop-place
invariant-loop-place l = l.vars ≡ map (at_source l.lookup.source) (range_with_len 0 l.place)
