use Rattle.std.proofs.Common.{◌≡◌, ◌<◌, ◌≤◌, ◌++◌, map, length}
use Rattle.std.specs.List.{AllByRecursion}
use Rattle.mn_model.specs.Variable.{number_of}
use Rattle.mn_model.specs.declared.limits.TheConstants.{VARIABLES}
use Rattle.mn_references.specs.Lookups.{at_source}
use Rattle.mn_references.proofs.references.variables_at.Given as goal

-- what is done and what is left are the whole
abbrev pub invariant-loop-left : goal.invariant-loop-left
invariant-loop-left l = record {
  whole : l.vars ++ map (at_source l.lookup.source) l.left ≡ map (at_source l.lookup.source) l.places;
  within : AllByRecursion (λ place. place < l.lookup.size) l.left;
  declared : AllByRecursion (λ place. number_of (at_source l.lookup.source place) ≤ VARIABLES) l.left;
}

abbrev pub decreases-loop-left : goal.decreases-loop-left
decreases-loop-left l = length l.left
