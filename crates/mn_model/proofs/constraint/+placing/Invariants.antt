use Rattle.std.proofs.Common.{◌≡◌, ◌≤◌, ◌++◌}
use Rattle.mn_model.specs.Parts.{places_of}
use Rattle.mn_model.specs.declared.constraint.Cons.{size-Cons}
use Rattle.mn_model.proofs.constraint.+placing.Given as goal

-- the terms so far and the places of the children that are left are all of them
abbrev pub invariant-Cons::add_places-loop-rest : goal.invariant-Cons::add_places-loop-rest
invariant-Cons::add_places-loop-rest l = record {
  whole : l.terms.items ++ places_of l.rest ≡ l.initial.terms.items ++ places_of l.initial.rest;
  depth : size-Cons l.rest ≤ size-Cons l.initial.rest;
}
