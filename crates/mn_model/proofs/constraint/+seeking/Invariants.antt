use Rattle.std.proofs.Common.{ℕ, ◌≤◌, Result}
use Rattle.mn_model.specs.Parts.{places_of}
use Rattle.mn_model.specs.Places.{IsAt}
use Rattle.mn_model.specs.declared.constraint.Cons.{size-Cons}
use Rattle.mn_model.specs.declared.constraint.Term.{Term}
use Rattle.mn_model.proofs.constraint.+seeking.Given as goal

-- what is found among the children that are left is what is sought
abbrev pub invariant-Cons::place_or_left-loop-rest : goal.invariant-Cons::place_or_left-loop-rest
invariant-Cons::place_or_left-loop-rest l = record {
  found : (r : Result Term ℕ) → IsAt (places_of l.rest) l.left r → IsAt (places_of l.initial.rest) l.initial.left r;
  depth : size-Cons l.rest ≤ size-Cons l.initial.rest;
}
