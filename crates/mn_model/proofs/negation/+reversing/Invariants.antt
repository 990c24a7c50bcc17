use Rattle.std.proofs.Common.{◌≡◌, ◌≤◌}
use Rattle.mn_model.specs.Lawful.{HaveNearConstants}
use Rattle.mn_model.specs.Negation.{followed_by, negations}
use Rattle.mn_model.specs.declared.constraint.Cons.{size-Cons}
use Rattle.mn_model.proofs.negation.+reversing.Given as goal

-- the negations so far, in front of those of the children that are left, are all of them
abbrev pub invariant-reverse_each-loop-rest : goal.invariant-reverse_each-loop-rest
invariant-reverse_each-loop-rest l = record {
  whole : followed_by l.reversed.items (negations l.rest) ≡ negations l.initial.rest;
  near : HaveNearConstants l.rest;
  depth : size-Cons l.rest ≤ size-Cons l.initial.rest;
}
