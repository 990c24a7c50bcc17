use Rattle.std.proofs.Common.{◌≡◌, ◌≤◌}
use Rattle.mn_model.specs.Negation.{followed_by}
use Rattle.mn_model.specs.declared.constraint.Cons.{size-Cons}
use Rattle.mn_model.proofs.constraint.+copying.Given as goal

-- the copies in front of those that are left are all children
abbrev pub invariant-Cons::copy-loop-rest : goal.invariant-Cons::copy-loop-rest
invariant-Cons::copy-loop-rest l = record {
  whole : followed_by l.copies.items l.rest ≡ l.initial.rest;
  depth : size-Cons l.rest ≤ size-Cons l.initial.rest;
}
