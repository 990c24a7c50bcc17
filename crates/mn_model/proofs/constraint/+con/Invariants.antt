use Rattle.std.proofs.Common.{◌≤◌}
use Rattle.mn_model.proofs.constraint.+con.Given as goal
use Rattle.mn_model.specs.declared.constraint.Cons.{size-Cons}

-- what is left to drop is no deeper than the whole
abbrev pub invariant-Cons::drop-loop-self : goal.invariant-Cons::drop-loop-self
invariant-Cons::drop-loop-self l = size-Cons l.self ≤ size-Cons l.initial.self
