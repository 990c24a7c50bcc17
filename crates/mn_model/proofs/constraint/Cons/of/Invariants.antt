use Rattle.std.proofs.Common.{◌≡◌, length}
use Rattle.mn_model.specs.Negation.{followed_by}
use Rattle.mn_model.specs.declared.constraint.Con.TheVariants.{End}
use Rattle.mn_model.proofs.constraint.Cons.of.Given as goal

-- those that are left, in front of those that stand, are all of them
abbrev pub invariant-loop-last : goal.invariant-loop-last
invariant-loop-last l = followed_by l.children.items l.cons ≡ followed_by l.initial.children.items End

abbrev pub decreases-loop-last : goal.decreases-loop-last
decreases-loop-last l = length l.children.items
