use Rattle.std.proofs.Common.{◌≡◌, ◌++◌, map, length}
use Rattle.mn_model.specs.declared.constraint.Term.TheVariants.{Var}
use Rattle.mn_references.proofs.lists.push_vars.Given as goal

-- what is done and what is left are the whole
abbrev pub invariant-loop-left : goal.invariant-loop-left
invariant-loop-left l = l.terms ++ map Var l.left ≡ l.fn.terms ++ map Var l.vars

abbrev pub decreases-loop-left : goal.decreases-loop-left
decreases-loop-left l = length l.left
