use Rattle.std.proofs.Common.{◌≡◌, ◌++◌, length}
use Rattle.mn_decls.proofs.brackets.push_vars.Given as goal

-- what there is and what is left are the whole
abbrev pub invariant-loop-left : goal.invariant-loop-left
invariant-loop-left l = l.out ++ l.left ≡ l.fn.out ++ l.vars

abbrev pub decreases-loop-left : goal.decreases-loop-left
decreases-loop-left l = length l.left
