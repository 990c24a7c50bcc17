use Rattle.std.proofs.Common.{◌≡◌, ◌++◌, length}
use Rattle.mn_asking.proofs.ordering.push_all.Given as goal

-- what is done and what is left are the whole
abbrev pub invariant-loop-left : goal.invariant-loop-left
invariant-loop-left l = l.vars ++ l.left ≡ l.fn.vars ++ l.more

abbrev pub decreases-loop-left : goal.decreases-loop-left
decreases-loop-left l = length l.left
