use Rattle.std.proofs.Common.{◌≡◌, length}
use Rattle.mn_references.proofs.Rowing.{last_run}
use Rattle.mn_references.proofs.rows.run.Given as goal

-- the last of what is left, or the one before it
abbrev pub invariant-loop-left : goal.invariant-loop-left
invariant-loop-left l = last_run l.run l.left ≡ last_run 1 l.dims

abbrev pub decreases-loop-left : goal.decreases-loop-left
decreases-loop-left l = length l.left
