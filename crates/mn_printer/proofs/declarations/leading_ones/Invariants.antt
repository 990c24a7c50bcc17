use Rattle.std.proofs.Common.{◌≡◌, ◌≤◌, ◌-◌, ◌++◌, drop, length, replicate}
use Rattle.mn_printer.proofs.declarations.leading_ones.Given as goal

-- those passed are 1
abbrev pub invariant-loop-ones : goal.invariant-loop-ones
invariant-loop-ones l = record {
  within : l.ones ≤ length l.dims;
  passed : l.dims ≡ replicate l.ones 1 ++ drop l.ones l.dims;
}

abbrev pub decreases-loop-ones : goal.decreases-loop-ones
decreases-loop-ones l = length l.dims - l.ones
