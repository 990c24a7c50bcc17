use Rattle.std.proofs.Common.{◌≡◌, ◌++◌, ◌≤ℤ◌, ◌-ℤ◌, nat_abs}
use Rattle.mn_model.specs.Domain.{stretch}
use Rattle.mn_decls.proofs.values.push_all.Given as goal

abbrev pub invariant-loop-value : goal.invariant-loop-value
invariant-loop-value l =
    (l.items.items ++ stretch l.value l.fn.hi ≡ l.fn.items.items ++ stretch l.fn.lo l.fn.hi) × (l.fn.lo ≤ℤ l.value) × (l.value ≤ℤ l.fn.hi)

abbrev pub decreases-loop-value : goal.decreases-loop-value
decreases-loop-value l = nat_abs (l.fn.hi -ℤ l.value)
