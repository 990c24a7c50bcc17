use Rattle.std.proofs.Common.{◌≡◌, ℕ, suc, ◌-◌, ◌<◌, ◌≤◌, length, slice_get, Some}
use Rattle.mn_model.specs.Variable.{number_of}
use Rattle.mn_model.specs.declared.declaration.Decl.{Decl}
use Rattle.mn_printer.proofs.names.begun.Given as goal

-- those before low begin with the number or before it, and the one at high doesn't
abbrev pub invariant-loop-low : goal.invariant-loop-low
invariant-loop-low l = record {
  ordered : l.low ≤ l.high;
  within : l.high ≤ length l.decls;
  last : (k : ℕ) (d : Decl) → suc k ≡ l.low → slice_get l.decls k ≡ Some d → number_of d.first ≤ l.n;
  next : (d : Decl) → slice_get l.decls l.high ≡ Some d → l.n < number_of d.first;
}

abbrev pub decreases-loop-low : goal.decreases-loop-low
decreases-loop-low l = l.high - l.low
