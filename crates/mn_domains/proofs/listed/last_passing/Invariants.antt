use Rattle.std.proofs.Common.{int_le, ◌&&◌, ◌≤◌, length}
use Rattle.mn_domains.specs.Rows.{passes}
use Rattle.mn_domains.proofs.Firsts.{NoneBehind}
use Rattle.mn_domains.proofs.listed.last_passing.Given as goal

abbrev pub invariant-loop-behind : goal.invariant-loop-behind
invariant-loop-behind l = record {
  none : NoneBehind (λ x. int_le l.from x && passes l.set l.wanted x) l.values l.behind;
  within : l.behind ≤ length l.values;
}

abbrev pub decreases-loop-behind : goal.decreases-loop-behind
decreases-loop-behind l = l.behind
