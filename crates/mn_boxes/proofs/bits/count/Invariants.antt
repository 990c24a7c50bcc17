use Rattle.std.proofs.Common.{◌≡◌, ◌-◌, ◌≤◌}
use Rattle.mn_boxes.specs.Bits.{bit_of, count_from}
use Rattle.mn_boxes.proofs.bits.count.Given as goal

abbrev pub invariant-loop-i : goal.invariant-loop-i
invariant-loop-i l = record {
  from : l.from ≤ l.i;
  within : l.i ≤ l.to;
  count : l.count ≡ count_from (bit_of l.words) l.from (l.i - l.from);
  few : l.count ≤ l.i - l.from;
}

abbrev pub decreases-loop-i : goal.decreases-loop-i
decreases-loop-i l = l.to - l.i
