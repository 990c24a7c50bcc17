use Rattle.std.proofs.Common.{◌≡◌, ℕ, ◌<◌, ◌≤◌, slice_index}
use Rattle.mn_boxes.proofs.bits.previous_word.Given as goal

abbrev pub invariant-loop-word : goal.invariant-loop-word
invariant-loop-word l = record {
  from : l.start ≤ l.word;
  within : l.word < l.at;
  none : (k : ℕ) → l.word < k → k < l.at → slice_index l.words k ≡ 0;
}

abbrev pub decreases-loop-word : goal.decreases-loop-word
decreases-loop-word l = l.word
