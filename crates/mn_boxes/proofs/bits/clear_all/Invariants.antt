use Rattle.std.proofs.Common.{◌≡◌, ℕ, ◌<◌, get_or, length}
use Rattle.mn_boxes.proofs.bits.clear_all.Given as goal

abbrev pub invariant-loop-i : goal.invariant-loop-i
invariant-loop-i l = record {
  count : length l.words.items ≡ length l.fn.words.items;
  zeros : (k : ℕ) → k < l.i → get_or l.words.items k 0 ≡ 0;
}
