use Rattle.std.proofs.Common.{◌≡◌, ℕ, ◌<◌, length, slice_index}
use Rattle.mn_count.proofs.open.number_all.Given as goal

-- the items so far are their own numbers
abbrev pub invariant-loop-i : goal.invariant-loop-i
invariant-loop-i l = record {
  count : length l.items.items ≡ length l.fn.items.items;
  numbers : (k : ℕ) → k < l.i → slice_index l.items.items k ≡ k;
}
