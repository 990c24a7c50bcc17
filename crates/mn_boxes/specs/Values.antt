-- Sets of values of a stretch, held by words that are aligned by value: two values whose numbers agree are in one word at
-- one place, whatever the stretch.
use Rattle.std.specs.Prelude.{◌≡◌, ℕ, ◌*◌, ◌%◌, ◌^◌, ◌<◌, ℤ, pos, ◌≤ℤ◌, neg_ℤ, int_lt, Bool, false, cond, List, length}
use Rattle.std.specs.Int.{int_gap}
use Rattle.mn_boxes.specs.Bits.{bit_of}

-- the number of a value: how far it is above a number that is below all values
abbrev pub place_of : ℤ → ℕ
place_of a = int_gap (neg_ℤ (pos (2 ^ 61))) a

-- a set of values from low on, as words whose first bit is that of low
pub record Values : Type 0 where
  pub low : ℤ
  pub words : List ℕ

-- whether a is in the set
abbrev pub members : Values → ℤ → Bool
members s a = cond (int_lt a s.low) false (bit_of s.words (int_gap s.low a))

-- the values that the set can have: those from low on that have a bit
pub record IsCovered (s : Values) (a : ℤ) : Type 0 where
  pub low : s.low ≤ℤ a
  pub high : int_gap s.low a < 64 * length s.words

-- the set has room for the same values
pub record IsAsWide (old new : Values) : Type 0 where
  pub low : new.low ≡ old.low
  pub words : length new.words ≡ length old.words

-- the first bit is the first one of a word of all values, and the bits have small numbers
pub record IsAligned (s : Values) : Type 0 where
  pub above : neg_ℤ (pos (2 ^ 40)) ≤ℤ s.low
  pub below : s.low ≤ℤ pos (2 ^ 40)
  pub word : place_of s.low % 64 ≡ 0
  pub few : length s.words < 2 ^ 40
