-- Bits in a row of words of 64 bits.
use Rattle.std.specs.Prelude.{ℕ, zero, suc, ◌+◌, ◌/◌, ◌%◌, ◌^◌, ◌==◌, Bool, cond, List, slice_index, slice_set, bit_and, bit_or}
use Rattle.std.specs.Int.{bit_at, bit_not, w64}

-- bit i of the row
abbrev pub bit_of : List ℕ → ℕ → Bool
bit_of words i = bit_at (slice_index words (i / 64)) (i % 64) == 1

-- the row with bit i cleared
abbrev pub cleared : List ℕ → ℕ → List ℕ
cleared words i = slice_set words (i / 64) (bit_and (slice_index words (i / 64)) (bit_not w64 (2 ^ (i % 64))))

-- the row with bit i set
abbrev pub marked_at : List ℕ → ℕ → List ℕ
marked_at words i = slice_set words (i / 64) (bit_or (slice_index words (i / 64)) (2 ^ (i % 64)))

-- how many of the n numbers from i on pass a test
unfoldable pub count_from : (ℕ → Bool) → ℕ → ℕ → ℕ
count_from p i zero = 0
count_from p i (suc n) = cond (p i) 1 0 + count_from p (i + 1) n

-- bit t of one word
abbrev pub word_bit : ℕ → ℕ → Bool
word_bit word t = bit_at word t == 1
