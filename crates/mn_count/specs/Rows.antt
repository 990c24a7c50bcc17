-- Places that are still open, by their numbers.
use Rattle.std.specs.Prelude.{◌≡◌, ℕ, ◌+◌, ◌-◌, ◌<◌, ◌≤◌, List, length, slice_index, slice_set}

-- numbers, of which the first ones are in use
pub record Row : Type 0 where
  pub items : List ℕ
  pub left : ℕ

-- no number in use stands twice, and each is less than how many there is room for
pub record IsRow (r : Row) : Type 0 where
  pub room : r.left ≤ length r.items
  pub within : (k : ℕ) → k < r.left → slice_index r.items k < length r.items
  pub distinct : (k m : ℕ) → k < r.left → m < r.left → slice_index r.items k ≡ slice_index r.items m → k ≡ m

-- i is the number in use at k; and it is in use
abbrev pub StandsIn : Row → ℕ → ℕ → Type 0
StandsIn r k i = (k < r.left) × (slice_index r.items k ≡ i)

abbrev pub IsIn : Row → ℕ → Type 0
IsIn r i = (k : ℕ) × StandsIn r k i

-- without the number at k, in whose place stands the last one
abbrev pub without : ℕ → Row → Row
without k r = record { items = slice_set r.items k (slice_index r.items (r.left - 1)); left = r.left - 1 }

-- one number less is in use. Each from k on stood behind k
abbrev pub IsShrunk : ℕ → Row → Row → Type 0
IsShrunk k old new = (new.left + 1 ≡ old.left) × ((m : ℕ) → k ≤ m → m < new.left → (n : ℕ) × (k < n) × (n < old.left) × (slice_index new.items m ≡ slice_index old.items n))
