-- What a queue is, seen from outside, and how it lies in a row of words.
use Rattle.std.specs.Prelude.{◌≡◌, ℕ, ◌-◌, ◌<◌, ◌^◌, ◌==◌, List, All, if◌then◌else◌, length, slice_index, slice_index_or}
use Rattle.mn_lists.specs.Circles.{chain, Follow}
use Rattle.mn_lists.specs.Standing.{count_of}

-- how many numbers there are, and those that stand in the queue, the first one first
pub record NumberQueue : Type 0 where
  pub numbers : ℕ
  pub items : List ℕ

-- the number after k in the queue. The word of a number is one more than that, or 0 where the number is not in the queue
abbrev pub follower : List ℕ → ℕ → ℕ
follower row k = slice_index row k - 1

-- the numbers from the first one on. The number n stands for the end
abbrev pub items_of : List ℕ → ℕ → ℕ → List ℕ
items_of row n first = chain (follower row) n n first

-- the queue that lies in the row
abbrev pub number_queue : List ℕ → ℕ → ℕ → NumberQueue
number_queue row n first = record { numbers = n; items = items_of row n first }

-- xs stand in the row from the first to the last, and each number's word tells whether it is there
pub record IsQueue (row : List ℕ) (n first last_one : ℕ) (xs : List ℕ) : Type 0 where
  pub nodes : length row ≡ n
  pub fits : n < 2 ^ 60
  pub follows : Follow (follower row) first xs n
  pub only : All (λ x. x < n) xs
  pub marks : (k : ℕ) → k < n → count_of k xs ≡ (if slice_index row k == 0 then 0 else 1)
  pub ends : slice_index_or xs (length xs - 1) last_one ≡ last_one
