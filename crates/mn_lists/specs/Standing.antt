-- What stands on the lists and in the queues, and what each call makes of it.
use Rattle.std.specs.Prelude.{◌≡◌, ◌≢◌, ℕ, ◌-◌, ◌<◌, ◌==◌, not, List, [], ◌∷◌, ◌++◌, Option, None, All, count_by, filter, if◌then◌else◌, map, replicate, slice_index_or, slice_set, sum_by, unwrap_or}
use Rattle.std.specs.List.{range_with_len}

-- the triggers on each list, what is still ahead of the walk that is under way, and the two queues
pub record Standing : Type 0 where
  pub triggers : ℕ
  pub lists : List (List ℕ)
  pub walk : Option (List ℕ)
  pub events : List ℕ
  pub cons : ℕ
  pub constraints : List ℕ

-- how often n stands in xs
abbrev pub count_of : ℕ → List ℕ → ℕ
count_of n xs = count_by (λ x. x == n) xs

-- each of n triggers stands once on one list and on no other, and nothing else stands on a list
pub record EachOnOneList (n : ℕ) (lists : List (List ℕ)) : Type 0 where
  pub once : (t : ℕ) → t < n → sum_by (count_of t) lists ≡ 1
  pub only : All (All (λ t. t < n)) lists

-- all triggers stand on the first of the lists, in order
abbrev pub all_on_first : ℕ → ℕ → List (List ℕ)
all_on_first n lists = range_with_len 0 n ∷ replicate (lists - 1) []

-- all triggers on the first of the lists, nothing queued, and no walk
abbrev pub as_made : ℕ → ℕ → ℕ → Standing
as_made lists triggers cons = record { triggers = triggers; lists = all_on_first triggers lists; walk = None; events = []; cons = cons; constraints = [] }

-- xs but for t
abbrev pub without : ℕ → List ℕ → List ℕ
without t xs = filter (λ x. not (x == t)) xs

-- t stands at the front of list l, and nowhere else
abbrev pub moved_to : ℕ → ℕ → List (List ℕ) → List (List ℕ)
moved_to t l lists = let others = map (without t) lists in slice_set others l (t ∷ slice_index_or others l [])

-- what is ahead of the walk
abbrev pub ahead : Option (List ℕ) → List ℕ
ahead walk = unwrap_or walk []

-- a queue after n was pushed: a number that is there already stays where it is
abbrev pub pushed : ℕ → List ℕ → List ℕ
pushed n xs = if count_of n xs == 0 then xs ++ n ∷ [] else xs

-- t stands on list l alone and isn't ahead of the walk, and each other trigger stands where it stood and is ahead where it was
pub record MovesOnly (old new : Standing) (t l : ℕ) : Type 0 where
  pub on_list : count_of t (slice_index_or new.lists l []) ≡ 1
  pub on_no_other : (k : ℕ) → k ≢ l → count_of t (slice_index_or new.lists k []) ≡ 0
  pub not_ahead : count_of t (ahead new.walk) ≡ 0
  pub others_stay : (u k : ℕ) → u ≢ t → count_of u (slice_index_or new.lists k []) ≡ count_of u (slice_index_or old.lists k [])
  pub others_ahead : (u : ℕ) → u ≢ t → count_of u (ahead new.walk) ≡ count_of u (ahead old.walk)
