-- Nodes that lead from one to the next. Nodes below n are numbers that stand on a list, and each other node is an end.
use Rattle.std.specs.Prelude.{◌≡◌, ℕ, zero, suc, ◌+◌, ◌≤◌, ◌<◌, ◌==◌, List, [], ◌∷◌, Option, None, Some, All, if◌then◌else◌, length, map, nat_lt, slice_index_or}
use Rattle.std.specs.List.{range_with_len}
use Rattle.mn_lists.specs.Standing.{EachOnOneList, count_of}

-- the numbers from node s on along f, up to an end, and at most so many
abbrev pub chain : (ℕ → ℕ) → ℕ → ℕ → ℕ → List ℕ
chain f n zero s = []
chain f n (suc most) s = if nat_lt s n then s ∷ chain f n most (f s) else []

-- the numbers of each circle through one of so many ends
abbrev pub circles : (ℕ → ℕ) → ℕ → ℕ → List (List ℕ)
circles f n ends = map (λ h. chain f n n (f h)) (range_with_len n ends)

-- from s on along f stand xs, and then e
abbrev pub Follow : (ℕ → ℕ) → ℕ → List ℕ → ℕ → Type 0
Follow f s [] e = s ≡ e
Follow f s (x ∷ xs) e = (s ≡ x) × Follow f (f x) xs e

-- the node x, or the one after t in place of t
abbrev pub skip : (ℕ → ℕ) → ℕ → ℕ → ℕ
skip f t x = if x == t then f t else x

-- f and g take nodes below m to such, and undo each other
pub record Mutual (f g : ℕ → ℕ) (m : ℕ) : Type 0 where
  pub next_below : (k : ℕ) → k < m → f k < m
  pub prev_below : (k : ℕ) → k < m → g k < m
  pub back : (k : ℕ) → k < m → g (f k) ≡ k
  pub forth : (k : ℕ) → k < m → f (g k) ≡ k

-- list l is the circle through the node n + l, and each number stands on one list
pub record IsLinked (f g : ℕ → ℕ) (n : ℕ) (lists : List (List ℕ)) : Type 0 where
  pub mutual_nodes : Mutual f g (n + length lists)
  pub loops : (l : ℕ) → l < length lists → Follow f (f (n + l)) (slice_index_or lists l []) (n + l)
  pub each : EachOnOneList n lists

-- xs stand from the node s on, up to one of the ends below m, and none of them twice
pub record IsRun (f : ℕ → ℕ) (n m s : ℕ) (xs : List ℕ) : Type 0 where
  pub end : ℕ
  pub is_end : n ≤ end
  pub in_range : end < m
  pub follows : Follow f s xs end
  pub only : All (λ x. x < n) xs
  pub once : (x : ℕ) → x < n → count_of x xs ≤ 1

-- what is ahead of a walk that goes on at this node
abbrev pub IsWalk : (ℕ → ℕ) → ℕ → ℕ → Option ℕ → Type 0
IsWalk f n m None = Unit {0}
IsWalk f n m (Some s) = IsRun f n m s (chain f n n s)
