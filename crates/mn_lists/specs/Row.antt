-- A row of words as nodes: the next and the previous node of node k are words 2 k and 2 k + 1.
use Rattle.std.specs.Prelude.{◌≡◌, ℕ, ◌+◌, ◌*◌, ◌<◌, ◌==◌, List, if◌then◌else◌, length, nat_lt, slice_index, slice_set}

-- the row has the node k
abbrev pub HasNode : List ℕ → ℕ → Type 0
HasNode row k = 2 * k + 1 < length row

-- the node after k
abbrev pub next_node : List ℕ → ℕ → ℕ
next_node row k = slice_index row (2 * k)

-- the node before k
abbrev pub prev_node : List ℕ → ℕ → ℕ
prev_node row k = slice_index row (2 * k + 1)

-- b follows a
abbrev pub joined : List ℕ → ℕ → ℕ → List ℕ
joined row a b = slice_set (slice_set row (2 * a) b) (2 * b + 1) a

-- the nodes beside k follow each other
abbrev pub unlinked : List ℕ → ℕ → List ℕ
unlinked row k = joined row (prev_node row k) (next_node row k)

-- k stands between h and the node after it
abbrev pub inserted : List ℕ → ℕ → ℕ → List ℕ
inserted row h k = joined (joined row h k) k (next_node row h)

-- the nodes beside a node are nodes of the row too
abbrev pub IsClosed : List ℕ → Type 0
IsClosed row = (k : ℕ) → HasNode row k → HasNode row (next_node row k) × HasNode row (prev_node row k)

-- the node after k where n triggers stand in order behind the first head, and each other head is alone
abbrev pub first_next : ℕ → ℕ → ℕ
first_next n k = if nat_lt k n then k + 1 else (if k == n then 0 else k)

-- so all nodes of the row are linked
abbrev pub StandsAtFirst : List ℕ → ℕ → Type 0
StandsAtFirst row n = (k : ℕ) → HasNode row k → (next_node row k ≡ first_next n k) × (prev_node row (first_next n k) ≡ k)
