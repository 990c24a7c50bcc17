-- What the lists and the walk are, seen from outside, and how they lie in a row of words.
use Rattle.std.specs.Prelude.{◌≡◌, ℕ, ◌+◌, ◌*◌, ◌<◌, ◌^◌, List, Option, length}
use Rattle.std.specs.Option.{option_map}
use Rattle.mn_lists.specs.Circles.{chain, circles, IsLinked, IsWalk}
use Rattle.mn_lists.specs.Row.{next_node, prev_node}

-- the triggers on each list, and what is ahead of the walk
pub record TriggerLists : Type 0 where
  pub triggers : ℕ
  pub lists : List (List ℕ)
  pub walk : Option (List ℕ)

-- the lists that lie in the row
abbrev pub lists_of : List ℕ → ℕ → ℕ → List (List ℕ)
lists_of row n heads = circles (next_node row) n heads

-- what is ahead of the walk in the row
abbrev pub walk_of : List ℕ → ℕ → Option ℕ → Option (List ℕ)
walk_of row n cursor = option_map (chain (next_node row) n n) cursor

-- the lists and the walk that lie in the row
abbrev pub trigger_lists : List ℕ → ℕ → ℕ → Option ℕ → TriggerLists
trigger_lists row n heads cursor = record { triggers = n; lists = lists_of row n heads; walk = walk_of row n cursor }

-- the row has the nodes of n triggers and so many heads, in circles, and the walk goes on at one of them
pub record AreLinks (row : List ℕ) (n heads : ℕ) (cursor : Option ℕ) : Type 0 where
  pub nodes : length row ≡ 2 * (n + heads)
  pub fits : n + heads < 2 ^ 60
  pub linked : IsLinked (next_node row) (prev_node row) n (lists_of row n heads)
  pub walking : IsWalk (next_node row) n (n + heads) cursor
