-- A ring whose tuple lists or constraints aren't all there yet.
use Rattle.std.specs.Prelude.{ℕ, ◌+◌, ◌*◌, ℤ, pos, List, ◌++◌, map, slice_index_or, codes}
use Rattle.std.specs.List.{range_with_len}
use Rattle.mn_model.specs.Problem.{Problem}
use Rattle.mn_gen.specs.Generated.{draw, posing, state_after, table_of_list, three_from, tuple_list, variables_named}

-- the ring of n variables with its first lists and the constraints of the first of these
unfoldable pub ring : ℕ → ℕ → ℕ → ℕ → Problem
ring seed n lists cons =
    posing (variables_named (codes "v") n 3) (map (tuple_list seed n) (range_with_len 0 lists)) (map (table_of_list n) (range_with_len 0 cons))

-- the state of the draws after the hidden values and so many lists
abbrev pub state_before : ℕ → ℕ → ℕ → ℕ
state_before seed n lists = state_after seed (n + 69 * lists)

-- the cells of list k that is drawn from a state: the hidden values at its three places, and 23 triples of draws
unfoldable pub cells_after : List ℤ → ℕ → ℕ → ℕ → List ℤ
cells_after hidden state n k = map (λ i. slice_index_or hidden i (pos 0)) (three_from n k) ++ map (draw state) (range_with_len 0 69)
