-- Indices and rows of a matrix, and the tuples of a table.
use Rattle.std.specs.Prelude.{ℕ, zero, suc, ◌/◌, ◌%◌, ℤ, List, [], ◌∷◌, length, take, drop}
use Rattle.mn_model.specs.Problem.{size_of_dims}

-- the indices of a place in a matrix of these dimensions, the last index running fastest
abbrev pub indices_of : List ℕ → ℕ → List ℕ
indices_of [] place = []
indices_of (dim ∷ dims) place = (place / size_of_dims dims) ∷ indices_of dims (place % size_of_dims dims)

-- so many rows of a list, each of the same size
abbrev pub rows_of : {X : Type 0} → ℕ → ℕ → List X → List (List X)
rows_of size zero xs = []
rows_of size (suc count) xs = take size xs ∷ rows_of size count (drop size xs)

-- how many tuples of a length there are, and which
abbrev pub tuple_count : ℕ → List ℤ → ℕ
tuple_count arity cells = length cells / arity

abbrev pub tuples_of : ℕ → List ℤ → List (List ℤ)
tuples_of arity cells = rows_of arity (tuple_count arity cells) cells
