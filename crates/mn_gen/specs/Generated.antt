-- The instances that are generated: two kinds, of any size. They are this project's own.
use Rattle.std.specs.Prelude.{ℕ, zero, suc, ◌+◌, ◌-◌, ◌*◌, ◌/◌, ◌%◌, ◌^◌, ℤ, pos, neg_ℤ, ◌-ℤ◌, List, [], ◌∷◌, ◌++◌, map, codes, decimal}
use Rattle.std.specs.List.{flat_map, range_with_len}
use Rattle.mn_model.specs.Domain.{stretch}
use Rattle.mn_model.specs.Negation.{more}
use Rattle.mn_model.specs.Problem.{Problem, nothing}
use Rattle.mn_model.specs.Variable.{variable}
use Rattle.mn_model.specs.declared.constraint.Con.{Con}
use Rattle.mn_model.specs.declared.constraint.Con.TheVariants as con
use Rattle.mn_model.specs.declared.constraint.Tab.TheVariants.{Named}
use Rattle.mn_model.specs.declared.constraint.Term.{Term}
use Rattle.mn_model.specs.declared.constraint.Term.TheVariants.{Var}
use Rattle.mn_model.specs.declared.declaration.Decl.{Decl}
use Rattle.mn_model.specs.declared.declaration.Tuples.{Tuples}
use Rattle.mn_model.specs.declared.variable.Kind.TheVariants.{Discrete}
use Rattle.mn_gen.specs.declared.kind.GenKind.{GenKind}
use Rattle.mn_gen.specs.declared.kind.GenKind.TheVariants.{Queens, Tables}

-- n variables with one name, each from 0 to most
abbrev pub variables_named : List ℕ → ℕ → ℕ → Decl
variables_named name n most = record { name = name; dims = n ∷ []; kind = Discrete; domain = stretch (pos 0) (pos most); first = variable 0 }

-- that these are all variables, with these tuple lists and constraints. No order is asked, and all is printed
abbrev pub posing : Decl → List Tuples → List Con → Problem
posing vars lists cons = record nothing { decls = vars ∷ []; tuples = lists; cons = cons }

-- the variable i of them
abbrev pub at_row : ℕ → Term
at_row i = Var (variable i)

-- queens: that the queens of two rows which are d apart don't share a diagonal, one way and the other. A difference of two
-- columns that isn't d is less or more
abbrev pub less_or_more : Term → Term → ℤ → ℤ → Con
less_or_more x y k l = con.WatchedOr (more (con.Ineq x y k) (more (con.Ineq y x l) con.End))

abbrev pub off_diagonals : ℕ → ℕ → List Con
off_diagonals i d =
    less_or_more (at_row i) (at_row (i + d)) (pos d -ℤ pos 1) (neg_ℤ (pos d) -ℤ pos 1)
    ∷ less_or_more (at_row i) (at_row (i + d)) (neg_ℤ (pos d) -ℤ pos 1) (pos d -ℤ pos 1) ∷ []

-- the queen of row i and those of the rows after it
abbrev pub pairs_of_row : ℕ → ℕ → List Con
pairs_of_row n i = flat_map (off_diagonals i) (range_with_len 1 (n - 1 - i))

-- the queens of a board with n rows: q[i] is the column of the queen in row i
abbrev pub queens : ℕ → Problem
queens n =
    posing (variables_named (codes "q") n (n - 1)) []
    (con.Alldiff (map at_row (range_with_len 0 n)) ∷ flat_map (pairs_of_row n) (range_with_len 0 n))

-- tables: a state is followed by another one (a linear congruence with the numbers of Knuth's MMIX), and a draw is a number
-- from 0 to 3 made of its state
abbrev pub next_state : ℕ → ℕ
next_state s = (6364136223846793005 * s + 1442695040888963407) % 2 ^ 64

unfoldable pub state_after : ℕ → ℕ → ℕ
state_after seed zero = seed
state_after seed (suc k) = next_state (state_after seed k)

abbrev pub drawn : ℕ → ℤ
drawn s = pos (s / 2 ^ 33 % 4)

-- the draw that comes after k others
unfoldable pub draw : ℕ → ℕ → ℤ
draw seed k = drawn (state_after seed (suc k))

-- three places one after another, on from the last to the first
abbrev pub three_from : ℕ → ℕ → List ℕ
three_from n k = k ∷ (k + 1) % n ∷ (k + 2) % n ∷ []

-- the cells of list k: the hidden values at its three places, which are the first n draws, and then 23 triples of draws
unfoldable pub cells_of_list : ℕ → ℕ → ℕ → List ℤ
cells_of_list seed n k = map (draw seed) (three_from n k) ++ map (draw seed) (range_with_len (n + 69 * k) 69)

abbrev pub list_name : ℕ → List ℕ
list_name k = codes "t" ++ decimal k

abbrev pub tuple_list : ℕ → ℕ → ℕ → Tuples
tuple_list seed n k = record { name = list_name k; arity = 3; cells = cells_of_list seed n k }

abbrev pub table_of_list : ℕ → ℕ → Con
table_of_list n k = con.Table (map at_row (three_from n k)) (Named k)

-- n variables on a ring, each three one after another in a tuple list of 24. The hidden values solve it
abbrev pub tables : ℕ → ℕ → Problem
tables seed n =
    posing (variables_named (codes "v") n 3) (map (tuple_list seed n) (range_with_len 0 n)) (map (table_of_list n) (range_with_len 0 n))

abbrev pub generated : GenKind → ℕ → ℕ → Problem
generated Queens seed n = queens n
generated Tables seed n = tables seed n
