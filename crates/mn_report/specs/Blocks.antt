-- The block that is printed of a solution.
use Rattle.std.specs.Prelude.{ℕ, ℤ, List, [], ◌∷◌, ◌++◌, map, codes, decimal, Option, Some, None}
use Rattle.std.specs.Fmt.{signed_decimal}
use Rattle.std.specs.List.{flat_map}
use Rattle.mn_model.specs.Problem.{Problem}
use Rattle.mn_model.specs.Variable.{number_of}
use Rattle.mn_model.specs.declared.search.Goal.{Goal}
use Rattle.mn_model.specs.declared.search.Print.{Print}
use Rattle.mn_model.specs.declared.search.Print.TheVariants.{All, Nothing, Rows}
use Rattle.mn_meaning.specs.Meaning.{at, value_of}

-- the values of each row that is printed: all of them in order of declaration, or those of the rows that are asked for
abbrev pub rows_of : Print → List ℤ → List (List ℤ)
rows_of All s = s ∷ []
rows_of Nothing s = []
rows_of (Rows rows) s = map (map (value_of (at s))) rows

-- a blank and a value
abbrev pub value_text : ℤ → List ℕ
value_text a = codes " " ++ signed_decimal a

-- the line of a row
abbrev pub row_text : List ℤ → List ℕ
row_text values = codes "Sol:" ++ flat_map value_text values ++ codes "\n"

-- the line of the objective, where there is one
abbrev pub objective_text : Option Goal → List ℤ → List ℕ
objective_text None s = []
objective_text (Some g) s = codes "Objective:" ++ value_text (at s (number_of g.var)) ++ codes "\n"

-- the block of a solution: its rows, its objective, and its number
abbrev pub block_text : Problem → List ℤ → ℕ → List ℕ
block_text p s number = flat_map row_text (rows_of p.print s) ++ objective_text p.goal s ++ codes "Solution Number: " ++ decimal number ++ codes "\n"
