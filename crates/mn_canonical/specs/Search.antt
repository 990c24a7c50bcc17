-- How the search section is written.
use Rattle.std.specs.Prelude.{ℕ, Bool, true, false, if◌then◌else◌, List, [], ◌∷◌, ◌++◌, map, codes, Option, Some, None}
use Rattle.std.specs.List.{list_any}
use Rattle.mn_model.specs.Problem.{Problem}
use Rattle.mn_model.specs.declared.search.Goal.{Goal}
use Rattle.mn_model.specs.declared.search.Order.{Order}
use Rattle.mn_model.specs.declared.search.Print.{Print}
use Rattle.mn_model.specs.declared.search.Print.TheVariants.{All, Nothing, Rows}
use Rattle.mn_model.specs.declared.variable.VarId.{VarId}
use Rattle.mn_canonical.specs.Lists.{bracketed}
use Rattle.mn_canonical.specs.Names.{variable_text, vector_text}

-- a line, if there is something to say
abbrev pub line_if : Bool → List ℕ → List ℕ
line_if says line = if says then line else []

-- the variables of VARORDER
abbrev pub variables_text : Problem → List VarId → List ℕ
variables_text p [] = []
variables_text p (v ∷ vars) = codes "VARORDER " ++ bracketed (map (variable_text p) (v ∷ vars)) ++ codes "\n"

-- whether the greatest value is tried first
abbrev pub direction_text : Bool → List ℕ
direction_text true = codes "d"
direction_text false = codes "a"

-- the directions of VALORDER, if they are not all ascending
abbrev pub directions_text : List Bool → List ℕ
directions_text down = line_if (list_any (λ d. d) down) (codes "VALORDER " ++ bracketed (map direction_text down) ++ codes "\n")

abbrev pub order_text : Problem → Order → List ℕ
order_text p o = variables_text p o.vars ++ directions_text o.down

-- the word of an objective
abbrev pub goal_word : Bool → List ℕ
goal_word true = codes "MAXIMISING "
goal_word false = codes "MINIMISING "

abbrev pub goal_text : Problem → Option Goal → List ℕ
goal_text p None = []
goal_text p (Some g) = goal_word g.maximise ++ variable_text p g.var ++ codes "\n"

-- what is printed of a solution
abbrev pub print_text : Problem → Print → List ℕ
print_text p All = codes "PRINT ALL\n"
print_text p Nothing = codes "PRINT NONE\n"
print_text p (Rows rows) = codes "PRINT " ++ bracketed (map (vector_text p) rows) ++ codes "\n"

-- the section
abbrev pub search_text : Problem → List ℕ
search_text p = order_text p p.order ++ goal_text p p.goal ++ print_text p p.print
