-- How tuple lists and tables are written.
use Rattle.std.specs.Prelude.{ℕ, ℤ, List, [], ◌++◌, map, slice_get, codes, decimal, Option, Some, None}
use Rattle.std.specs.Fmt.{signed_decimal}
use Rattle.std.specs.List.{flat_map}
use Rattle.mn_model.specs.Problem.{Problem}
use Rattle.mn_model.specs.declared.constraint.Tab.{Tab}
use Rattle.mn_model.specs.declared.constraint.Tab.TheVariants.{Named, Here}
use Rattle.mn_model.specs.declared.declaration.Tuples.{Tuples}
use Rattle.mn_sections.specs.Matrices.{tuple_count, tuples_of}
use Rattle.mn_canonical.specs.Lists.{separated, with_commas, braced}

-- a tuple in a constraint, and one on a line of a tuple list
abbrev pub tuple_text : List ℤ → List ℕ
tuple_text row = codes "<" ++ with_commas (map signed_decimal row) ++ codes ">"

abbrev pub tuple_line : List ℤ → List ℕ
tuple_line row = separated (codes " ") (map signed_decimal row) ++ codes "\n"

-- a tuple list: its name, how many tuples it has and their length, and the tuples
abbrev pub tuple_list_text : Tuples → List ℕ
tuple_list_text t =
    t.name ++ codes " " ++ decimal (tuple_count t.arity t.cells) ++ codes " " ++ decimal t.arity ++ codes "\n"
    ++ flat_map tuple_line (tuples_of t.arity t.cells)

-- the name of the tuple list with a number, if there is one
abbrev pub list_name : Option Tuples → List ℕ
list_name None = []
list_name (Some t) = t.name

-- a table: the name of its tuple list, or its tuples
abbrev pub table_text : Problem → Tab → List ℕ
table_text p (Named n) = list_name (slice_get p.tuples n)
table_text p (Here arity cells) = braced (map tuple_text (tuples_of arity cells))
