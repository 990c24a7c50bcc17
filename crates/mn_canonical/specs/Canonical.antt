-- The canonical text of an instance.
use Rattle.std.specs.Prelude.{ℕ, List, ◌++◌, codes}
use Rattle.std.specs.List.{flat_map}
use Rattle.mn_model.specs.Problem.{Problem}
use Rattle.mn_model.specs.declared.constraint.Con.{Con}
use Rattle.mn_canonical.specs.Constraints.{constraint_text}
use Rattle.mn_canonical.specs.Declarations.{declaration_text, alias_text}
use Rattle.mn_canonical.specs.Search.{search_text}
use Rattle.mn_canonical.specs.Tables.{tuple_list_text}

-- the sections, each after its head
abbrev pub variables_section : Problem → List ℕ
variables_section p = codes "**VARIABLES**\n" ++ flat_map declaration_text p.decls ++ flat_map (alias_text p) p.aliases

abbrev pub tuples_section : Problem → List ℕ
tuples_section p = codes "**TUPLELIST**\n" ++ flat_map tuple_list_text p.tuples

abbrev pub search_section : Problem → List ℕ
search_section p = codes "**SEARCH**\n" ++ search_text p

-- a constraint on its line
abbrev pub constraint_line : Problem → Con → List ℕ
constraint_line p c = constraint_text p c ++ codes "\n"

abbrev pub constraints_section : Problem → List ℕ
constraints_section p = codes "**CONSTRAINTS**\n" ++ flat_map (constraint_line p) p.cons

-- the text
unfoldable pub canonical_text : Problem → List ℕ
canonical_text p = codes "MINION 3\n" ++ variables_section p ++ tuples_section p ++ search_section p ++ constraints_section p ++ codes "**EOF**\n"
