-- An instance as the entries of a text: its declarations, aliases and tuple lists, and what it says of the search.
use Rattle.std.specs.Prelude.{◌≡◌, ℕ, ◌-◌, ℤ, pos, nat_lt, Bool, true, false, List, [], ◌∷◌, ◌++◌, length, map, slice_get, unwrap_or, Option, Some, None, if◌then◌else◌, codes}
use Rattle.std.proofs.Common.{refl}
use Rattle.std.specs.List.{list_any}
use Rattle.mn_model.specs.Problem.{Problem, size_of_dims}
use Rattle.mn_model.specs.Variable.{number_of}
use Rattle.mn_model.specs.declared.constraint.Term.{Term}
use Rattle.mn_model.specs.declared.constraint.Term.TheVariants.{Var, Const, Not}
use Rattle.mn_model.specs.declared.declaration.Alias.{Alias}
use Rattle.mn_model.specs.declared.declaration.Decl.{Decl}
use Rattle.mn_model.specs.declared.declaration.Tuples.{Tuples}
use Rattle.mn_model.specs.declared.search.Goal.{Goal}
use Rattle.mn_model.specs.declared.search.Print.{Print}
use Rattle.mn_model.specs.declared.search.Print.TheVariants.{All, Nothing, Rows}
use Rattle.mn_model.specs.declared.variable.Kind as variable
use Rattle.mn_model.specs.declared.variable.Kind.TheVariants.{Binary, Bounded, Sparse, Discrete}
use Rattle.mn_model.specs.declared.variable.VarId.{VarId}
use Rattle.mn_grammar.specs.Lists.{Items, final, also}
use Rattle.mn_grammar.specs.Tokens.{Name, is_name}
use Rattle.mn_references.specs.Entries.{Entry, of_ref, of_number, of_not, Vector, listed, Row, bracketed}
use Rattle.mn_references.specs.References.{Ref, Sub, only}
use Rattle.mn_decls.specs.Aliases.{Nest, Nests, one_var, nest_of, last_nest, nest_and}
use Rattle.mn_asking.specs.Search.{Item, var_order, val_order, objective, print, Printing, print_all, print_none, print_rows}
use Rattle.mn_decls.specs.TupleLists.{TupleList}
use Rattle.mn_decls.specs.Variables as declaring
use Rattle.mn_sections.specs.Matrices.{indices_of, rows_of, tuple_count}

-- a name of these bytes; bytes that make no name have some other, which no instance asks for
abbrev pub name_by : (bytes : List ℕ) (lawful : Bool) → is_name bytes ≡ lawful → Name
name_by bytes true e = record { bytes = bytes; lawful = e }
name_by bytes false e = record { bytes = codes "a"; lawful = refl }

unfoldable pub name_from : List ℕ → Name
name_from bytes = name_by bytes (is_name bytes) refl

-- one or more entries, and any number of them
abbrev pub items_from : {A : Type 0} → A → List A → Items A
items_from a [] = final a
items_from a (b ∷ others) = also a (items_from b others)

abbrev pub maybe_items : {A : Type 0} → List A → Option (Items A)
maybe_items [] = None
maybe_items (a ∷ others) = Some (items_from a others)

-- a variable by its declaration: the name, and its indices if it is in a matrix
abbrev pub subs_of : List ℕ → Option (Items Sub)
subs_of is = maybe_items (map (λ i. only (pos i)) is)

abbrev pub place_ref : Decl → ℕ → Ref
place_ref d place = record { name = name_from d.name; subs = subs_of (indices_of d.dims place) }

-- the variable with a number, which passes over those of the declarations before its own
abbrev pub numbered_ref : List Decl → ℕ → Ref
numbered_ref [] n = record { name = name_from []; subs = None }
numbered_ref (d ∷ decls) n = if nat_lt n (size_of_dims d.dims) then place_ref d n else numbered_ref decls (n - size_of_dims d.dims)

abbrev pub ref_of : Problem → VarId → Ref
ref_of p v = numbered_ref p.decls (number_of v)

-- a term, a vector and a printed row, each place by itself
abbrev pub entry_of : Problem → Term → Entry
entry_of p (Var v) = of_ref (ref_of p v)
entry_of p (Const k) = of_number k
entry_of p (Not v) = of_not (ref_of p v)

abbrev pub entries_of : Problem → List Term → Option (Items Entry)
entries_of p terms = maybe_items (map (entry_of p) terms)

abbrev pub vector_of : Problem → List Term → Vector
vector_of p terms = listed (entries_of p terms)

abbrev pub row_of : Problem → List Term → Row
row_of p terms = bracketed (entries_of p terms)

-- the variables that are declared together, with their domain
abbrev pub dims_of : List ℕ → Option (Items ℤ)
dims_of dims = maybe_items (map pos dims)

abbrev pub value_at : List ℤ → ℕ → ℤ
value_at values place = unwrap_or (slice_get values place) (pos 0)

abbrev pub ends_of : List ℤ → ℤ × ℤ
ends_of values = (value_at values 0, value_at values (length values - 1))

abbrev pub domain_of : (k : variable.Kind) → List ℤ → declaring.Written k
domain_of Binary values = tt
domain_of Bounded values = ends_of values
domain_of Sparse values = maybe_items (map declaring.one_value values)
domain_of Discrete values = ends_of values

abbrev pub declaration_of : Decl → declaring.Declaration
declaration_of d = record { kind = d.kind; name = name_from d.name; dims = dims_of d.dims; domain = domain_of d.kind d.domain }

-- the variables of an alias: one, or a matrix of them, row by row
abbrev pub one_of : Problem → List VarId → Ref
one_of p [] = record { name = name_from []; subs = None }
one_of p (v ∷ vars) = ref_of p v

abbrev pub nests_from : List Nest → Nests
nests_from [] = last_nest (one_var (record { name = name_from []; subs = None }))
nests_from (n ∷ []) = last_nest n
nests_from (n ∷ m ∷ others) = nest_and n (nests_from (m ∷ others))

abbrev pub nest_from : Problem → List ℕ → List VarId → Nest
nest_from p [] vars = one_var (one_of p vars)
nest_from p (dim ∷ dims) vars = nest_of (nests_from (map (nest_from p dims) (rows_of (size_of_dims dims) dim vars)))

abbrev pub target_of : Problem → List ℕ → List VarId → declaring.Target
target_of p [] vars = declaring.of_var (one_of p vars)
target_of p (dim ∷ dims) vars = declaring.of_matrix (items_from (pos dim) (map pos dims)) (nest_from p (dim ∷ dims) vars)

abbrev pub naming_of : Problem → Alias → declaring.Naming
naming_of p a = record { name = name_from a.name; target = target_of p a.dims a.vars }

-- the section of variables: declarations, and aliases after them
abbrev pub variables_of : Problem → List declaring.Entry
variables_of p = map (λ d. declaring.declares (declaration_of d)) p.decls ++ map (λ a. declaring.names (naming_of p a)) p.aliases

-- a tuple list
abbrev pub tuple_list_of : Tuples → TupleList
tuple_list_of t = record { name = name_from t.name; count = pos (tuple_count t.arity t.cells); size = pos t.arity; numbers = t.cells }

-- how to search: VARORDER if it names variables, VALORDER if some value is tried from the greatest on, an objective if
-- there is one, and what is printed
abbrev pub order_items : Problem → List VarId → List Item
order_items p [] = []
order_items p (v ∷ vars) = var_order false (maybe_items (map (ref_of p) (v ∷ vars))) ∷ []

abbrev pub values_items : List Bool → List Item
values_items down = if list_any (λ d. d) down then val_order (maybe_items down) ∷ [] else []

abbrev pub goal_items : Problem → Option Goal → List Item
goal_items p None = []
goal_items p (Some g) = objective g.maximise (ref_of p g.var) ∷ []

abbrev pub printing_of : Problem → Print → Printing
printing_of p All = print_all
printing_of p Nothing = print_none
printing_of p (Rows rows) = print_rows (maybe_items (map (row_of p) rows))

abbrev pub search_of : Problem → List Item
search_of p = order_items p p.order.vars ++ values_items p.order.down ++ goal_items p p.goal ++ print (printing_of p p.print) ∷ []
