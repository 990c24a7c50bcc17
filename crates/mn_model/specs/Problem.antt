-- What contracts see of an instance: its lists, and what they say of names and variables.
use Rattle.std.specs.Prelude.{ℕ, ◌+◌, ◌*◌, nat_lt, if◌then◌else◌, ℤ, List, [], ◌∷◌, length, map, replicate, slice_get, Option, Some, None}
use Rattle.std.specs.List.{flat_map}
use Rattle.std.specs.Option.{option_map, option_and_then}
use Rattle.std.specs.Str.{bytes_eq}
use Rattle.mn_model.specs.Parts.{cell_count}
use Rattle.mn_model.specs.Variable.{number_of, variable}
use Rattle.mn_model.specs.declared.constraint.Con.{Con}
use Rattle.mn_model.specs.declared.declaration.Alias.{Alias}
use Rattle.mn_model.specs.declared.declaration.Decl.{Decl}
use Rattle.mn_model.specs.declared.declaration.Tuples.{Tuples}
use Rattle.mn_model.specs.declared.search.Goal.{Goal}
use Rattle.mn_model.specs.declared.search.Order.{Order}
use Rattle.mn_model.specs.declared.search.Print.{Print}
use Rattle.mn_model.specs.declared.search.Print.TheVariants.{All}
use Rattle.mn_model.specs.declared.variable.VarId.{VarId}

-- an instance: what it declares, what it asks, how it is searched and what is printed, in the order of the text
pub record Problem : Type 0 where
  pub decls : List Decl
  pub aliases : List Alias
  pub tuples : List Tuples
  pub cons : List Con
  pub order : Order
  pub goal : Option Goal
  pub print : Print

-- how many variables a declaration makes: the product of its dimensions, and one without any
abbrev pub size_of_dims : List ℕ → ℕ
size_of_dims [] = 1
size_of_dims (dim ∷ dims) = dim * size_of_dims dims

-- the declaration of each variable, by the variable's number
abbrev pub variables_of : List Decl → List Decl
variables_of decls = flat_map (λ d. replicate (size_of_dims d.dims) d) decls

-- how many variables there are
abbrev pub variable_count : List Decl → ℕ
variable_count decls = length (variables_of decls)

-- the declared values of each variable, by the variable's number
abbrev pub domains_of : List Decl → List (List ℤ)
domains_of decls = map (λ d. d.domain) (variables_of decls)

-- the place of an entry in a matrix, the last index running fastest, after the places that the indices before it pass over
abbrev pub offset_from : ℕ → List ℕ → List ℕ → Option ℕ
offset_from passed [] [] = Some passed
offset_from passed [] (sub ∷ subs) = None
offset_from passed (dim ∷ dims) [] = None
offset_from passed (dim ∷ dims) (sub ∷ subs) = if nat_lt sub dim then offset_from (passed * dim + sub) dims subs else None

-- the first item that has the name
abbrev pub called : {X : Type 0} → (X → List ℕ) → List X → List ℕ → Option X
called name_of [] name = None
called name_of (x ∷ xs) name = if bytes_eq name (name_of x) then Some x else called name_of xs name

-- the declaration, the alias and the tuple list of a name
abbrev pub declared_as : List Decl → List ℕ → Option Decl
declared_as decls name = called (λ d. d.name) decls name

abbrev pub aliased_as : List Alias → List ℕ → Option Alias
aliased_as aliases name = called (λ a. a.name) aliases name

abbrev pub listed_as : List Tuples → List ℕ → Option Tuples
listed_as tuples name = called (λ t. t.name) tuples name

-- the variable that a declaration has at the indices
abbrev pub variable_in : Option Decl → List ℕ → Option VarId
variable_in None subs = None
variable_in (Some d) subs = option_map (λ offset. variable (number_of d.first + offset)) (offset_from 0 d.dims subs)

-- the variable that an alias has at the indices
abbrev pub variable_through : Option Alias → List ℕ → Option VarId
variable_through None subs = None
variable_through (Some a) subs = option_and_then (λ offset. slice_get a.vars offset) (offset_from 0 a.dims subs)

-- the variable that a name means at the indices: that of its declaration, or else of its alias
abbrev pub variable_by : Option Decl → Option Alias → List ℕ → Option VarId
variable_by (Some d) a subs = variable_in (Some d) subs
variable_by None a subs = variable_through a subs

abbrev pub variable_named : Problem → List ℕ → List ℕ → Option VarId
variable_named p name subs = variable_by (declared_as p.decls name) (aliased_as p.aliases name) subs

-- the sum of what each item counts
abbrev pub total : {X : Type 0} → (X → ℕ) → List X → ℕ
total count [] = 0
total count (x ∷ xs) = count x + total count xs

-- how many cells all tuples have, those of tuple lists and those that stand in constraints
abbrev pub cells_of : Problem → ℕ
cells_of p = total (λ t. length t.cells) p.tuples + total cell_count p.cons

-- an instance that declares and asks nothing, and prints all
abbrev pub nothing : Problem
nothing = record { decls = []; aliases = []; tuples = []; cons = []; order = record { vars = []; down = [] }; goal = None; print = All }
