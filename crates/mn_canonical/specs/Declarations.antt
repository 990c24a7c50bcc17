-- How declarations and aliases are written.
use Rattle.std.specs.Prelude.{ℕ, ◌-◌, ℤ, List, [], ◌∷◌, ◌++◌, length, map, slice_get, codes, Option, Some, None}
use Rattle.std.specs.Fmt.{signed_decimal}
use Rattle.mn_model.specs.Problem.{Problem, size_of_dims}
use Rattle.mn_model.specs.declared.declaration.Alias.{Alias}
use Rattle.mn_model.specs.declared.declaration.Decl.{Decl}
use Rattle.mn_model.specs.declared.variable.Kind.{Kind}
use Rattle.mn_model.specs.declared.variable.Kind.TheVariants.{Binary, Bounded, Sparse, Discrete}
use Rattle.mn_model.specs.declared.variable.VarId.{VarId}
use Rattle.mn_sections.specs.Matrices.{rows_of}
use Rattle.mn_canonical.specs.Lists.{with_commas, bracketed, braced}
use Rattle.mn_canonical.specs.Names.{subscript_text, variable_text}

-- the word of a kind
abbrev pub kind_text : Kind → List ℕ
kind_text Binary = codes "BOOL"
kind_text Bounded = codes "BOUND"
kind_text Sparse = codes "SPARSEBOUND"
kind_text Discrete = codes "DISCRETE"

-- an end of a domain
abbrev pub end_text : Option ℤ → List ℕ
end_text None = []
end_text (Some a) = signed_decimal a

-- the ends of a domain, and all its values
abbrev pub ends_text : List ℤ → List ℕ
ends_text values = codes " {" ++ end_text (slice_get values 0) ++ codes ".." ++ end_text (slice_get values (length values - 1)) ++ codes "}"

abbrev pub values_text : List ℤ → List ℕ
values_text values = codes " " ++ braced (map signed_decimal values)

-- what stands after a name that is declared with a kind
abbrev pub domain_text : Kind → List ℤ → List ℕ
domain_text Binary values = []
domain_text Bounded values = ends_text values
domain_text Sparse values = values_text values
domain_text Discrete values = ends_text values

-- a declaration
abbrev pub declaration_text : Decl → List ℕ
declaration_text d = kind_text d.kind ++ codes " " ++ d.name ++ subscript_text d.dims ++ domain_text d.kind d.domain ++ codes "\n"

-- variables as a matrix of these dimensions, a row of rows
abbrev pub nested_text : Problem → List ℕ → List VarId → List ℕ
nested_text p [] vars = with_commas (map (variable_text p) vars)
nested_text p (dim ∷ dims) vars = bracketed (map (nested_text p dims) (rows_of (size_of_dims dims) dim vars))

-- an alias
abbrev pub alias_text : Problem → Alias → List ℕ
alias_text p a = codes "ALIAS " ++ a.name ++ subscript_text a.dims ++ codes " = " ++ nested_text p a.dims a.vars ++ codes "\n"
