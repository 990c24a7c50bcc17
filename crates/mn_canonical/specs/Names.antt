-- How a variable is written: by the name that it is declared with, and its place in its matrix.
use Rattle.std.specs.Prelude.{ℕ, ◌-◌, nat_lt, if◌then◌else◌, List, [], ◌∷◌, ◌++◌, map, codes, decimal}
use Rattle.std.specs.Fmt.{signed_decimal}
use Rattle.mn_model.specs.Problem.{Problem, size_of_dims}
use Rattle.mn_model.specs.Variable.{number_of}
use Rattle.mn_model.specs.declared.constraint.Term.{Term}
use Rattle.mn_model.specs.declared.constraint.Term.TheVariants.{Var, Const, Not}
use Rattle.mn_model.specs.declared.declaration.Decl.{Decl}
use Rattle.mn_model.specs.declared.variable.VarId.{VarId}
use Rattle.mn_sections.specs.Matrices.{indices_of}
use Rattle.mn_canonical.specs.Lists.{bracketed}

-- what stands after a name: dimensions or indices, if there are any
abbrev pub subscript_text : List ℕ → List ℕ
subscript_text [] = []
subscript_text (i ∷ others) = bracketed (map decimal (i ∷ others))

-- the variable at a place of a declaration
abbrev pub place_text : Decl → ℕ → List ℕ
place_text d place = d.name ++ subscript_text (indices_of d.dims place)

-- the variable with a number, which passes over those of the declarations before its own
abbrev pub numbered_text : List Decl → ℕ → List ℕ
numbered_text [] n = []
numbered_text (d ∷ decls) n = if nat_lt n (size_of_dims d.dims) then place_text d n else numbered_text decls (n - size_of_dims d.dims)

abbrev pub variable_text : Problem → VarId → List ℕ
variable_text p v = numbered_text p.decls (number_of v)

-- a term
abbrev pub term_text : Problem → Term → List ℕ
term_text p (Var v) = variable_text p v
term_text p (Const k) = signed_decimal k
term_text p (Not v) = codes "!" ++ variable_text p v

-- a vector, or a row that is printed
abbrev pub vector_text : Problem → List Term → List ℕ
vector_text p v = bracketed (map (term_text p) v)
