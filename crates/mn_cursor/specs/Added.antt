-- A problem with one more thing declared.
use Rattle.std.specs.Prelude.{ℕ, ℤ, List, [], ◌∷◌, ◌++◌}
use Rattle.mn_model.specs.Problem.{Problem, variable_count}
use Rattle.mn_model.specs.Variable.{variable}
use Rattle.mn_model.specs.declared.variable.Kind.{Kind}
use Rattle.mn_model.specs.declared.variable.VarId.{VarId}

-- with variables, of which the first has the number after those before
abbrev pub with_declaration : Problem → List ℕ → List ℕ → Kind → List ℤ → Problem
with_declaration p name dims kind domain =
    record p { decls = p.decls ++ record { name = name; dims = dims; kind = kind; domain = domain; first = variable (variable_count p.decls) } ∷ [] }

-- with a further name for variables
abbrev pub with_alias : Problem → List ℕ → List ℕ → List VarId → Problem
with_alias p name dims vars = record p { aliases = p.aliases ++ record { name = name; dims = dims; vars = vars } ∷ [] }

-- with a tuple list
abbrev pub with_tuples : Problem → List ℕ → ℕ → List ℤ → Problem
with_tuples p name arity cells = record p { tuples = p.tuples ++ record { name = name; arity = arity; cells = cells } ∷ [] }
