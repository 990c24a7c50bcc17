-- A box is one set for each variable, by the variable's number.
use Rattle.std.specs.Prelude.{ℕ, ◌+◌, ℤ, false, List, [], ◌∷◌, length, map, slice_index_or}
use Rattle.std.specs.List.{AllZip}
use Rattle.mn_model.specs.Domain.{Has}
use Rattle.mn_model.specs.Problem.{variables_of}
pub use Rattle.mn_model.specs.Sets.{set_of}
use Rattle.mn_model.specs.declared.declaration.Decl.{Decl}
use Rattle.mn_boxes.specs.Sets.{Variable, IsSetOf, variable_of}

-- the variables that are declared. Their declared sets are the `domains_of` the declarations
abbrev pub declared_variables : List Decl → List Variable
declared_variables decls = map variable_of (variables_of decls)

-- what is declared of a variable. Nothing is, of a number that no variable has
abbrev pub variable_at : List Variable → ℕ → Variable
variable_at vars v = slice_index_or vars v (record { declared = []; bounded = false })

-- one set for each variable
abbrev pub IsBox : List Variable → List (List ℤ) → Type 0
IsBox vars box = AllZip IsSetOf vars box

-- each set of the inner box is part of that of the outer one
pub record Inside (inner outer : List (List ℤ)) : Type 0 where
  pub within : (v : ℕ) (a : ℤ) → Has (set_of inner v) a → Has (set_of outer v) a

-- how many values all sets have together
abbrev pub count_of : List (List ℤ) → ℕ
count_of [] = 0
count_of (xs ∷ box) = length xs + count_of box
