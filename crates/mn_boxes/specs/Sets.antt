-- What is declared of a variable, and the values that it has left.
use Rattle.std.specs.Prelude.{◌≡◌, ◌-◌, ℤ, ◌≤ℤ◌, ◌⊎◌, Bool, true, false, IsTrue, List, [], length, slice_get, Option}
use Rattle.mn_model.specs.Domain.{Ascends, Has, IsFirst, IsLast}
use Rattle.mn_model.specs.declared.declaration.Decl.{Decl}
use Rattle.mn_model.specs.declared.variable.Kind.{Kind}
use Rattle.mn_model.specs.declared.variable.Kind.TheVariants.{Binary, Bounded, Sparse, Discrete}

-- what a declaration says of a variable: its values, and whether they go at the ends alone
pub record Variable : Type 0 where
  pub declared : List ℤ
  pub bounded : Bool

-- a BOUND or SPARSEBOUND variable loses values at its ends alone
abbrev pub is_bounded : Kind → Bool
is_bounded Binary = false
is_bounded Bounded = true
is_bounded Sparse = true
is_bounded Discrete = false

abbrev pub variable_of : Decl → Variable
variable_of d = record { declared = d.domain; bounded = is_bounded d.kind }

-- all that is declared between two of the values is among them
abbrev pub IsUnbroken : List ℤ → List ℤ → Type 0
IsUnbroken declared xs = (a b c : ℤ) → Has xs a → Has xs c → a ≤ℤ b → b ≤ℤ c → Has declared b → Has xs b

-- the values that a variable may have left: some of the declared ones, in ascending order, unbroken if they go at the
-- ends alone
pub record IsSetOf (var : Variable) (xs : List ℤ) : Type 0 where
  pub filled : xs ≡ [] → ⊥
  pub ascends : Ascends xs
  pub declared : (a : ℤ) → Has xs a → Has var.declared a
  pub stretch : IsTrue var.bounded → IsUnbroken var.declared xs

-- the least and the greatest of values that ascend, if there is one
abbrev pub least : List ℤ → Option ℤ
least xs = slice_get xs 0

abbrev pub greatest : List ℤ → Option ℤ
greatest xs = slice_get xs (length xs - 1)

-- a is the least or the greatest of them
abbrev pub IsEnd : ℤ → List ℤ → Type 0
IsEnd a xs = IsFirst a xs ⊎ IsLast a xs

-- one value is left
abbrev pub IsSingle : List ℤ → Type 0
IsSingle xs = length xs ≡ 1

-- a alone may be taken out: from the set of a variable whose values go at the ends alone only as an end
abbrev pub MayGo : Variable → List ℤ → ℤ → Type 0
MayGo var xs a = IsTrue var.bounded → Has xs a → IsEnd a xs
