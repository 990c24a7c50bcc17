-- What a domain is: the values that a variable may have, as an ascending list.
use Rattle.std.specs.Prelude.{◌≡◌, ℕ, zero, suc, ◌-◌, ℤ, pos, ◌+ℤ◌, ◌<ℤ◌, ◌≤ℤ◌, neg_ℤ, ◌⊎◌, List, [], ◌∷◌, length, slice_get, Some}
use Rattle.std.specs.Int.{int_gap}
use Rattle.std.specs.List.{AllByRecursion}
use Rattle.mn_model.specs.declared.limits.TheConstants.{VALUE}

-- the n numbers from lo on
unfoldable pub numbers_from : ℤ → ℕ → List ℤ
numbers_from lo zero = []
numbers_from lo (suc n) = lo ∷ numbers_from (lo +ℤ pos 1) n

-- all numbers from lo to hi
unfoldable pub stretch : ℤ → ℤ → List ℤ
stretch lo hi = numbers_from lo (suc (int_gap lo hi))

-- the values that are written one by one, or else those of the stretch
abbrev pub values_of : ℤ → ℤ → List ℤ → List ℤ
values_of lo hi [] = stretch lo hi
values_of lo hi (value ∷ others) = value ∷ others

-- a is one of the values
abbrev pub Has : List ℤ → ℤ → Type 0
Has [] a = ⊥
Has (value ∷ others) a = (value ≡ a) ⊎ Has others a

-- a value or constant of a model
abbrev pub IsValue : ℤ → Type 0
IsValue a = (neg_ℤ VALUE ≤ℤ a) × (a ≤ℤ VALUE)

-- the values rise, so they are distinct
abbrev pub Ascends : List ℤ → Type 0
Ascends [] = Unit {0}
Ascends (value ∷ others) = AllByRecursion (λ other. value <ℤ other) others × Ascends others

-- what every domain keeps: it has a value, and its values rise and are values of a model
pub record IsDomain (values : List ℤ) : Type 0 where
  pub filled : values ≡ [] → ⊥
  pub ascends : Ascends values
  pub valued : AllByRecursion IsValue values

-- the least and the greatest of a domain's values
abbrev pub IsFirst : ℤ → List ℤ → Type 0
IsFirst a values = slice_get values 0 ≡ Some a

abbrev pub IsLast : ℤ → List ℤ → Type 0
IsLast a values = slice_get values (length values - 1) ≡ Some a

-- a domain with its two ends
pub record IsDomainFrom (lo hi : ℤ) (values : List ℤ) : Type 0 where
  pub ordered : lo ≤ℤ hi
  pub low : IsValue lo
  pub high : IsValue hi
  pub domain : IsDomain values
  pub first : IsFirst lo values
  pub last : IsLast hi values
