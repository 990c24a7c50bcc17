-- Rows of a table, taken from the front of its cells.
use Rattle.std.proofs.Common.{◌≡◌, ◌↔◌, ℕ, suc, ◌-◌, ◌/◌, ◌<◌, ◌≤◌, ℤ, List, [], ◌∷◌, inl, inr, ⊎_elim, length, take, drop, sym, ap, subst, ◌∙◌, add-one, Bool, IsTrue, length-drop}
use Rattle.std.proofs.Math.Nat.{div-eq-sub-div, div-eq_of_lt}
use Rattle.mn_model.specs.Members.{HasMember}
use Rattle.mn_meaning.specs.Families.{cut, rows_of}

-- enough cells for a row: it is in front of the rows of those behind it
pub rows_of-next : (arity : ℕ) (cells : List ℤ) → 1 ≤ arity → arity ≤ length cells → rows_of arity cells ≡ take arity cells ∷ rows_of arity (drop arity cells)
rows_of-next arity cells least enough = ap (λ (count : ℕ). cut count arity cells) (many ∙ ap (λ (n : ℕ). suc (n / arity)) (sym (length-drop arity cells)))
  where
    many : length cells / arity ≡ suc ((length cells - arity) / arity)
    many = div-eq-sub-div least enough ∙ add-one ((length cells - arity) / arity)

-- too few cells: there is no row
pub rows_of-end : (arity : ℕ) (cells : List ℤ) → length cells < arity → rows_of arity cells ≡ []
rows_of-end arity cells few = ap (λ (count : ℕ). cut count arity cells) (div-eq_of_lt few)

-- the next row isn't it: those behind decide of all
pub row_on : (rows others all : List (List ℤ)) (row values : List ℤ) → rows ≡ row ∷ others → (row ≡ values → ⊥) → HasMember rows values ↔ HasMember all values → HasMember others values ↔ HasMember all values
row_on rows others all row values next differs so_far = (
  λ has. so_far.0 (subst (λ (list : List (List ℤ)). HasMember list values) (sym next) (inr has)),
  λ has. ⊎_elim (λ e. absurd (differs e)) (λ behind. behind) (subst (λ (list : List (List ℤ)). HasMember list values) next (so_far.1 has)),
)

-- the next row is it
pub row_is : (rows others all : List (List ℤ)) (row values : List ℤ) → rows ≡ row ∷ others → row ≡ values → HasMember rows values ↔ HasMember all values → HasMember all values
row_is rows others all row values next same so_far = so_far.0 (subst (λ (list : List (List ℤ)). HasMember list values) (sym next) (inl same))

-- none is left
pub no_row : (rows all : List (List ℤ)) (values : List ℤ) → rows ≡ [] → HasMember rows values ↔ HasMember all values → HasMember all values → ⊥
no_row rows all values end so_far has = subst (λ (list : List (List ℤ)). HasMember list values) end (so_far.1 has)

-- whether a row is the values, in terms of what both are
pub row_tells : (r : Bool) (row front values given : List ℤ) → row ≡ front → given ≡ values → IsTrue r ↔ (row ≡ given) → IsTrue r ↔ (front ≡ values)
row_tells r row front values given is has tells = (λ e. sym is ∙ (tells.0 e ∙ has), λ e. tells.1 (is ∙ (e ∙ sym has)))
