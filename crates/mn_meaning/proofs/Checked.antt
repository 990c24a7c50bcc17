-- A check of all constraints, one by one, each of which has a meaning.
use Rattle.std.proofs.Common.{◌≡◌, ◌↔◌, ℕ, zero, suc, ◌+◌, ◌<◌, ◌≤◌, ℤ, List, [], ◌∷◌, length, drop, get_or, sym, subst, arith}
use Rattle.std.proofs.lemmas.Int.{ints}
use Rattle.std.proofs.lemmas.List.{drop_all, drop_more}
use Rattle.std.specs.List.{AllByRecursion}
use Rattle.mn_model.specs.Domain.{IsValue}
use Rattle.mn_model.specs.declared.constraint.Con.{Con}
use Rattle.mn_model.specs.declared.declaration.Tuples.{Tuples}
use Rattle.mn_meaning.specs.Meaning.{Holds, HoldsAll, at}

-- all values of an assignment are values, and 0 is one
pub values_valued : (s : List ℤ) → AllByRecursion IsValue s → (n : ℕ) → IsValue (at s n)
values_valued [] all n = (omega (arith, ints), omega (arith, ints))
values_valued (a ∷ s) all zero = all.0
values_valued (a ∷ s) all (suc n) = values_valued s all.1 n

module _ (lists : List Tuples) (cons : List Con) (i : ℕ) (s : List ℤ) (so_far : HoldsAll lists (drop i cons) s ↔ HoldsAll lists cons s) where
  -- the next one holds: those behind it decide
  pub one_more : (d : Con) → i < length cons → Holds lists s (get_or cons i d) → HoldsAll lists (drop (i + 1) cons) s ↔ HoldsAll lists cons s
  one_more d within holds =
      let step : drop i cons ≡ get_or cons i d ∷ drop (i + 1) cons = drop_more cons i d within in
      (λ rest. so_far.0 (subst (λ (cs : List Con). HoldsAll lists cs s) (sym step) (holds, rest)), λ all. (subst (λ (cs : List Con). HoldsAll lists cs s) step (so_far.1 all)).1)

  -- the next one doesn't hold: so not all do
  pub broken : (d : Con) → i < length cons → (Holds lists s (get_or cons i d) → ⊥) → HoldsAll lists cons s → ⊥
  broken d within fails all =
      let step : drop i cons ≡ get_or cons i d ∷ drop (i + 1) cons = drop_more cons i d within in
      fails (subst (λ (cs : List Con). HoldsAll lists cs s) step (so_far.1 all)).0

  -- none is left: all hold
  pub all_hold : length cons ≤ i → HoldsAll lists cons s
  all_hold past = so_far.0 (subst (λ (cs : List Con). HoldsAll lists cs s) (sym (drop_all i cons past)) tt)
