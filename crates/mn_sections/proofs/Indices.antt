-- The indices of a place in a matrix lead back to that place.
use Rattle.std.proofs.Common.{◌≡◌, ℕ, ◌+◌, ◌*◌, ◌/◌, ◌%◌, ◌<◌, ◌≤◌, pos, true, false, List, [], ◌∷◌, map, None, refl, sym, ap, ◌∙◌, subst, arith}
use Rattle.std.specs.List.{AllByRecursion}
use Rattle.std.proofs.lemmas.Bool.Decides.{nat_tests}
use Rattle.std.proofs.lemmas.Int.{ints}
use Rattle.std.proofs.lemmas.Nat.{div-add-mod'}
use Rattle.std.proofs.Math.Nat.{mod-lt, div-lt_iff_lt-mul}
use Rattle.mn_grammar.specs.Lists.{breaks_items, value_items}
use Rattle.mn_model.specs.Problem.{size_of_dims}
use Rattle.mn_model.proofs.Sizes.{size_of_dims-positive}
use Rattle.mn_references.specs.References.{Lead, only, Aim, Within, is_outside, sub_judge, found_at}
use Rattle.mn_sections.specs.Matrices.{indices_of}
use Rattle.mn_sections.specs.Trees.{items_from}

inside : (dim : ℕ) (dims : List ℕ) (i : ℕ) → i < dim → is_outside (dim ∷ dims) (pos i) ≡ false
inside dim dims i less = grind (arith, nat_tests, ints)

-- the index in front, and the place within the rest
first_index : (dim size place : ℕ) → place < dim * size → 1 ≤ size → place / size < dim
first_index dim size place less some = (div-lt_iff_lt-mul {k = size} {x = place} {y = dim} (omega arith)).1 less

rest_index : (size place : ℕ) → 1 ≤ size → place % size < size
rest_index size place some = mod-lt place (omega arith)

-- passing over rows and going into one of them
same_place : (q dim size place : ℕ) → (q * dim + place / size) * size + place % size ≡ q * (dim * size) + place
same_place q dim size place = let parts = div-add-mod' place size in omega (arith, parts)

module _ (aim : Aim) (l : Lead) where
  abbrev state : ℕ → List ℕ → ℕ → Within
  state dim dims q = record { dims = dim ∷ dims; places = q ∷ []; full = true }

  pub indices_break : (dim : ℕ) (dims : List ℕ) (q place : ℕ) → AllByRecursion (λ d. 1 ≤ d) dims → place < dim * size_of_dims dims
      → aim.ends true (l.at (q * (dim * size_of_dims dims) + place) ∷ []) ≡ None
      → breaks_items (sub_judge aim l) (items_from (only (pos (place / size_of_dims dims))) (map (λ i. only (pos i)) (indices_of dims (place % size_of_dims dims)))) (state dim dims q) ≡ []
  indices_break dim [] q place some less ends =
      let here : q * dim + place / 1 ≡ q * (dim * 1) + place = let e = same_place q dim 1 place in let r = rest_index 1 place (omega arith) in omega (arith, e, r) in
      rw (inside dim [] (place / 1) (first_index dim 1 place less (omega arith)), here, ends) refl
  indices_break dim (other ∷ dims) q place some less ends =
      let size : 1 ≤ size_of_dims (other ∷ dims) = size_of_dims-positive (other ∷ dims) some in
      let here = same_place q dim (size_of_dims (other ∷ dims)) place in
      rw (inside dim (other ∷ dims) (place / size_of_dims (other ∷ dims)) (first_index dim (size_of_dims (other ∷ dims)) place less size))
      (rw (indices_break other dims (q * dim + place / size_of_dims (other ∷ dims)) (place % size_of_dims (other ∷ dims)) some.1 (rest_index (size_of_dims (other ∷ dims)) place size)
      (subst (λ n. aim.ends true (l.at n ∷ []) ≡ None) (sym here) ends)) refl)

  pub indices_lead : (dim : ℕ) (dims : List ℕ) (q place : ℕ)
      → value_items (sub_judge aim l) (found_at l) (items_from (only (pos (place / size_of_dims dims))) (map (λ i. only (pos i)) (indices_of dims (place % size_of_dims dims)))) (state dim dims q)
      ≡ record { vars = l.at (q * (dim * size_of_dims dims) + place) ∷ []; dims = []; behind = None }
  indices_lead dim [] q place =
      let here : q * dim + place / 1 ≡ q * (dim * 1) + place = let e = same_place q dim 1 place in let r = rest_index 1 place (omega arith) in omega (arith, e, r) in
      ap (λ n. record { vars = l.at n ∷ []; dims = []; behind = None }) here
  indices_lead dim (other ∷ dims) q place =
      indices_lead other dims (q * dim + place / size_of_dims (other ∷ dims)) (place % size_of_dims (other ∷ dims))
      ∙ ap (λ n. record { vars = l.at n ∷ []; dims = []; behind = None }) (same_place q dim (size_of_dims (other ∷ dims)) place)
