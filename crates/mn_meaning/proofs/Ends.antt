-- A walk that looks for a value among others, all of which stand in a relation to it: for the greatest, the least.
use Rattle.std.proofs.Common.{◌≡◌, ◌↔◌, ℤ, List, [], ◌∷◌, ◌⊎◌, ◌||◌, inl, inr, ⊎_elim, Bool, true, false, IsTrue, true≢false, refl, sym, subst}
use Rattle.std.specs.Bool.{Decides}
use Rattle.std.specs.List.{AllByRecursion, list_any}
use Rattle.std.specs.Ordering.{int_eq}
use Rattle.std.proofs.lemmas.Bool.Decides.{Decides-int_eq}
use Rattle.mn_model.specs.Domain.{Has}

-- found by now: found before, or here
pub found_now : {P : Type 0} (found here : Bool) → Decides here P → IsTrue (found || here) ↔ (IsTrue found ⊎ P)
found_now true here tells = (λ _. inl refl, λ _. refl)
found_now false here tells = (λ e. inr (tells.0 e), λ either. ⊎_elim (λ never. absurd (true≢false (sym never))) tells.1 either)

-- whether one of the values is k, by a test of each
found_among : (k : ℤ) (xs : List ℤ) → Decides (list_any (λ b. int_eq b k) xs) (Has xs k)
found_among k [] = (λ never. absurd (true≢false (sym never)), λ has. absurd has)
found_among k (b ∷ xs) =
    let whole = found_now (int_eq b k) (list_any (λ c. int_eq c k) xs) (found_among k xs) in
    (λ e. ⊎_elim (λ is. inl ((Decides-int_eq b k).0 is)) inr (whole.0 e), λ has. whole.1 (⊎_elim (λ same. inl ((Decides-int_eq b k).1 same)) inr has))

pub contained : (found : Bool) (xs ys : List ℤ) (k b : ℤ) → found ≡ list_any (λ c. int_eq c b) xs → xs ≡ ys → b ≡ k → IsTrue found ↔ Has ys k
contained found xs ys k b is same value =
    subst (λ (a : ℤ). IsTrue found ↔ Has ys a) value
    (subst (λ (zs : List ℤ). IsTrue found ↔ Has zs b) same
    (subst (λ (t : Bool). IsTrue t ↔ Has xs b) (sym is) (found_among b xs)))

module _ (R : ℤ → ℤ → Type 0) (k b : ℤ) (here rest all : List ℤ) (next : here ≡ b ∷ rest) where
  -- the next one stands in the relation: those behind it decide of all
  pub bounded_on : R k b → AllByRecursion (R k) here ↔ AllByRecursion (R k) all → AllByRecursion (R k) rest ↔ AllByRecursion (R k) all
  bounded_on holds so_far = (
    λ others. so_far.0 (subst (λ (bs : List ℤ). AllByRecursion (R k) bs) (sym next) (holds, others)),
    λ every. (subst (λ (bs : List ℤ). AllByRecursion (R k) bs) next (so_far.1 every)).1,
  )

  -- the next one doesn't: so not all do
  pub broken : (R k b → ⊥) → AllByRecursion (R k) here ↔ AllByRecursion (R k) all → AllByRecursion (R k) all → ⊥
  broken fails so_far every = fails (subst (λ (bs : List ℤ). AllByRecursion (R k) bs) next (so_far.1 every)).0

  -- whether it was found by now, or is behind, decides of all
  pub reached_on : (found now : Bool) → IsTrue now ↔ (IsTrue found ⊎ (b ≡ k)) → (IsTrue found ⊎ Has here k) ↔ Has all k → (IsTrue now ⊎ Has rest k) ↔ Has all k
  reached_on found now tells so_far = (λ either. so_far.0 (⊎_elim before behind either), λ has. ⊎_elim still ahead (so_far.1 has))
    where
      put : (b ≡ k) ⊎ Has rest k → IsTrue found ⊎ Has here k
      put has = inr (subst (λ (bs : List ℤ). Has bs k) (sym next) has)

      before : IsTrue now → IsTrue found ⊎ Has here k
      before is = ⊎_elim inl (λ e. put (inl e)) (tells.0 is)

      behind : Has rest k → IsTrue found ⊎ Has here k
      behind has = put (inr has)

      still : IsTrue found → IsTrue now ⊎ Has rest k
      still is = inl (tells.1 (inl is))

      ahead : Has here k → IsTrue now ⊎ Has rest k
      ahead has = ⊎_elim (λ e. inl (tells.1 (inr e))) inr (subst (λ (bs : List ℤ). Has bs k) next has)

-- none is left
pub ended : (R : ℤ → ℤ → Type 0) (k : ℤ) (here all : List ℤ) → here ≡ [] → (found : Bool) → (IsTrue found ⊎ Has here k) ↔ Has all k → AllByRecursion (R k) here ↔ AllByRecursion (R k) all → IsTrue found ↔ (Has all k × AllByRecursion (R k) all)
ended R k here all end found reached bounded = (λ is. (reached.0 (inl is), bounded.0 (subst (λ (bs : List ℤ). AllByRecursion (R k) bs) (sym end) tt)), λ both. ⊎_elim (λ is. is) never (reached.1 both.0))
  where
    never : Has here k → IsTrue found
    never has = absurd (subst (λ (bs : List ℤ). Has bs k) end has)
