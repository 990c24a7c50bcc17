-- Two lists in lexicographic order, taken from their fronts.
use Rattle.std.proofs.Common.{◌≡◌, ◌↔◌, ℤ, ◌<ℤ◌, List, [], ◌∷◌, ◌⊎◌, inl, inr, ⊎_elim, length, Bool, IsTrue, refl, ap, sym, subst, arith}
use Rattle.std.proofs.lemmas.Int.{ints}
use Rattle.mn_meaning.specs.Families.{IsBelow}

-- the first list comes before the second, or, where that is asked, is equal to it
abbrev pub Leads : Bool → List ℤ → List ℤ → Type 0
Leads or_equal xs ys = IsBelow xs ys ⊎ (IsTrue or_equal × (xs ≡ ys))

heads : {a b : ℤ} {xs ys : List ℤ} → a ∷ xs ≡ b ∷ ys → a ≡ b
heads e = cc

tails : {a b : ℤ} {xs ys : List ℤ} → a ∷ xs ≡ b ∷ ys → xs ≡ ys
tails e = cc

nil≢cons : {a : ℤ} {xs : List ℤ} → a ∷ xs ≡ [] → ⊥
nil≢cons e = cc

module _ (or_equal : Bool) (a b : ℤ) (xs others : List ℤ) (next : xs ≡ a ∷ others) (ys ends : List ℤ) (follows : ys ≡ b ∷ ends) where
  -- in terms of what both begin with
  as_met : Leads or_equal (a ∷ others) (b ∷ ends) ≡ Leads or_equal xs ys
  as_met = λ i. Leads or_equal (sym next i) (sym follows i)

  met : Leads or_equal xs ys → Leads or_equal (a ∷ others) (b ∷ ends)
  met leads = subst (λ (T : Type 0). T) (sym as_met) leads

  meet : Leads or_equal (a ∷ others) (b ∷ ends) → Leads or_equal xs ys
  meet leads = subst (λ (T : Type 0). T) as_met leads

  -- where the first values are equal, those behind them decide
  pub past_equal : a ≡ b → Leads or_equal others ends ↔ Leads or_equal xs ys
  past_equal same = (λ leads. meet (⊎_elim (λ below. inl (inr (same, below))) (λ both. inr (both.0, λ i. same i ∷ both.1 i)) leads), λ leads. back (met leads))
    where
      back : Leads or_equal (a ∷ others) (b ∷ ends) → Leads or_equal others ends
      back leads = ⊎_elim (λ below. ⊎_elim (λ less. absurd (omega (arith, ints, same, less))) (λ both. inl both.1) below) (λ both. inr (both.0, tails both.1)) leads

  -- where they differ, they decide
  pub at_difference : (a ≡ b → ⊥) → a <ℤ b ↔ Leads or_equal xs ys
  at_difference differs = (λ less. meet (inl (inl less)), λ leads. back (met leads))
    where
      back : Leads or_equal (a ∷ others) (b ∷ ends) → a <ℤ b
      back leads = ⊎_elim (λ below. ⊎_elim (λ less. less) (λ both. absurd (differs both.0)) below) (λ both. absurd (differs (heads both.1))) leads

-- where one of them has ended, only equal ones lead, if that is asked
pub at_last : (or_equal : Bool) (xs ys : List ℤ) → (xs ≡ []) ⊎ (ys ≡ []) → (IsTrue or_equal × (length xs ≡ length ys)) ↔ Leads or_equal xs ys
at_last or_equal [] [] either = (λ both. inr (both.0, refl), λ leads. ⊎_elim (λ never. absurd never) (λ both. (both.0, refl)) leads)
at_last or_equal [] (b ∷ ys) either = (λ both. absurd (omega (arith, both.1)), λ leads. ⊎_elim (λ never. absurd never) (λ both. (both.0, ap length both.1)) leads)
at_last or_equal (a ∷ xs) [] either = (λ both. absurd (omega (arith, both.1)), λ leads. ⊎_elim (λ never. absurd never) (λ both. (both.0, ap length both.1)) leads)
at_last or_equal (a ∷ xs) (b ∷ ys) either = absurd (⊎_elim nil≢cons nil≢cons either)
