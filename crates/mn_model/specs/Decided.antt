-- A fact of which it can be told whether it holds, and what such facts keep of a list.
use Rattle.std.specs.Prelude.{◌≡◌, ℤ, ◌⊎◌, Bool, true, false, List, [], ◌∷◌, refl}
use Rattle.std.specs.Bool.{Decides}
use Rattle.std.specs.Cmp.{signed_Decides, unsigned_Decides}
use Rattle.std.specs.List.{AllByRecursion}
use Rattle.std.specs.Ordering.{int_eq}
use Rattle.std.proofs.Common.{ℕ, nat_eq, ◌<ℤ◌, ◌≤ℤ◌, int_le, int_lt, arith, ⊎_elim, inl, inr, sym, true≢false}
use Rattle.std.proofs.lemmas.Int.{ints}

-- P holds, or it doesn't
abbrev pub Decided : Type 0 → Type 0
Decided P = P ⊎ (P → ⊥)

-- by a test that tells it
pub decide_by : {P : Type 0} (test : Bool) → Decides test P → Decided P
decide_by true tells = inl (tells.0 refl)
decide_by false tells = inr (λ p. true≢false (sym (tells.1 p)))

pub decide_int : (a b : ℤ) → Decided (a ≡ b)
decide_int a b = decide_by (int_eq a b) (signed_Decides a b)

pub decide_nat : (a b : ℕ) → Decided (a ≡ b)
decide_nat a b = decide_by (nat_eq a b) (unsigned_Decides a b)

pub decide_not : {P : Type 0} → Decided P → Decided (P → ⊥)
decide_not (inl p) = inr (λ not. not p)
decide_not (inr not) = inl not

pub decide_both : {P Q : Type 0} → Decided P → Decided Q → Decided (P × Q)
decide_both (inl p) (inl q) = inl (p, q)
decide_both (inl p) (inr not) = inr (λ both. not both.1)
decide_both (inr not) q = inr (λ both. not both.0)

pub decide_all : {X : Type 0} {P : X → Type 0} → ((x : X) → Decided (P x)) → (xs : List X) → Decided (AllByRecursion P xs)
decide_all decide [] = inl tt
decide_all decide (x ∷ xs) = decide_both (decide x) (decide_all decide xs)

pub decide_at_most : (a b : ℤ) → Decided (a ≤ℤ b)
decide_at_most a b = by (int_le a b) refl
  where
    by : (t : Bool) → int_le a b ≡ t → Decided (a ≤ℤ b)
    by true e = inl (omega (arith, ints, e))
    by false e = inr (λ le. omega (arith, ints, e, le))

pub decide_below : (a b : ℤ) → Decided (a <ℤ b)
decide_below a b = by (int_lt a b) refl
  where
    by : (t : Bool) → int_lt a b ≡ t → Decided (a <ℤ b)
    by true e = inl (omega (arith, ints, e))
    by false e = inr (λ lt. omega (arith, ints, e, lt))

pub decide_either : {P Q : Type 0} → Decided P → Decided Q → Decided (P ⊎ Q)
decide_either (inl p) q = inl (inl p)
decide_either (inr not) (inl q) = inl (inr q)
decide_either (inr not) (inr nor) = inr (λ either. ⊎_elim not nor either)

pub decide_never : Decided ⊥
decide_never = inr (λ never. never)

-- x in front of the others, if P holds
abbrev pub keep_if : {X P : Type 0} → Decided P → X → List X → List X
keep_if (inl p) x others = x ∷ others
keep_if (inr not) x others = others

-- the members with P, in their order
abbrev pub kept : {X : Type 0} {P : X → Type 0} → ((x : X) → Decided (P x)) → List X → List X
kept decide [] = []
kept decide (x ∷ xs) = keep_if (decide x) x (kept decide xs)
