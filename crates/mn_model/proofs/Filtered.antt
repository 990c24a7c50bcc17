-- What a test leaves of values.
use Rattle.std.proofs.Common.{◌≡◌, ℕ, zero, suc, ℤ, inl, inr, Bool, true, false, cond, List, [], ◌∷◌, length, filter, take, drop, refl, sym, subst, ap, ◌∙◌, arith, true≢false}
use Rattle.std.specs.List.{AllWithin}
use Rattle.mn_model.specs.Domain.{Ascends, Has}
use Rattle.mn_model.proofs.Ordered.{above_all, all_above}

-- a member of what passes is a member that passes
pub record Passes (p : ℤ → Bool) (xs : List ℤ) (a : ℤ) : Type 0 where
  pub has : Has xs a
  pub passes : p a ≡ true

pub has_filter : (p : ℤ → Bool) (xs : List ℤ) (a : ℤ) → Has (filter p xs) a → Passes p xs a
has_filter p [] a has = absurd has
has_filter p (x ∷ xs) a has = by (λ later. has_filter p xs a later) (p x) refl has
  where
    by : (Has (filter p xs) a → Passes p xs a) → (t : Bool) → p x ≡ t → Has (cond t (x ∷ filter p xs) (filter p xs)) a → Passes p (x ∷ xs) a
    by among true e (inl is) = record { has = inl is; passes = subst (λ b. p b ≡ true) is e }
    by among true e (inr later) = let rest = among later in record { has = inr rest.has; passes = rest.passes }
    by among false e later = let rest = among later in record { has = inr rest.has; passes = rest.passes }

pub filter_has : (p : ℤ → Bool) (xs : List ℤ) (a : ℤ) → Has xs a → p a ≡ true → Has (filter p xs) a
filter_has p [] a has pass = absurd has
filter_has p (x ∷ xs) a has pass = by (λ later. filter_has p xs a later pass) (p x) refl has
  where
    by : (Has xs a → Has (filter p xs) a) → (t : Bool) → p x ≡ t → Has (x ∷ xs) a → Has (cond t (x ∷ filter p xs) (filter p xs)) a
    by among true e (inl is) = inl is
    by among true e (inr later) = inr (among later)
    by among false e (inl is) = absurd (true≢false (sym pass ∙ (ap p (sym is) ∙ e)))
    by among false e (inr later) = among later

pub filter_ascends : (p : ℤ → Bool) (xs : List ℤ) → Ascends xs → Ascends (filter p xs)
filter_ascends p [] up = tt
filter_ascends p (x ∷ xs) up = by (filter_ascends p xs up.1) (p x)
  where
    by : Ascends (filter p xs) → (t : Bool) → Ascends (cond t (x ∷ filter p xs) (filter p xs))
    by rest true = (all_above x (filter p xs) (λ a has. above_all x xs a up.0 (has_filter p xs a has).has), rest)
    by rest false = rest

-- the tests part the values at place i
pub filter_take : (p : ℤ → Bool) (xs : List ℤ) (i : ℕ) → AllWithin (λ y. p y ≡ true) xs 0 i → AllWithin (λ y. p y ≡ false) xs i (length xs) → filter p xs ≡ take i xs
filter_take p [] zero front back = refl
filter_take p [] (suc i) front back = refl
filter_take p (x ∷ xs) zero front back =
    ap (λ t. cond t (x ∷ filter p xs) (filter p xs)) (back 0 x (omega arith) (omega arith)) ∙ filter_take p xs zero (λ k d low high. absurd (omega arith)) (λ k d low high. back (suc k) d (omega arith) (omega arith))
filter_take p (x ∷ xs) (suc i) front back =
    ap (λ t. cond t (x ∷ filter p xs) (filter p xs)) (front 0 x (omega arith) (omega arith)) ∙ ap (λ ys. x ∷ ys) (filter_take p xs i (λ k d low high. front (suc k) d (omega arith) (omega arith)) (λ k d low high. back (suc k) d (omega arith) (omega arith)))

pub filter_drop : (p : ℤ → Bool) (xs : List ℤ) (i : ℕ) → AllWithin (λ y. p y ≡ false) xs 0 i → AllWithin (λ y. p y ≡ true) xs i (length xs) → filter p xs ≡ drop i xs
filter_drop p [] zero front back = refl
filter_drop p [] (suc i) front back = refl
filter_drop p (x ∷ xs) zero front back =
    ap (λ t. cond t (x ∷ filter p xs) (filter p xs)) (back 0 x (omega arith) (omega arith)) ∙ ap (λ ys. x ∷ ys) (filter_drop p xs zero (λ k d low high. absurd (omega arith)) (λ k d low high. back (suc k) d (omega arith) (omega arith)))
filter_drop p (x ∷ xs) (suc i) front back =
    ap (λ t. cond t (x ∷ filter p xs) (filter p xs)) (front 0 x (omega arith) (omega arith)) ∙ filter_drop p xs i (λ k d low high. front (suc k) d (omega arith) (omega arith)) (λ k d low high. back (suc k) d (omega arith) (omega arith))
