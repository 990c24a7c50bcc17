-- Two numbers are the same or not, as a fact and as a test.
use Rattle.std.proofs.Common.{◌≡◌, ◌≢◌, ℕ, Bool, true, false, cond, nat_eq, nat_lt, ◌<◌, ◌≤◌, refl, ap, arith}
use Rattle.std.proofs.lemmas.Bool.Decides.{nat_tests}

by_test : {X : Type 0} (a b : ℕ) (r : Bool) → nat_eq a b ≡ r → (a ≡ b → nat_eq a b ≡ true → X) → (a ≢ b → nat_eq a b ≡ false → X) → X
by_test a b true e same other = same (grind (arith, nat_tests)) e
by_test a b false e same other = other (λ s. grind (arith, nat_tests)) e

pub by_same : {X : Type 0} (a b : ℕ) → (a ≡ b → nat_eq a b ≡ true → X) → (a ≢ b → nat_eq a b ≡ false → X) → X
by_same a b = by_test a b (nat_eq a b) refl

pub cond_same : {X : Type 0} (a b : ℕ) (x y : X) → a ≡ b → cond (nat_eq a b) x y ≡ x
cond_same a b x y e = by_same a b (λ _ test. ap (λ (r : Bool). cond r x y) test) (λ other _. absurd (other e))

pub cond_other : {X : Type 0} (a b : ℕ) (x y : X) → a ≢ b → cond (nat_eq a b) x y ≡ y
cond_other a b x y far = by_same a b (λ same _. absurd (far same)) (λ _ test. ap (λ (r : Bool). cond r x y) test)

by_less_test : {X : Type 0} (a b : ℕ) (r : Bool) → nat_lt a b ≡ r → (a < b → X) → (b ≤ a → X) → X
by_less_test a b true e less more = less (grind (arith, nat_tests))
by_less_test a b false e less more = more (grind (arith, nat_tests))

pub by_less : {X : Type 0} (a b : ℕ) → (a < b → X) → (b ≤ a → X) → X
by_less a b = by_less_test a b (nat_lt a b) refl
