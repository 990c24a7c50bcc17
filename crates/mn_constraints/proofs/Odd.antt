-- Odd counts, by what is left of them behind pairs.
use Rattle.std.proofs.Common.{◌≡◌, ℕ, zero, suc, ◌+◌, ◌%◌, Bool, true, false, not, nat_eq, refl, sym, ap, ◌∙◌, arith}
use Rattle.std.proofs.Math.Nat.{add-mod_left}
use Rattle.mn_language.specs.Arguments.{is_odd}

twice : (b : Bool) → not (not b) ≡ b
twice true = refl
twice false = refl

pair_more : (n : ℕ) → suc (suc n) % 2 ≡ n % 2
pair_more n = let e : suc (suc n) ≡ 2 + n = omega arith in ap (λ k. k % 2) e ∙ add-mod_left 2 n

pub odd_is : (n : ℕ) → nat_eq (n % 2) 1 ≡ is_odd n
odd_is zero = refl
odd_is (suc zero) = refl
odd_is (suc (suc n)) = ap (λ k. nat_eq k 1) (pair_more n) ∙ odd_is n ∙ sym (twice (is_odd n))
