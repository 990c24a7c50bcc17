-- Numbers of one digit and of two.
use Rattle.std.proofs.Common.{◌≡◌, ℕ, ◌+◌, ◌/◌, ◌%◌, ◌<◌, ◌≤◌, [], ◌∷◌, ◌++◌, decimal, sym, ap, ◌∙◌, arith}
use Rattle.std.proofs.lemmas.Fmt.{decimal_digit, decimal_step}

pub one_digit : (k : ℕ) → k < 10 → (48 + k % 10) ∷ [] ≡ decimal k
one_digit k few = let same : 48 + k % 10 ≡ 48 + k = omega arith in ap (λ d. d ∷ []) same ∙ sym (decimal_digit k few)

pub two_digits : (k : ℕ) → 10 ≤ k → k < 64 → (48 + k / 10) ∷ (48 + k % 10) ∷ [] ≡ decimal k
two_digits k many few = sym (decimal_step k many (omega arith) ∙ ap (λ ds. ds ++ (48 + k % 10) ∷ []) (decimal_digit (k / 10) (omega arith)))
