-- Sizes that are multiplied as far as numbers go.
use Rattle.std.proofs.Common.{◌≡◌, ◌↔◌, ℕ, zero, suc, ◌-◌, ◌*◌, ◌^◌, ◌<◌, ◌≤◌, ◌⊎◌, inl, inr, min, sym, ap, ◌∙◌, arith}
use Rattle.std.proofs.Math.Nat.{le-mul_of_pos_right, mul-le-mul_right, mul-one, mul-zero, mul_assoc, min-eq_left, min-eq_right}
use Rattle.std.proofs.lemmas.Nat.{mul-le}

at_most_or_more : (a b : ℕ) → (a ≤ b) ⊎ (b ≤ a)
at_most_or_more a b = grind arith

capped_more : (a m b : ℕ) → m ≤ a → min (m * b) m ≡ min (a * b) m
capped_more a m zero more = ap (λ n. min n m) (mul-zero m ∙ sym (mul-zero a))
capped_more a m (suc b) more =
    let own : m ≤ m * suc b = le-mul_of_pos_right m (omega arith) in
    let other = mul-le-mul_right (suc b) more in
    min-eq_right own ∙ sym (min-eq_right (omega (arith, own, other)))

capped : (a b m : ℕ) → min (min a m * b) m ≡ min (a * b) m
capped a b m = by (at_most_or_more a m)
  where
    by : (a ≤ m) ⊎ (m ≤ a) → min (min a m * b) m ≡ min (a * b) m
    by (inl less) = ap (λ n. min (n * b) m) (min-eq_left less)
    by (inr more) = ap (λ n. min (n * b) m) (min-eq_right more) ∙ capped_more a m b more

-- one more factor
pub multiplied_on : (many size others all cap : ℕ) → min (many * (size * others)) cap ≡ all → min (min (many * size) cap * others) cap ≡ all
multiplied_on many size others all cap so_far = capped (many * size) others cap ∙ (ap (λ n. min n cap) (mul_assoc many size others) ∙ so_far)

-- none is left
pub multiplied : (many all cap : ℕ) → many ≤ cap → min (many * 1) cap ≡ all → many ≡ all
multiplied many all cap few so_far = sym (min-eq_left few) ∙ (ap (λ n. min n cap) (sym (mul-one many)) ∙ so_far)

-- the product of two machine numbers
pub times_small : (a b : ℕ) → a < 2 ^ 64 → b < 2 ^ 64 → a * b < 2 ^ 128 - 1
times_small a b first second = let most = mul-le a b 18446744073709551615 18446744073709551615 (omega (arith, first)) (omega (arith, second)) in omega (arith, most)

-- what is less than numbers go is less than the capped number exactly where it is less than the whole
pub less_capped : (x many all cap : ℕ) → x < cap → many ≡ min all cap → (x < many) ↔ (x < all)
less_capped x many all cap small is = (λ less. omega (arith, less, is), λ less. omega (arith, less, is, small))
