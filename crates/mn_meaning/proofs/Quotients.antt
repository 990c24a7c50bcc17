-- How large a quotient is, and what it leaves.
use Rattle.std.proofs.Common.{◌≡◌, ℕ, zero, suc, ◌/◌, ◌≤◌, ℤ, pos, negsuc, neg_ℤ, nat_abs, ◌*ℤ◌, ◌≤ℤ◌, w64, Bool, true, false, if◌then◌else◌, refl, subst, arith}
use Rattle.std.proofs.Math.Nat.{div-le_self, mul-le-mul}
use Rattle.std.proofs.lemmas.Int.{ints, unsigned_abs-mul}
use Rattle.std.specs.Int.{int_div_euclid}
use Rattle.std.specs.Int.RustNames.{FitsSigned}
use Rattle.std.specs.Prelude.{int_lt}
use Rattle.mn_meaning.specs.Families.{quotient}

nat_abs-neg : (a : ℤ) → nat_abs (neg_ℤ a) ≡ nat_abs a
nat_abs-neg (pos n) = of_pos n
  where
    of_pos : (n : ℕ) → nat_abs (neg_ℤ (pos n)) ≡ n
    of_pos zero = refl
    of_pos (suc n) = refl
nat_abs-neg (negsuc n) = refl

-- no quotient is larger than what was divided
euclid_within : (a b : ℤ) → nat_abs (int_div_euclid a b) ≤ nat_abs a
euclid_within (pos a) (pos b) = div-le_self a b
euclid_within (pos a) (negsuc b) = rw (nat_abs-neg (pos (a / suc b))) (div-le_self a (suc b))
euclid_within (negsuc a) (pos b) = let less = div-le_self a b in omega arith
euclid_within (negsuc a) (negsuc b) = let less = div-le_self a (suc b) in omega arith

quotient_within : (a b : ℤ) → nat_abs (quotient a b) ≤ nat_abs a
quotient_within a b = by (int_lt b (pos 0))
  where
    by : (t : Bool) → nat_abs (if t then int_div_euclid (neg_ℤ a) (neg_ℤ b) else int_div_euclid a b) ≤ nat_abs a
    by true = subst (λ (n : ℕ). nat_abs (int_div_euclid (neg_ℤ a) (neg_ℤ b)) ≤ n) (nat_abs-neg a) (euclid_within (neg_ℤ a) (neg_ℤ b))
    by false = euclid_within a b

-- between the bounds of its absolute value
pub between : (z : ℤ) (n : ℕ) → nat_abs z ≤ n → (neg_ℤ (pos n) ≤ℤ z) × (z ≤ℤ pos n)
between (pos m) n most = (omega (arith, ints), omega (arith, ints))
between (negsuc m) n most = (omega (arith, ints), omega (arith, ints))

small : (z : ℤ) → FitsSigned w64 z → nat_abs z ≤ 9223372036854775808
small (pos n) fits = let less = fits.sfits in omega arith
small (negsuc n) fits = let less = fits.sfits in omega arith

-- the product of the quotient and the divisor
pub product_between : (a b : ℤ) → FitsSigned w64 a → FitsSigned w64 b → (neg_ℤ (pos 85070591730234615865843651857942052864) ≤ℤ (b *ℤ quotient a b)) × ((b *ℤ quotient a b) ≤ℤ pos 85070591730234615865843651857942052864)
product_between a b fits suits =
    let within = quotient_within a b in
    let few = small a fits in
    let most : nat_abs (quotient a b) ≤ 9223372036854775808 = omega arith in
    between (b *ℤ quotient a b) 85070591730234615865843651857942052864 (rw (unsigned_abs-mul b (quotient a b)) (mul-le-mul (small b suits) most))
