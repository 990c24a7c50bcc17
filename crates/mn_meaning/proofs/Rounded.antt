-- A quotient is rounded down, and what it leaves lies between 0 and the divisor.
use Rattle.std.proofs.Common.{◌≡◌, inl, inr, ℕ, zero, suc, ◌/◌, ◌%◌, ◌*◌, ◌+◌, ◌<◌, ◌≤◌, ℤ, pos, negsuc, neg_ℤ, ◌+ℤ◌, ◌*ℤ◌, ◌<ℤ◌, ◌≤ℤ◌, Bool, true, false, if◌then◌else◌, refl, ap, sym, subst, arith}
use Rattle.std.proofs.Math.Nat.{div-add-mod, mod-lt}
use Rattle.std.proofs.Math.IntN.{neg_ℤ-neg_ℤ}
use Rattle.std.proofs.lemmas.Int.{ints}
use Rattle.std.specs.Int.{int_div_euclid}
use Rattle.std.specs.Prelude.{int_lt}
use Rattle.mn_meaning.specs.Families.{quotient}
use Rattle.mn_meaning.specs.Laws.{QuotientRoundsDown, QuotientRoundsDownBelow, RemainderIsSmall}

-- of numbers that aren't negative
nat_floor : (n m : ℕ) → ((suc m * (n / suc m)) ≤ n) × (n < (suc m * (n / suc m) + suc m))
nat_floor n m =
    let whole = div-add-mod n (suc m) in
    let less : n % suc m < suc m = mod-lt n (omega arith) in
    (omega (arith, whole), omega (arith, whole, less))

-- of any number, and a divisor above 0
floor : (a : ℤ) (m : ℕ) → ((pos (suc m) *ℤ int_div_euclid a (pos (suc m))) ≤ℤ a) × (a <ℤ (pos (suc m) *ℤ int_div_euclid a (pos (suc m)) +ℤ pos (suc m)))
floor (pos n) m = let f = nat_floor n m in (omega (arith, ints, f.0), omega (arith, ints, f.1))
floor (negsuc n) m =
    let f = nat_floor n m in
    let next : suc m * suc (n / suc m) ≡ suc m * (n / suc m) + suc m = omega arith in
    (omega (arith, ints, f.1, next), omega (arith, ints, f.0, next))

-- so it is with a quotient by such a divisor
not_below : (m : ℕ) → int_lt (pos (suc m)) (pos 0) ≡ false
not_below m = by (int_lt (pos (suc m)) (pos 0)) refl
  where
    by : (t : Bool) → int_lt (pos (suc m)) (pos 0) ≡ t → t ≡ false
    by true e = absurd (omega (arith, ints, e))
    by false e = refl

quotient_above : (a : ℤ) (m : ℕ) → int_div_euclid a (pos (suc m)) ≡ quotient a (pos (suc m))
quotient_above a m = sym (ap (λ (t : Bool). if t then int_div_euclid (neg_ℤ a) (neg_ℤ (pos (suc m))) else int_div_euclid a (pos (suc m))) (not_below m))

pub rounds_down : QuotientRoundsDown
rounds_down a (pos zero) above = absurd (omega (arith, ints, above))
rounds_down a (pos (suc m)) above = subst (λ (q : ℤ). ((pos (suc m) *ℤ q) ≤ℤ a) × (a <ℤ (pos (suc m) *ℤ q +ℤ pos (suc m)))) (quotient_above a m) (floor a m)
rounds_down a (negsuc m) above = absurd (omega (arith, ints, above))

-- a divisor below 0 divides as the one above 0 divides the number with its sign turned
turned : (m : ℕ) (q : ℤ) → negsuc m *ℤ q ≡ neg_ℤ (pos (suc m) *ℤ q)
turned m (pos n) = refl
turned m (negsuc n) = sym (neg_ℤ-neg_ℤ (pos (suc m * suc n)))

pub rounds_down_below : QuotientRoundsDownBelow
rounds_down_below a (pos m) below = absurd (omega (arith, ints, below))
rounds_down_below a (negsuc m) below =
    let q = int_div_euclid (neg_ℤ a) (pos (suc m)) in
    let f = floor (neg_ℤ a) m in
    let same = turned m q in
    (omega (arith, ints, same, f.1), omega (arith, ints, same, f.0))

pub remainder_small : RemainderIsSmall
remainder_small a (pos zero) other = absurd (other refl)
remainder_small a (pos (suc m)) other = let f = rounds_down a (pos (suc m)) (omega (arith, ints)) in inl (omega (arith, ints, f.0), omega (arith, ints, f.1))
remainder_small a (negsuc m) other = let f = rounds_down_below a (negsuc m) (omega (arith, ints)) in inr (omega (arith, ints, f.0), omega (arith, ints, f.1))
