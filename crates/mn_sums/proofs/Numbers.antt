-- Products, and how often a number goes into another one.
use Rattle.std.proofs.Common.{◌≡◌, ℕ, zero, suc, ℤ, pos, negsuc, neg_ℤ, ◌+ℤ◌, ◌-ℤ◌, ◌*ℤ◌, ◌*◌, ◌+◌, ◌/◌, ◌%◌, ◌<◌, ◌≤◌, ◌<ℤ◌, ◌≤ℤ◌, ◌↔◌, ◌⊎◌, inl, inr, FitsSigned, to_z, of_z, w64, refl, sym, ap, ◌∙◌, arith}
use Rattle.std.proofs.Math.Nat.{div-add-mod, mod-lt}
use Rattle.std.specs.Int.{int_div_euclid}
use Rattle.std.proofs.Math.IntN.{neg_ℤ-neg_ℤ, suc_ℤ-*ℤ, zero-*ℤ}
use Rattle.std.proofs.lemmas.Int.{ints, to_z-of_z}
use Rattle.mn_prop.proofs.Trying.{at_most_or}

none_times : (a : ℤ) → pos 0 *ℤ a ≡ pos 0
none_times a = zero-*ℤ a

once_more : (n : ℕ) (a : ℤ) → pos (suc n) *ℤ a ≡ (pos n *ℤ a) +ℤ a
once_more n a = suc_ℤ-*ℤ (pos n) a

pub times_le : (n : ℕ) (a b : ℤ) → a ≤ℤ b → (pos n *ℤ a) ≤ℤ (pos n *ℤ b)
times_le zero a b le = omega (arith, ints, none_times a, none_times b)
times_le (suc n) a b le = let less = times_le n a b le in omega (arith, ints, once_more n a, once_more n b, less, le)

pub times_less : (n : ℕ) (a b : ℤ) → (pos n *ℤ (a -ℤ b)) ≡ (pos n *ℤ a) -ℤ (pos n *ℤ b)
times_less zero a b = omega (arith, ints, none_times a, none_times b, none_times (a -ℤ b))
times_less (suc n) a b = let less = times_less n a b in omega (arith, ints, once_more n a, once_more n b, once_more n (a -ℤ b), less)

-- a weight below 0 is one above 0 with its sign turned
pub turned : (m : ℕ) (q : ℤ) → negsuc m *ℤ q ≡ neg_ℤ (pos (suc m) *ℤ q)
turned m (pos n) = refl
turned m (negsuc n) = sym (neg_ℤ-neg_ℤ (pos (suc m * suc n)))

-- what is added where the value is so many more than a least one is at most the slack exactly where so many are at most its
-- quotient
pub most_above : (n : ℕ) (lo a slack q : ℤ) → ((d : ℤ) → d ≤ℤ q ↔ (pos n *ℤ d) ≤ℤ slack) → (a ≤ℤ (lo +ℤ q)) ↔ (pos n *ℤ a) ≤ℤ ((pos n *ℤ lo) +ℤ slack)
most_above n lo a slack q fits =
    let apart = times_less n a lo in
    (λ le. (let within = (fits (a -ℤ lo)).0 (omega (arith, ints, le)) in omega (arith, ints, apart, within)), λ le. (let few = (fits (a -ℤ lo)).1 (omega (arith, ints, apart, le)) in omega (arith, ints, few)))

pub least_below : (m : ℕ) (hi a slack q : ℤ) → ((d : ℤ) → d ≤ℤ q ↔ (pos (suc m) *ℤ d) ≤ℤ slack) → ((hi -ℤ q) ≤ℤ a) ↔ (negsuc m *ℤ a) ≤ℤ ((negsuc m *ℤ hi) +ℤ slack)
least_below m hi a slack q fits =
    let apart = times_less (suc m) hi a in
    let one = turned m a in
    let other = turned m hi in
    (λ le. (let within = (fits (hi -ℤ a)).0 (omega (arith, ints, le)) in omega (arith, ints, apart, within, one, other)), λ le. (let few = (fits (hi -ℤ a)).1 (omega (arith, ints, apart, le, one, other)) in omega (arith, ints, few)))

-- once, and once with the sign turned
pub once : (a : ℤ) → pos 1 *ℤ a ≡ a
once a = omega (arith, ints, once_more 0 a, none_times a)

pub once_less : (a : ℤ) → negsuc 0 *ℤ a ≡ neg_ℤ a
once_less a = omega (arith, ints, turned 0 a, once a)

pub never : (a : ℤ) → pos 0 *ℤ a ≡ pos 0
never a = none_times a

pub turned_weight : (k a : ℤ) → neg_ℤ k *ℤ a ≡ neg_ℤ (k *ℤ a)
turned_weight (pos zero) a = omega (arith, ints, none_times a)
turned_weight (pos (suc n)) a = turned n a
turned_weight (negsuc n) a = omega (arith, ints, turned n a)

once_weight : (n : ℕ) → pos n *ℤ pos 1 ≡ pos n
once_weight zero = refl
once_weight (suc n) = omega (arith, ints, once_more n (pos 1), once_weight n)

-- a small product is what an i64 has of it
pub exact_product : (a b : ℤ) → FitsSigned w64 a → FitsSigned w64 b → (neg_ℤ (pos 1000000002000000001) ≤ℤ (a *ℤ b)) × ((a *ℤ b) ≤ℤ pos 1000000002000000001) → to_z w64 (of_z w64 (to_z w64 (of_z w64 a) *ℤ to_z w64 (of_z w64 b))) ≡ a *ℤ b
exact_product a b fits suits bounds =
    let whole : FitsSigned w64 (a *ℤ b) = omega (arith, ints, bounds.0, bounds.1) in
    ap (λ z. to_z w64 (of_z w64 z)) (λ i. to_z-of_z w64 a fits i *ℤ to_z-of_z w64 b suits i) ∙ to_z-of_z w64 (a *ℤ b) whole

-- how often a number above 0 goes into another one
fits_in : (a q d : ℤ) (m : ℕ) → (pos (suc m) *ℤ q) ≤ℤ a → a <ℤ ((pos (suc m) *ℤ q) +ℤ pos (suc m)) → d ≤ℤ q ↔ (pos (suc m) *ℤ d) ≤ℤ a
fits_in a q d m low high = (λ le. (let less = times_le (suc m) d q le in omega (arith, ints, less, low)), λ within. by (at_most_or d q) within)
  where
    by : (d ≤ℤ q) ⊎ (q <ℤ d) → (pos (suc m) *ℤ d) ≤ℤ a → d ≤ℤ q
    by (inl le) within = le
    by (inr more) within =
        let next = times_le (suc m) (q +ℤ pos 1) d (omega (arith, ints, more)) in
        let apart = times_less (suc m) (q +ℤ pos 1) (pos 1) in
        let back : (q +ℤ pos 1) -ℤ pos 1 ≡ q = omega (arith, ints) in
        let same : pos (suc m) *ℤ ((q +ℤ pos 1) -ℤ pos 1) ≡ pos (suc m) *ℤ q = ap (λ z. pos (suc m) *ℤ z) back in
        let one = once_weight (suc m) in
        absurd (omega (arith, ints, next, apart, same, one, within, high))

pub quotient_is : (a b q d : ℤ) → pos 0 <ℤ b → (b *ℤ q) ≤ℤ a → a <ℤ ((b *ℤ q) +ℤ b) → d ≤ℤ q ↔ (b *ℤ d) ≤ℤ a
quotient_is a (pos zero) q d above low high = absurd (omega (arith, ints, above))
quotient_is a (pos (suc m)) q d above low high = fits_in a q d m low high
quotient_is a (negsuc m) q d above low high = absurd (omega (arith, ints, above))

nat_floor : (n m : ℕ) → ((suc m * (n / suc m)) ≤ n) × (n < (suc m * (n / suc m) + suc m))
nat_floor n m =
    let whole = div-add-mod n (suc m) in
    let less : n % suc m < suc m = mod-lt n (omega arith) in
    (omega (arith, whole), omega (arith, whole, less))

pub euclid_floor : (a b : ℤ) → pos 0 <ℤ b → ((b *ℤ int_div_euclid a b) ≤ℤ a) × (a <ℤ ((b *ℤ int_div_euclid a b) +ℤ b))
euclid_floor a (pos zero) above = absurd (omega (arith, ints, above))
euclid_floor (pos n) (pos (suc m)) above = let f = nat_floor n m in (omega (arith, ints, f.0), omega (arith, ints, f.1))
euclid_floor (negsuc n) (pos (suc m)) above =
    let f = nat_floor n m in
    let next : suc m * suc (n / suc m) ≡ suc m * (n / suc m) + suc m = omega arith in
    (omega (arith, ints, f.1, next), omega (arith, ints, f.0, next))
euclid_floor a (negsuc m) above = absurd (omega (arith, ints, above))

-- the same of a weight of either sign
pub above_within : (w lo a slack q : ℤ) → pos 0 <ℤ w → ((d : ℤ) → d ≤ℤ q ↔ (w *ℤ d) ≤ℤ slack) → (a ≤ℤ (lo +ℤ q)) ↔ (w *ℤ a) ≤ℤ ((w *ℤ lo) +ℤ slack)
above_within (pos n) lo a slack q above fits = most_above n lo a slack q fits
above_within (negsuc m) lo a slack q above fits = absurd (omega (arith, ints, above))

pub below_within : (w hi a slack q : ℤ) → w <ℤ pos 0 → ((d : ℤ) → d ≤ℤ q ↔ (neg_ℤ w *ℤ d) ≤ℤ slack) → ((hi -ℤ q) ≤ℤ a) ↔ (w *ℤ a) ≤ℤ ((w *ℤ hi) +ℤ slack)
below_within (pos n) hi a slack q below fits = absurd (omega (arith, ints, below))
below_within (negsuc m) hi a slack q below fits = least_below m hi a slack q fits
