-- Occurrences in a list that has another value at one place, and between two lists.
use Rattle.std.proofs.Common.{◌≡◌, ◌≢◌, ℕ, zero, suc, ◌+◌, ◌<◌, ◌≤◌, ℤ, ◌⊎◌, inl, inr, Bool, true, false, if◌then◌else◌, List, [], ◌∷◌, slice_get, slice_set, Some, refl, ap, ◌∙◌, arith}
use Rattle.std.specs.Ordering.{int_eq}
use Rattle.std.specs.List.{AllZip}
use Rattle.mn_domains.proofs.Filtered.{eq_so, eq_true}
use Rattle.mn_meaning.specs.Families.{occurrences}
use Rattle.mn_meaning.specs.Meaning.{at}

-- 1 if a is k
abbrev pub one_if : ℤ → ℤ → ℕ
one_if k a = if int_eq a k then 1 else 0

pub one_same : (k a : ℤ) → a ≡ k → one_if k a ≡ 1
one_same k a same = ap (λ (t : Bool). if t then 1 else 0) (eq_true a k same)

pub one_other : (k a : ℤ) → a ≢ k → one_if k a ≡ 0
one_other k a differs = by (int_eq a k) refl
  where
    by : (t : Bool) → int_eq a k ≡ t → one_if k a ≡ 0
    by true e = absurd (differs (eq_so a k e))
    by false e = ap (λ (t : Bool). if t then 1 else 0) e

pub one_at_most : (k a : ℤ) → one_if k a ≤ 1
one_at_most k a = by (int_eq a k)
  where
    by : (t : Bool) → (if t then 1 else 0) ≤ 1
    by true = omega arith
    by false = omega arith

-- the value that is put in counts, and the one that stood there doesn't any more
pub set_count : {T : Type 0} (H : T → ℤ → Type 0) (v : List T) (k : ℤ) (s : List ℤ) (i : ℕ) (t : T) (a : ℤ) → AllZip H v s → slice_get v i ≡ Some t → occurrences k (slice_set s i a) + one_if k (at s i) ≡ occurrences k s + one_if k a
set_count H [] k s i t a chosen stands = cc
set_count H (u ∷ v) k [] i t a chosen stands = absurd chosen
set_count H (u ∷ v) k (b ∷ s) zero t a chosen stands = omega arith
set_count H (u ∷ v) k (b ∷ s) (suc i) t a chosen stands = let later = set_count H v k s i t a chosen.1 stands in omega (arith, later)

-- between two choices there is one with each number of k, which has what both have at the same place
pub record IsBetween {T : Type 0} (H : T → ℤ → Type 0) (v : List T) (k : ℤ) (s u : List ℤ) (n : ℕ) : Type 0 where
  pub values : List ℤ
  pub chosen : AllZip H v values
  pub is : occurrences k values ≡ n
  pub common : (i : ℕ) (a : ℤ) → at s i ≡ a → at u i ≡ a → at values i ≡ a

module _ {T : Type 0} (H : T → ℤ → Type 0) (k : ℤ) where
  pub between : (v : List T) (s u : List ℤ) (n : ℕ) → AllZip H v s → AllZip H v u → occurrences k s ≤ n → n ≤ occurrences k u → IsBetween H v k s u n
  between [] [] [] n one another from to = record { values = []; chosen = tt; is = omega (arith, to); common = λ i a e f. e }
  between [] [] (b ∷ u) n one another from to = absurd another
  between [] (a ∷ s) u n one another from to = absurd one
  between (t ∷ v) [] u n one another from to = absurd one
  between (t ∷ v) (a ∷ s) [] n one another from to = absurd another
  between (t ∷ v) (a ∷ s) (b ∷ u) n one another from to = by (λ m from to. between v s u m one.1 another.1 from to) (within (one_if k b + occurrences k s) n)
    where
      within : (x y : ℕ) → (x ≤ y) ⊎ (y < x)
      within zero y = inl (omega arith)
      within (suc x) zero = inr (omega arith)
      within (suc x) (suc y) = next (within x y)
        where
          next : (x ≤ y) ⊎ (y < x) → (suc x ≤ suc y) ⊎ (suc y < suc x)
          next (inl le) = inl (omega (arith, le))
          next (inr less) = inr (omega (arith, less))

      common_here : (c : ℤ) (r : List ℤ) → (c ≡ b) ⊎ (c ≡ a) → ((i : ℕ) (d : ℤ) → at s i ≡ d → at u i ≡ d → at r i ≡ d) → (i : ℕ) (d : ℤ) → at (a ∷ s) i ≡ d → at (b ∷ u) i ≡ d → at (c ∷ r) i ≡ d
      common_here c r (inl is) same zero d e f = is ∙ f
      common_here c r (inr is) same zero d e f = is ∙ e
      common_here c r is same (suc i) d e f = same i d e f

      takes : (m : ℕ) → n ≡ one_if k b + m → IsBetween H v k s u m → IsBetween H (t ∷ v) k (a ∷ s) (b ∷ u) n
      takes m is rest = record {
        values = b ∷ rest.values;
        chosen = (another.0, rest.chosen);
        is = (let have = rest.is in omega (arith, have, is));
        common = common_here b rest.values (inl refl) rest.common;
      }

      rest_of : (x y : ℕ) → x ≤ y → (m : ℕ) × (y ≡ x + m)
      rest_of zero y le = (y, omega arith)
      rest_of (suc x) zero le = absurd (omega (arith, le))
      rest_of (suc x) (suc y) le = let r = rest_of x y (omega (arith, le)) in (r.0, (let is = r.1 in omega (arith, is)))

      by : ((m : ℕ) → occurrences k s ≤ m → m ≤ occurrences k u → IsBetween H v k s u m) → (one_if k b + occurrences k s ≤ n) ⊎ (n < one_if k b + occurrences k s) → IsBetween H (t ∷ v) k (a ∷ s) (b ∷ u) n
      by later (inl le) = let r = rest_of (one_if k b) n (omega (arith, le)) in let is = r.1 in takes r.0 is (later r.0 (omega (arith, is, le)) (omega (arith, is, to)))
      by later (inr less) = record {
        values = a ∷ s;
        chosen = one;
        is = (let most = one_at_most k b in omega (arith, less, from, most));
        common = λ i c e f. e;
      }
