-- One bit of a row of words.
use Rattle.std.proofs.Common.{◌≡◌, ◌≢◌, ℕ, zero, suc, ◌+◌, ◌-◌, ◌*◌, ◌/◌, ◌%◌, ◌^◌, ◌<◌, ◌≤◌, ◌==◌, nat_eq, Bool, true, false, true≢false, List, length, slice_index_or, bit_and, bit_or, refl, sym, ap, ◌∙◌, ◌⊎◌, inl, inr, arith}
use Rattle.std.specs.Int.{bit_at, bit_not, trailing_zeros}
use Rattle.std.proofs.lemmas.Bool.Decides.{nat_tests}
use Rattle.std.proofs.lemmas.List.{get_or-set_same, get_or-set_other}
use Rattle.std.proofs.lemmas.Nat.{div-add-mod', pow-add, shr_le, trailing_le}
use Rattle.std.proofs.lemmas.Nat.Bits.{bit_at-trailing_zeros, bit_at-zero, bit_at_above, bit_at_cat_low, bit_at_clear_same, bit_at_clear_other, bit_at_set_same, bit_at_set_other}
use Rattle.std.proofs.Math.Nat.{div-div-eq-div-mul, div-eq_of_lt-le, mod-eq_of_lt, mod-lt, one-le-pow, pow-le-pow_right}
use Rattle.std.proofs.Math.Pow.{pow-lt}
use Rattle.std.proofs.lemmas.Bool.{cases_lt}
use Rattle.mn_boxes.specs.Bits.{bit_of, cleared, marked_at}
use mir.Syntax.{w64}
use mir.Val.{bits}

-- the word of one bit
pub one_bit : (k : ℕ) → k < 64 → 1 * 2 ^ k % 2 ^ bits w64 ≡ 2 ^ k
one_bit k below = let small : 2 ^ k < 2 ^ bits w64 = pow-lt below in mod-eq_of_lt (omega (arith, small)) ∙ omega arith

same_or_not : (a b : ℕ) → (a ≡ b) ⊎ (a ≡ b → ⊥)
same_or_not a b = by (nat_eq a b) refl
  where
    by : (t : Bool) → nat_eq a b ≡ t → (a ≡ b) ⊎ (a ≡ b → ⊥)
    by true e = inl (grind (arith, nat_tests))
    by false e = inr (λ is. grind (arith, nat_tests))

within_words : (words : List ℕ) (i : ℕ) → i < 64 * length words → i / 64 < length words
within_words words i room = omega arith

pub bit_of-cleared : (words : List ℕ) (i : ℕ) → i < 64 * length words → bit_of (cleared words i) i ≡ false
bit_of-cleared words i room =
    let word = bit_and (slice_index_or words (i / 64) 0) (bit_not w64 (2 ^ (i % 64))) in
    let here : slice_index_or (cleared words i) (i / 64) 0 ≡ word = get_or-set_same words (i / 64) word 0 (within_words words i room) in
    let zero_bit : bit_at word (i % 64) ≡ 0 = rw (one_bit (i % 64) (omega arith)) at (bit_at_clear_same w64 (slice_index_or words (i / 64) 0) (i % 64) (omega arith)) in
    ap (λ n. bit_at n (i % 64) == 1) here ∙ ap (λ b. b == 1) zero_bit

pub bit_of-cleared_other : (words : List ℕ) (i k : ℕ) → i < 64 * length words → (k ≡ i → ⊥) → bit_of (cleared words i) k ≡ bit_of words k
bit_of-cleared_other words i k room differs = by (same_or_not (k / 64) (i / 64))
  where
    by : (k / 64 ≡ i / 64) ⊎ (k / 64 ≡ i / 64 → ⊥) → bit_of (cleared words i) k ≡ bit_of words k
    by (inr apart) =
        let word = bit_and (slice_index_or words (i / 64) 0) (bit_not w64 (2 ^ (i % 64))) in
        let there : slice_index_or (cleared words i) (k / 64) 0 ≡ slice_index_or words (k / 64) 0 = get_or-set_other words (i / 64) (k / 64) word 0 apart in
        ap (λ n. bit_at n (k % 64) == 1) there
    by (inl same) =
        let word = bit_and (slice_index_or words (i / 64) 0) (bit_not w64 (2 ^ (i % 64))) in
        let here : slice_index_or (cleared words i) (i / 64) 0 ≡ word = get_or-set_same words (i / 64) word 0 (within_words words i room) in
        let other : bit_at word (k % 64) ≡ bit_at (slice_index_or words (i / 64) 0) (k % 64) = rw (one_bit (i % 64) (omega arith)) at (bit_at_clear_other w64 (slice_index_or words (i / 64) 0) (i % 64) (omega arith) (k % 64) (omega arith) (λ e. differs (omega arith))) in
        ap (λ q. bit_at (slice_index_or (cleared words i) q 0) (k % 64) == 1) same ∙ (ap (λ n. bit_at n (k % 64) == 1) here ∙ (ap (λ b. b == 1) other ∙ ap (λ q. bit_at (slice_index_or words q 0) (k % 64) == 1) (sym same)))

pub bit_of-marked : (words : List ℕ) (i : ℕ) → i < 64 * length words → bit_of (marked_at words i) i ≡ true
bit_of-marked words i room =
    let word = bit_or (slice_index_or words (i / 64) 0) (2 ^ (i % 64)) in
    let here : slice_index_or (marked_at words i) (i / 64) 0 ≡ word = get_or-set_same words (i / 64) word 0 (within_words words i room) in
    let one : bit_at word (i % 64) ≡ 1 = rw (one_bit (i % 64) (omega arith)) at (bit_at_set_same w64 (slice_index_or words (i / 64) 0) (i % 64) (omega arith)) in
    ap (λ n. bit_at n (i % 64) == 1) here ∙ ap (λ b. b == 1) one

pub bit_of-marked_other : (words : List ℕ) (i k : ℕ) → i < 64 * length words → (k ≡ i → ⊥) → bit_of (marked_at words i) k ≡ bit_of words k
bit_of-marked_other words i k room differs = by (same_or_not (k / 64) (i / 64))
  where
    by : (k / 64 ≡ i / 64) ⊎ (k / 64 ≡ i / 64 → ⊥) → bit_of (marked_at words i) k ≡ bit_of words k
    by (inr apart) = ap (λ n. bit_at n (k % 64) == 1) (get_or-set_other words (i / 64) (k / 64) (bit_or (slice_index_or words (i / 64) 0) (2 ^ (i % 64))) 0 apart)
    by (inl same) =
        let here : slice_index_or (marked_at words i) (i / 64) 0 ≡ bit_or (slice_index_or words (i / 64) 0) (2 ^ (i % 64)) = get_or-set_same words (i / 64) (bit_or (slice_index_or words (i / 64) 0) (2 ^ (i % 64))) 0 (within_words words i room) in
        let other : bit_at (bit_or (slice_index_or words (i / 64) 0) (2 ^ (i % 64))) (k % 64) ≡ bit_at (slice_index_or words (i / 64) 0) (k % 64) = rw (one_bit (i % 64) (omega arith)) at (bit_at_set_other w64 (slice_index_or words (i / 64) 0) (i % 64) (omega arith) (k % 64) (λ e. differs (omega arith))) in
        ap (λ q. bit_at (slice_index_or (marked_at words i) q 0) (k % 64) == 1) same ∙ (ap (λ n. bit_at n (k % 64) == 1) here ∙ (ap (λ b. b == 1) other ∙ ap (λ q. bit_at (slice_index_or words q 0) (k % 64) == 1) (sym same)))

-- ---- the first set bit

-- a bit of a word that was shifted
pub bit_at-shifted : (n k t : ℕ) → bit_at (n / 2 ^ k) t ≡ bit_at n (k + t)
bit_at-shifted n k t = ap (λ m. m % 2) (div-div-eq-div-mul n (2 ^ k) (2 ^ t) ∙ ap (λ m. n / m) (sym (pow-add 2 k t)))

-- a bit by its word and its place there
bit_in : (words : List ℕ) (q t : ℕ) → t < 64 → bit_of words (q * 64 + t) ≡ (bit_at (slice_index_or words q 0) t == 1)
bit_in words q t below =
    let word : (q * 64 + t) / 64 ≡ q = omega arith in
    let place : (q * 64 + t) % 64 ≡ t = omega arith in
    ap (λ w. bit_at (slice_index_or words w 0) ((q * 64 + t) % 64) == 1) word ∙ ap (λ b. bit_at (slice_index_or words q 0) b == 1) place

pub bit_by : (words : List ℕ) (n q t : ℕ) → n ≡ q * 64 + t → t < 64 → bit_of words n ≡ (bit_at (slice_index_or words q 0) t == 1)
bit_by words n q t is below = ap (bit_of words) is ∙ bit_in words q t below

-- no bit is set from i on before this one, and this one is
pub record FirstSet (words : List ℕ) (i found : ℕ) : Type 0 where
  pub from : i ≤ found
  pub set : bit_of words found ≡ true
  pub none : (k : ℕ) → i ≤ k → k < found → bit_of words k ≡ false

pub within_first : (words : List ℕ) (i end found : ℕ) → i ≤ end → bit_of words end ≡ true → FirstSet words i found → found ≤ end
within_first words i end found order set first = by (cases_lt end found)
  where
    by : (end < found) ⊎ (found ≤ end) → found ≤ end
    by (inl less) = absurd (true≢false (sym set ∙ first.none end order less))
    by (inr le) = le

-- in the rest of the first word
pub first_here : (words : List ℕ) (i : ℕ) → slice_index_or words (i / 64) 0 < 2 ^ 64 → 0 < slice_index_or words (i / 64) 0 / 2 ^ (i % 64) → FirstSet words i (i + trailing_zeros w64 (slice_index_or words (i / 64) 0 / 2 ^ (i % 64)))
first_here words i fits some =
    let w = slice_index_or words (i / 64) 0 in
    let k = i % 64 in
    let rest = w / 2 ^ k in
    let t = trailing_zeros w64 rest in
    let small : rest < 2 ^ 64 = omega (arith, shr_le w k) in
    let z = bit_at-trailing_zeros w64 rest some small in
    let in_word = room (k + t) (sym (bit_at-shifted w k t) ∙ z.1) in
    record {
      from = omega arith;
      set = bit_by words (i + t) (i / 64) (k + t) (omega arith) in_word ∙ ap (λ b. b == 1) (sym (bit_at-shifted w k t) ∙ z.1);
      none = λ n low high. bit_by words n (i / 64) (k + (n - i)) (omega arith) (omega arith) ∙ ap (λ b. b == 1) (sym (bit_at-shifted w k (n - i)) ∙ z.2 (n - i) (omega arith));
    }
  where
    room : (b : ℕ) → bit_at (slice_index_or words (i / 64) 0) b ≡ 1 → b < 64
    room b one = by (cases_lt b 64)
      where
        by : (b < 64) ⊎ (64 ≤ b) → b < 64
        by (inl less) = less
        by (inr past) = absurd (omega (arith, sym one ∙ bit_at_above (slice_index_or words (i / 64) 0) 64 b fits past))

-- or in a later word
no_rest : (words : List ℕ) (i n : ℕ) → slice_index_or words (i / 64) 0 / 2 ^ (i % 64) ≡ 0 → i ≤ n → n / 64 ≡ i / 64 → bit_of words n ≡ false
no_rest words i n none order same =
    let w = slice_index_or words (i / 64) 0 in
    let k = i % 64 in
    bit_by words n (i / 64) (k + (n - i)) (omega arith) (omega arith) ∙ ap (λ b. b == 1) (sym (bit_at-shifted w k (n - i)) ∙ (ap (λ m. bit_at m (n - i)) none ∙ bit_at-zero (n - i)))

pub zero_word : (words : List ℕ) (n : ℕ) → slice_index_or words (n / 64) 0 ≡ 0 → bit_of words n ≡ false
zero_word words n none = ap (λ w. bit_at w (n % 64) == 1) none ∙ ap (λ b. b == 1) (bit_at-zero (n % 64))

-- the word of a set bit isn't 0, and a set bit behind an empty rest is in a later word
pub record LaterWord (words : List ℕ) (i end : ℕ) : Type 0 where
  pub order : i / 64 + 1 ≤ end / 64
  pub some : slice_index_or words (end / 64) 0 ≢ 0

pub later_word : (words : List ℕ) (i end : ℕ) → i ≤ end → bit_of words end ≡ true → slice_index_or words (i / 64) 0 / 2 ^ (i % 64) ≡ 0 → LaterWord words i end
later_word words i end order set none = record {
  order = by (cases_lt (i / 64) (end / 64));
  some = λ zero_there. true≢false (sym set ∙ zero_word words end zero_there);
}
  where
    by : (i / 64 < end / 64) ⊎ (end / 64 ≤ i / 64) → i / 64 + 1 ≤ end / 64
    by (inl less) = omega arith
    by (inr le) = absurd (true≢false (sym set ∙ no_rest words i end none order (omega arith)))

pub first_later : (words : List ℕ) (i q : ℕ) → slice_index_or words (i / 64) 0 / 2 ^ (i % 64) ≡ 0 → i / 64 + 1 ≤ q → slice_index_or words q 0 < 2 ^ 64 → slice_index_or words q 0 ≢ 0 → ((k : ℕ) → i / 64 + 1 ≤ k → k < q → slice_index_or words k 0 ≡ 0)
    → FirstSet words i (q * 64 + trailing_zeros w64 (slice_index_or words q 0))
first_later words i q rest order fits some none =
    let w = slice_index_or words q 0 in
    let t = trailing_zeros w64 w in
    let z = bit_at-trailing_zeros w64 w (positive w some) fits in
    record {
      from = omega arith;
      set = bit_in words q t z.0 ∙ ap (λ b. b == 1) z.1;
      none = λ n low high. before n low high (cases_lt (i / 64) (n / 64)) (cases_lt (n / 64) q) z.2;
    }
  where
    positive : (n : ℕ) → n ≢ 0 → 0 < n
    positive zero not = absurd (not refl)
    positive (suc n) not = omega arith

    before : (n : ℕ) → i ≤ n → n < q * 64 + trailing_zeros w64 (slice_index_or words q 0) → (i / 64 < n / 64) ⊎ (n / 64 ≤ i / 64) → (n / 64 < q) ⊎ (q ≤ n / 64) → ((j : ℕ) → j < trailing_zeros w64 (slice_index_or words q 0) → bit_at (slice_index_or words q 0) j ≡ 0) → bit_of words n ≡ false
    before n low high (inr here) right zeros = no_rest words i n rest low (omega arith)
    before n low high (inl later) (inl less) zeros = zero_word words n (none (n / 64) (omega arith) less)
    before n low high (inl later) (inr there) zeros = bit_by words n q (n - q * 64) (omega arith) (omega (arith, trailing_le 64 (slice_index_or words q 0))) ∙ ap (λ b. b == 1) (zeros (n - q * 64) (omega arith))

-- ---- the last set bit

-- the highest set bit of a number
pub record Highest (n t : ℕ) : Type 0 where
  pub set : bit_at n t ≡ 1
  pub above : (j : ℕ) → t < j → bit_at n j ≡ 0

pub highest : (n t : ℕ) → 2 ^ t ≤ n → n < 2 * 2 ^ t → Highest n t
highest n t low high =
    let one : n / 2 ^ t ≡ 1 = div-eq_of_lt-le (2 ^ t) (omega (arith, low)) (omega (arith, high)) in
    let next : 2 ^ (t + 1) ≡ 2 ^ t * 2 = pow-add 2 t 1 in
    record { set = ap (λ m. m % 2) one; above = λ j less. bit_at_above n (t + 1) j (omega (arith, high, next)) (omega arith) }

-- the low bits of a word
pub bit_at-low : (n k t : ℕ) → t < k → bit_at n t ≡ bit_at (n % 2 ^ k) t
bit_at-low n k t below = ap (λ m. bit_at m t) (sym (div-add-mod' n (2 ^ k))) ∙ bit_at_cat_low (n / 2 ^ k) k (n % 2 ^ k) t below

pub record LastSet (words : List ℕ) (i found : ℕ) : Type 0 where
  pub upto : found ≤ i
  pub set : bit_of words found ≡ true
  pub none : (k : ℕ) → found < k → k ≤ i → bit_of words k ≡ false

pub within_last : (words : List ℕ) (i start found : ℕ) → start ≤ i → bit_of words start ≡ true → LastSet words i found → start ≤ found
within_last words i start found order set last = by (cases_lt found start)
  where
    by : (found < start) ⊎ (start ≤ found) → start ≤ found
    by (inl less) = absurd (true≢false (sym set ∙ last.none start less order))
    by (inr le) = le

-- in the low bits of its word
pub last_here : (words : List ℕ) (i t : ℕ) → bit_of words i ≡ false → 2 ^ t ≤ slice_index_or words (i / 64) 0 % 2 ^ (i % 64) → slice_index_or words (i / 64) 0 % 2 ^ (i % 64) < 2 * 2 ^ t → LastSet words i (i / 64 * 64 + t)
last_here words i t clear low high =
    let w = slice_index_or words (i / 64) 0 in
    let k = i % 64 in
    let small : w % 2 ^ k < 2 ^ k = mod-lt w (omega (arith, one-le-pow k 2 (omega arith))) in
    let below = less_power (cases_lt t k) (omega (arith, low, small)) in
    let h = highest (w % 2 ^ k) t low high in
    record {
      upto = omega arith;
      set = bit_in words (i / 64) t (omega arith) ∙ ap (λ b. b == 1) (bit_at-low w k t below ∙ h.set);
      none = λ n more upto. between n more upto (cases_lt n i) h.above;
    }
  where
    less_power : (t < i % 64) ⊎ (i % 64 ≤ t) → 2 ^ t < 2 ^ (i % 64) → t < i % 64
    less_power (inl less) small = less
    less_power (inr past) small = absurd (let le = pow-le-pow_right {n = 2} (omega arith) past in omega (arith, le, small))

    between : (n : ℕ) → i / 64 * 64 + t < n → n ≤ i → (n < i) ⊎ (i ≤ n) → ((j : ℕ) → t < j → bit_at (slice_index_or words (i / 64) 0 % 2 ^ (i % 64)) j ≡ 0) → bit_of words n ≡ false
    between n more upto (inr same) above = ap (bit_of words) (omega arith) ∙ clear
    between n more upto (inl less) above =
        bit_by words n (i / 64) (n - i / 64 * 64) (omega arith) (omega arith) ∙ ap (λ b. b == 1) (bit_at-low (slice_index_or words (i / 64) 0) (i % 64) (n - i / 64 * 64) (omega arith) ∙ above (n - i / 64 * 64) (omega arith))

-- or in an earlier word
no_low : (words : List ℕ) (i n : ℕ) → bit_of words i ≡ false → slice_index_or words (i / 64) 0 % 2 ^ (i % 64) ≡ 0 → n ≤ i → n / 64 ≡ i / 64 → bit_of words n ≡ false
no_low words i n clear none upto same = by (cases_lt n i)
  where
    by : (n < i) ⊎ (i ≤ n) → bit_of words n ≡ false
    by (inr is) = ap (bit_of words) (omega arith) ∙ clear
    by (inl less) =
        bit_by words n (i / 64) (n - i / 64 * 64) (omega arith) (omega arith) ∙ ap (λ b. b == 1) (bit_at-low (slice_index_or words (i / 64) 0) (i % 64) (n - i / 64 * 64) (omega arith) ∙ (ap (λ m. bit_at m (n - i / 64 * 64)) none ∙ bit_at-zero (n - i / 64 * 64)))

pub record EarlierWord (words : List ℕ) (i start : ℕ) : Type 0 where
  pub order : start / 64 < i / 64
  pub some : slice_index_or words (start / 64) 0 ≢ 0

pub earlier_word : (words : List ℕ) (i start : ℕ) → start ≤ i → bit_of words start ≡ true → bit_of words i ≡ false → slice_index_or words (i / 64) 0 % 2 ^ (i % 64) ≡ 0 → EarlierWord words i start
earlier_word words i start order set clear none = record {
  order = by (cases_lt (start / 64) (i / 64));
  some = λ zero_there. true≢false (sym set ∙ zero_word words start zero_there);
}
  where
    by : (start / 64 < i / 64) ⊎ (i / 64 ≤ start / 64) → start / 64 < i / 64
    by (inl less) = less
    by (inr le) = absurd (true≢false (sym set ∙ no_low words i start clear none order (omega arith)))

pub last_earlier : (words : List ℕ) (i q t : ℕ) → bit_of words i ≡ false → slice_index_or words (i / 64) 0 % 2 ^ (i % 64) ≡ 0 → q < i / 64 → t < 64 → 2 ^ t ≤ slice_index_or words q 0 → slice_index_or words q 0 < 2 * 2 ^ t → ((k : ℕ) → q < k → k < i / 64 → slice_index_or words k 0 ≡ 0)
    → LastSet words i (q * 64 + t)
last_earlier words i q t clear rest order small low high none =
    let h = highest (slice_index_or words q 0) t low high in
    record {
      upto = omega arith;
      set = bit_in words q t small ∙ ap (λ b. b == 1) h.set;
      none = λ n more upto. behind n more upto (cases_lt (n / 64) (i / 64)) (cases_lt q (n / 64)) h.above;
    }
  where
    behind : (n : ℕ) → q * 64 + t < n → n ≤ i → (n / 64 < i / 64) ⊎ (i / 64 ≤ n / 64) → (q < n / 64) ⊎ (n / 64 ≤ q) → ((j : ℕ) → t < j → bit_at (slice_index_or words q 0) j ≡ 0) → bit_of words n ≡ false
    behind n more upto (inr same) right above = no_low words i n clear rest upto (omega arith)
    behind n more upto (inl less) (inl later) above = zero_word words n (none (n / 64) later less)
    behind n more upto (inl less) (inr here) above = bit_by words n q (n - q * 64) (omega arith) (omega arith) ∙ ap (λ b. b == 1) (above (n - q * 64) (omega arith))
