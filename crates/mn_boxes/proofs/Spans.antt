-- Bits that are set from one to another.
use Rattle.std.proofs.Common.{◌≡◌, ℕ, ◌+◌, ◌*◌, ◌/◌, ◌%◌, ◌^◌, ◌<◌, ◌≤◌, nat_le, ℤ, ◌<ℤ◌, ◌≤ℤ◌, int_le, int_lt, Bool, true, false, ◌&&◌, ◌||◌, cond, List, length, slice_index_or, slice_set, bit_or, refl, sym, ap, ◌∙◌, ◌⊎◌, inl, inr, arith}
use Rattle.std.specs.Int.{int_gap}
use Rattle.std.proofs.lemmas.Bool.{cases_lt}
use Rattle.std.proofs.lemmas.Bool.Decides.{nat_tests}
use Rattle.std.proofs.lemmas.Int.{ints}
use Rattle.std.proofs.lemmas.List.{get_or-set_other, get_or-set_same, length-set}
use Rattle.mn_model.proofs.Ordered.{le_false, le_so}
use Rattle.mn_model.proofs.Stretches.{plus-int_gap}
use Rattle.mn_boxes.specs.Bits.{bit_of, word_bit}
use Rattle.mn_boxes.specs.Values.{members}
use Rattle.mn_boxes.proofs.Windows.{word_bit-or}

le_test : (a b : ℕ) → a ≤ b → nat_le a b ≡ true
le_test a b le = grind (arith, nat_tests)

more_test : (a b : ℕ) → b < a → nat_le a b ≡ false
more_test a b less = grind (arith, nat_tests)

or_swap : (a b : Bool) → (a || b) ≡ (b || a)
or_swap true true = refl
or_swap true false = refl
or_swap false true = refl
or_swap false false = refl

and_false : (b : Bool) → (b && false) ≡ false
and_false true = refl
and_false false = refl

-- the bits of the words before one are set, those from it on are as they were
pub record Filled (old words : List ℕ) (from to word : ℕ) : Type 0 where
  pub long : length words ≡ length old
  pub done : (i : ℕ) → i / 64 < word → bit_of words i ≡ ((nat_le from i && nat_le i to) || bit_of old i)
  pub same : (i : ℕ) → word ≤ i / 64 → bit_of words i ≡ bit_of old i

before : (old : List ℕ) (from to i : ℕ) → i < from → bit_of old i ≡ ((nat_le from i && nat_le i to) || bit_of old i)
before old from to i less = sym (ap (λ b. (b && nat_le i to) || bit_of old i) (more_test from i less))

behind : (old : List ℕ) (from to i : ℕ) → to < i → bit_of old i ≡ ((nat_le from i && nat_le i to) || bit_of old i)
behind old from to i more = sym (ap (λ b. (nat_le from i && b) || bit_of old i) (more_test i to more) ∙ ap (λ b. b || bit_of old i) (and_false (nat_le from i)))

pub filled_none : (old : List ℕ) (from to : ℕ) → Filled old old from to (from / 64)
filled_none old from to = record { long = refl; done = λ i less. before old from to i (omega (arith, less)); same = λ i at. refl }

set_here : (words : List ℕ) (word more i : ℕ) → word < length words → i / 64 ≡ word → bit_of (slice_set words word (bit_or (slice_index_or words word 0) more)) i ≡ (word_bit more (i % 64) || bit_of words i)
set_here words word more i within is =
    let new = bit_or (slice_index_or words word 0) more in
    ap (λ q. word_bit (slice_index_or (slice_set words word new) q 0) (i % 64)) is
    ∙ (ap (λ n. word_bit n (i % 64)) (get_or-set_same words word new 0 within)
    ∙ (word_bit-or (slice_index_or words word 0) more (i % 64)
    ∙ (or_swap (word_bit (slice_index_or words word 0) (i % 64)) (word_bit more (i % 64))
    ∙ ap (λ q. word_bit more (i % 64) || word_bit (slice_index_or words q 0) (i % 64)) (sym is))))

set_there : (words : List ℕ) (word new i : ℕ) → (i / 64 ≡ word → ⊥) → bit_of (slice_set words word new) i ≡ bit_of words i
set_there words word new i other = ap (λ n. word_bit n (i % 64)) (get_or-set_other words word (i / 64) new 0 other)

pub filled_next : (old words : List ℕ) (from to word more : ℕ) → Filled old words from to word → ((i : ℕ) → i / 64 ≡ word → word_bit more (i % 64) ≡ (nat_le from i && nat_le i to)) → word < length words
    → Filled old (slice_set words word (bit_or (slice_index_or words word 0) more)) from to (word + 1)
filled_next old words from to word more so_far tells within = record {
  long = length-set words word _ ∙ so_far.long;
  done = λ i below. by i below (cases_lt (i / 64) word);
  same = λ i at. set_there words word (bit_or (slice_index_or words word 0) more) i (λ is. omega (arith, at, is)) ∙ so_far.same i (omega (arith, at));
}
  where
    by : (i : ℕ) → i / 64 < word + 1 → (i / 64 < word) ⊎ (word ≤ i / 64) → bit_of (slice_set words word (bit_or (slice_index_or words word 0) more)) i ≡ ((nat_le from i && nat_le i to) || bit_of old i)
    by i below (inl less) = set_there words word (bit_or (slice_index_or words word 0) more) i (λ is. omega (arith, less, is)) ∙ so_far.done i less
    by i below (inr at) =
        let is : i / 64 ≡ word = omega (arith, below, at) in
        set_here words word more i within is ∙ (ap (λ b. b || bit_of words i) (tells i is) ∙ ap (λ b. (nat_le from i && nat_le i to) || b) (so_far.same i at))

pub filled_all : (old words : List ℕ) (from to word i : ℕ) → Filled old words from to word → to / 64 < word → bit_of words i ≡ ((nat_le from i && nat_le i to) || bit_of old i)
filled_all old words from to word i so_far past = by (cases_lt (i / 64) word)
  where
    by : (i / 64 < word) ⊎ (word ≤ i / 64) → bit_of words i ≡ ((nat_le from i && nat_le i to) || bit_of old i)
    by (inl less) = so_far.done i less
    by (inr at) = so_far.same i at ∙ behind old from to i (omega (arith, past, at))

-- ---- values

le_gap : (low a b : ℤ) → low ≤ℤ a → low ≤ℤ b → nat_le (int_gap low a) (int_gap low b) ≡ int_le a b
le_gap low a b la lb = by (int_le a b) refl
  where
    by : (t : Bool) → int_le a b ≡ t → nat_le (int_gap low a) (int_gap low b) ≡ t
    by true e = let le = le_so a b e in le_test (int_gap low a) (int_gap low b) (omega (arith, ints, plus-int_gap low a la, plus-int_gap low b lb, le))
    by false e = let less : b <ℤ a = grind (arith, ints) in more_test (int_gap low a) (int_gap low b) (omega (arith, ints, plus-int_gap low a la, plus-int_gap low b lb, less))

pub members_span : (low : ℤ) (words new : List ℕ) (lo hi x : ℤ) → low ≤ℤ lo → low ≤ℤ hi → ((i : ℕ) → bit_of new i ≡ ((nat_le (int_gap low lo) i && nat_le i (int_gap low hi)) || bit_of words i))
    → members (record { low = low; words = new }) x ≡ ((int_le lo x && int_le x hi) || members (record { low = low; words = words }) x)
members_span low words new lo hi x from to bits = by (int_lt x low) refl
  where
    by : (t : Bool) → int_lt x low ≡ t → members (record { low = low; words = new }) x ≡ ((int_le lo x && int_le x hi) || members (record { low = low; words = words }) x)
    by true e =
        let less : x <ℤ low = grind (arith, ints) in
        ap (λ c. cond c false (bit_of new (int_gap low x))) e
        ∙ sym (ap (λ c. (c && int_le x hi) || cond (int_lt x low) false (bit_of words (int_gap low x))) (le_false lo x (omega (arith, ints, less, from)))
        ∙ ap (λ c. cond c false (bit_of words (int_gap low x))) e)
    by false e =
        let above : low ≤ℤ x = grind (arith, ints) in
        ap (λ c. cond c false (bit_of new (int_gap low x))) e
        ∙ (bits (int_gap low x)
        ∙ (ap (λ b. (b && nat_le (int_gap low x) (int_gap low hi)) || bit_of words (int_gap low x)) (le_gap low lo x from above)
        ∙ (ap (λ b. (int_le lo x && b) || bit_of words (int_gap low x)) (le_gap low x hi above to)
        ∙ sym (ap (λ c. (int_le lo x && int_le x hi) || cond c false (bit_of words (int_gap low x))) e))))
