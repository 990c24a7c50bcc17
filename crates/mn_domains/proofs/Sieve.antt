-- Bits that a set of values keeps.
use Rattle.std.proofs.Common.{◌≡◌, ℕ, ◌+◌, ◌-◌, ◌*◌, ◌/◌, ◌%◌, ◌^◌, ◌<◌, ◌≤◌, ◌==◌, nat_le, pos, neg_ℤ, Bool, true, false, not, ◌&&◌, ◌||◌, List, length, slice_index_or, slice_set, bit_and, refl, sym, ap, ◌∙◌, ◌⊎◌, inl, inr, arith}
use Rattle.std.specs.Int.{bit_at, bit_not, trailing_zeros, w64}
use Rattle.std.proofs.lemmas.Bool.{cases_lt}
use Rattle.std.proofs.lemmas.Bool.Decides.{nat_tests}
use Rattle.std.proofs.lemmas.Int.{ints}
use Rattle.std.proofs.lemmas.List.{get_or-set_other, get_or-set_same, length-set}
use Rattle.std.proofs.lemmas.Nat.Bits.{bit_at-trailing_zeros, bit_at-zero, bit_at_ones}
use Rattle.mn_model.proofs.Stretches.{plus-int_gap}
use Rattle.mn_boxes.specs.Bits.{bit_of, word_bit}
use Rattle.mn_boxes.specs.Values.{Values, place_of}
use Rattle.mn_boxes.proofs.Windows.{word_bit-and, word_bit-not}
use Rattle.mn_boxes.proofs.Words.{highest}
use Rattle.mn_domains.specs.Rows.{is_hit, is_in, passes, value_placed}
use Rattle.mn_domains.specs.declared.rows.Row.{Row}

pub place_of-placed : (n : ℕ) → place_of (value_placed n) ≡ n
place_of-placed n = omega (arith, ints, plus-int_gap (neg_ℤ (pos (2 ^ 61))) (value_placed n) (omega (arith, ints)))

-- ---- the bits of one word

pub part_bits : (bits : List ℕ) (row : Row) (s : Values) (wanted : Bool) (word read run pass i : ℕ) → i / 64 ≡ word → word_bit read (i % 64) ≡ is_in bits row i → word_bit run (i % 64) ≡ (nat_le row.from i && nat_le i row.to)
    → (word * 64 + row.raise ≤ place_of (value_placed (i + row.raise)) → place_of (value_placed (i + row.raise)) < word * 64 + row.raise + 64 → passes s wanted (value_placed (i + row.raise)) ≡ word_bit pass (place_of (value_placed (i + row.raise)) - (word * 64 + row.raise)))
    → word_bit (bit_and (bit_and read run) pass) (i % 64) ≡ is_hit bits row s wanted i
part_bits bits row s wanted word read run pass i is here between told =
    let at = place_of-placed (i + row.raise) in
    let bit : place_of (value_placed (i + row.raise)) - (word * 64 + row.raise) ≡ i % 64 = omega (arith, at, is) in
    let passed : passes s wanted (value_placed (i + row.raise)) ≡ word_bit pass (i % 64) = told (omega (arith, at, is)) (omega (arith, at, is)) ∙ ap (word_bit pass) bit in
    word_bit-and (bit_and read run) pass (i % 64)
    ∙ (ap (λ b. b && word_bit pass (i % 64)) (word_bit-and read run (i % 64))
    ∙ (ap (λ b. (b && word_bit run (i % 64)) && word_bit pass (i % 64)) here
    ∙ (ap (λ b. (is_in bits row i && b) && word_bit pass (i % 64)) between
    ∙ ap (λ b. (is_in bits row i && (nat_le row.from i && nat_le i row.to)) && b) (sym passed))))

-- one word of the bits that count as set
pub full_bits : (bits : List ℕ) (row : Row) (i : ℕ) → row.full ≡ true → word_bit (2 ^ 64 - 1) (i % 64) ≡ is_in bits row i
full_bits bits row i full = ap (λ n. n == 1) (bit_at_ones 64 (i % 64) (omega arith)) ∙ sym (ap (λ b. b || bit_of bits i) full)

pub own_bits : (bits : List ℕ) (row : Row) (word i : ℕ) → row.full ≡ false → i / 64 ≡ word → word_bit (slice_index_or bits word 0) (i % 64) ≡ is_in bits row i
own_bits bits row word i plain is = ap (λ q. word_bit (slice_index_or bits q 0) (i % 64)) (sym is) ∙ sym (ap (λ b. b || bit_of bits i) plain)

-- ---- bits that aren't the row's

not_both : (b x y p : Bool) → (x && y) ≡ false → ((b && (x && y)) && p) ≡ false
not_both true x y p none = ap (λ z. z && p) none
not_both false x y p none = refl

more_test : (a b : ℕ) → b < a → nat_le a b ≡ false
more_test a b less = grind (arith, nat_tests)

and_false : (b : Bool) → (b && false) ≡ false
and_false true = refl
and_false false = refl

pub hit_before : (bits : List ℕ) (row : Row) (s : Values) (wanted : Bool) (i : ℕ) → i < row.from → is_hit bits row s wanted i ≡ false
hit_before bits row s wanted i less = not_both (is_in bits row i) (nat_le row.from i) (nat_le i row.to) (passes s wanted (value_placed (i + row.raise))) (ap (λ b. b && nat_le i row.to) (more_test row.from i less))

pub hit_behind : (bits : List ℕ) (row : Row) (s : Values) (wanted : Bool) (i : ℕ) → row.to < i → is_hit bits row s wanted i ≡ false
hit_behind bits row s wanted i more = not_both (is_in bits row i) (nat_le row.from i) (nat_le i row.to) (passes s wanted (value_placed (i + row.raise))) (ap (λ b. nat_le row.from i && b) (more_test i row.to more) ∙ and_false (nat_le row.from i))

-- ---- the first that is hit

abbrev pub TellsPart : List ℕ → Row → Values → Bool → ℕ → ℕ → Type 0
TellsPart bits row s wanted word part = (i : ℕ) → i / 64 ≡ word → word_bit part (i % 64) ≡ is_hit bits row s wanted i

abbrev pub NoneIn : List ℕ → Row → Values → Bool → ℕ → Type 0
NoneIn bits row s wanted word = (i : ℕ) → i / 64 < word → is_hit bits row s wanted i ≡ false

pub none_next : (bits : List ℕ) (row : Row) (s : Values) (wanted : Bool) (word part : ℕ) → NoneIn bits row s wanted word → TellsPart bits row s wanted word part → part ≡ 0 → NoneIn bits row s wanted (word + 1)
none_next bits row s wanted word part none tells empty i below = by (cases_lt (i / 64) word)
  where
    by : (i / 64 < word) ⊎ (word ≤ i / 64) → is_hit bits row s wanted i ≡ false
    by (inl less) = none i less
    by (inr here) = sym (tells i (omega (arith, below, here))) ∙ (ap (λ p. word_bit p (i % 64)) empty ∙ ap (λ n. n == 1) (bit_at-zero (i % 64)))

pub record FirstHit (bits : List ℕ) (row : Row) (s : Values) (wanted : Bool) (first : ℕ) : Type 0 where
  pub hit : is_hit bits row s wanted first ≡ true
  pub none : (i : ℕ) → i < first → is_hit bits row s wanted i ≡ false

pub hit_here : (bits : List ℕ) (row : Row) (s : Values) (wanted : Bool) (word part : ℕ) → NoneIn bits row s wanted word → TellsPart bits row s wanted word part → 0 < part → part < 2 ^ 64 → FirstHit bits row s wanted (word * 64 + trailing_zeros w64 part)
hit_here bits row s wanted word part none tells some fits =
    let z = bit_at-trailing_zeros w64 part some fits in
    let t = trailing_zeros w64 part in
    let below : t < 64 = z.0 in
    let place : (word * 64 + t) % 64 ≡ t = omega (arith, below) in
    record {
      hit = sym (tells (word * 64 + t) (omega (arith, below))) ∙ (ap (word_bit part) place ∙ ap (λ n. n == 1) z.1);
      none = λ i less. earlier i less z.2 below (cases_lt (i / 64) word);
    }
  where
    earlier : (i : ℕ) → i < word * 64 + trailing_zeros w64 part → ((j : ℕ) → j < trailing_zeros w64 part → bit_at part j ≡ 0) → trailing_zeros w64 part < 64 → (i / 64 < word) ⊎ (word ≤ i / 64) → is_hit bits row s wanted i ≡ false
    earlier i less zeros below (inl before) = none i before
    earlier i less zeros below (inr here) = sym (tells i (omega (arith, less, below, here))) ∙ ap (λ n. n == 1) (zeros (i % 64) (omega (arith, less, below, here)))

-- ---- the last that is hit

abbrev pub NoneFrom : List ℕ → Row → Values → Bool → ℕ → Type 0
NoneFrom bits row s wanted word = (i : ℕ) → word ≤ i / 64 → is_hit bits row s wanted i ≡ false

pub none_earlier : (bits : List ℕ) (row : Row) (s : Values) (wanted : Bool) (word part : ℕ) → NoneFrom bits row s wanted (word + 1) → TellsPart bits row s wanted word part → part ≡ 0 → NoneFrom bits row s wanted word
none_earlier bits row s wanted word part none tells empty i at = by (cases_lt word (i / 64))
  where
    by : (word < i / 64) ⊎ (i / 64 ≤ word) → is_hit bits row s wanted i ≡ false
    by (inl more) = none i (omega (arith, more))
    by (inr here) = sym (tells i (omega (arith, at, here))) ∙ (ap (λ p. word_bit p (i % 64)) empty ∙ ap (λ n. n == 1) (bit_at-zero (i % 64)))

pub record LastHit (bits : List ℕ) (row : Row) (s : Values) (wanted : Bool) (last : ℕ) : Type 0 where
  pub hit : is_hit bits row s wanted last ≡ true
  pub none : (i : ℕ) → last < i → is_hit bits row s wanted i ≡ false

pub last_hit_here : (bits : List ℕ) (row : Row) (s : Values) (wanted : Bool) (word part t : ℕ) → NoneFrom bits row s wanted (word + 1) → TellsPart bits row s wanted word part → t < 64 → 2 ^ t ≤ part → part < 2 * 2 ^ t → LastHit bits row s wanted (word * 64 + t)
last_hit_here bits row s wanted word part t none tells below low high =
    let h = highest part t low high in
    let place : (word * 64 + t) % 64 ≡ t = omega (arith, below) in
    record {
      hit = sym (tells (word * 64 + t) (omega (arith, below))) ∙ (ap (word_bit part) place ∙ ap (λ n. n == 1) h.set);
      none = λ i more. later i more h.above (cases_lt word (i / 64));
    }
  where
    later : (i : ℕ) → word * 64 + t < i → ((j : ℕ) → t < j → bit_at part j ≡ 0) → (word < i / 64) ⊎ (i / 64 ≤ word) → is_hit bits row s wanted i ≡ false
    later i more zeros (inl behind) = none i (omega (arith, behind))
    later i more zeros (inr here) = sym (tells i (omega (arith, more, below, here))) ∙ ap (λ n. n == 1) (zeros (i % 64) (omega (arith, more, below, here)))

-- ---- bits that are cleared

pub cleared_here : (bits : List ℕ) (word lost i : ℕ) → word < length bits → lost < 2 ^ 64 → i / 64 ≡ word → bit_of (slice_set bits word (bit_and (slice_index_or bits word 0) (bit_not w64 lost))) i ≡ (bit_of bits i && not (word_bit lost (i % 64)))
cleared_here bits word lost i within fits is =
    let new = bit_and (slice_index_or bits word 0) (bit_not w64 lost) in
    ap (λ q. word_bit (slice_index_or (slice_set bits word new) q 0) (i % 64)) is
    ∙ (ap (λ n. word_bit n (i % 64)) (get_or-set_same bits word new 0 within)
    ∙ (word_bit-and (slice_index_or bits word 0) (bit_not w64 lost) (i % 64)
    ∙ (ap (λ b. word_bit (slice_index_or bits word 0) (i % 64) && b) (word_bit-not lost (i % 64) fits (omega arith))
    ∙ ap (λ q. word_bit (slice_index_or bits q 0) (i % 64) && not (word_bit lost (i % 64))) (sym is))))

pub cleared_there : (bits : List ℕ) (word new i : ℕ) → (i / 64 ≡ word → ⊥) → bit_of (slice_set bits word new) i ≡ bit_of bits i
cleared_there bits word new i other = ap (λ n. word_bit n (i % 64)) (get_or-set_other bits word (i / 64) new 0 other)

-- what is left of the bits before a word, where those from it on are as they were
pub record Sieved (old bits : List ℕ) (row : Row) (s : Values) (wanted : Bool) (word : ℕ) : Type 0 where
  pub words : length bits ≡ length old
  pub done : (i : ℕ) → i / 64 < word → bit_of bits i ≡ (bit_of old i && not (is_hit old row s wanted i))
  pub same : (i : ℕ) → word ≤ i / 64 → bit_of bits i ≡ bit_of old i

and_true : (b : Bool) → b ≡ (b && true)
and_true true = refl
and_true false = refl

unhit : (old : List ℕ) (row : Row) (s : Values) (wanted : Bool) (i : ℕ) → is_hit old row s wanted i ≡ false → bit_of old i ≡ (bit_of old i && not (is_hit old row s wanted i))
unhit old row s wanted i none = and_true (bit_of old i) ∙ sym (ap (λ b. bit_of old i && not b) none)

pub sieved_none : (old : List ℕ) (row : Row) (s : Values) (wanted : Bool) → Sieved old old row s wanted (row.from / 64)
sieved_none old row s wanted = record { words = refl; done = λ i less. unhit old row s wanted i (hit_before old row s wanted i (omega (arith, less))); same = λ i from. refl }

pub sieved_next : (old bits : List ℕ) (row : Row) (s : Values) (wanted : Bool) (word lost : ℕ) → Sieved old bits row s wanted word → TellsPart bits row s wanted word lost → word < length bits → lost < 2 ^ 64 → Sieved old (slice_set bits word (bit_and (slice_index_or bits word 0) (bit_not w64 lost))) row s wanted (word + 1)
sieved_next old bits row s wanted word lost so_far tells within fits = record {
  words = length-set bits word _ ∙ so_far.words;
  done = λ i below. by i below (cases_lt (i / 64) word);
  same = λ i from. cleared_there bits word (bit_and (slice_index_or bits word 0) (bit_not w64 lost)) i (λ is. omega (arith, from, is)) ∙ so_far.same i (omega (arith, from));
}
  where
    by : (i : ℕ) → i / 64 < word + 1 → (i / 64 < word) ⊎ (word ≤ i / 64) → bit_of (slice_set bits word (bit_and (slice_index_or bits word 0) (bit_not w64 lost))) i ≡ (bit_of old i && not (is_hit old row s wanted i))
    by i below (inl less) = cleared_there bits word (bit_and (slice_index_or bits word 0) (bit_not w64 lost)) i (λ is. omega (arith, less, is)) ∙ so_far.done i less
    by i below (inr from) =
        let is : i / 64 ≡ word = omega (arith, below, from) in
        let was = so_far.same i from in
        let hit : word_bit lost (i % 64) ≡ is_hit old row s wanted i = tells i is ∙ ap (λ b. ((row.full || b) && (nat_le row.from i && nat_le i row.to)) && passes s wanted (value_placed (i + row.raise))) was in
        cleared_here bits word lost i within fits is ∙ (ap (λ b. b && not (word_bit lost (i % 64))) was ∙ ap (λ b. bit_of old i && not b) hit)

pub sieved_all : (old bits : List ℕ) (row : Row) (s : Values) (wanted : Bool) (word i : ℕ) → Sieved old bits row s wanted word → row.to / 64 < word → bit_of bits i ≡ (bit_of old i && not (is_hit old row s wanted i))
sieved_all old bits row s wanted word i so_far past = by (cases_lt (i / 64) word)
  where
    by : (i / 64 < word) ⊎ (word ≤ i / 64) → bit_of bits i ≡ (bit_of old i && not (is_hit old row s wanted i))
    by (inl less) = so_far.done i less
    by (inr from) = so_far.same i from ∙ unhit old row s wanted i (hit_behind old row s wanted i (omega (arith, past, from)))
