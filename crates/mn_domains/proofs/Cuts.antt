-- Marked values that are cut at an end.
use Rattle.std.proofs.Common.{◌≡◌, ℕ, zero, suc, ◌+◌, ◌-◌, ◌≤◌, ℤ, pos, ◌+ℤ◌, ◌<ℤ◌, ◌≤ℤ◌, Bool, true, false, true≢false, cond, int_le, List, ◌∷◌, length, filter, refl, sym, ap, ◌∙◌, arith}
use Rattle.std.proofs.lemmas.Int.{ints}
use Rattle.std.specs.Int.{int_gap}
use Rattle.mn_model.specs.Domain.{Has, numbers_from, stretch}
use Rattle.mn_model.proofs.Filtered.{Passes}
use Rattle.mn_model.proofs.Ordered.{le_true}
use Rattle.mn_model.proofs.Stretches.{plus-int_gap}
use Rattle.mn_boxes.specs.Bits.{bit_of, count_from}
use Rattle.mn_boxes.proofs.Counts.{count_split}
use Rattle.mn_domains.specs.Held.{AreEndsOf, has_bit, marked}
use Rattle.mn_domains.specs.declared.shape.Ends.{Ends}
use Rattle.mn_domains.proofs.Filtered.{is_filter}
use Rattle.mn_domains.proofs.Marks.{Ascends-marked, FoundFirst, FoundLast, has_bit-value, high_mark, is_marked, low_mark, marked_ends, marked_has}

-- marked values are counted by their bits
count_numbers : (bits : List ℕ) (lo : ℤ) (at : ℕ) (x : ℤ) (n : ℕ) → lo ≤ℤ x → length (filter (has_bit bits lo at) (numbers_from x n)) ≡ count_from (bit_of bits) (at + int_gap lo x) n
unfolding numbers_from count_from
count_numbers bits lo at x zero low = refl
count_numbers bits lo at x (suc n) low =
    let next : at + int_gap lo (x +ℤ pos 1) ≡ at + int_gap lo x + 1 = omega (arith, ints, plus-int_gap lo x low, plus-int_gap lo (x +ℤ pos 1) (omega (arith, ints, low))) in
    let rest = count_numbers bits lo at (x +ℤ pos 1) n (omega (arith, ints, low)) in
    let there = ap (λ k. count_from (bit_of bits) k n) next in
    by (has_bit bits lo at x) (filter (has_bit bits lo at) (numbers_from (x +ℤ pos 1) n)) (count_from (bit_of bits) (at + int_gap lo x + 1) n) (rest ∙ there)
  where
    by : (t : Bool) (ys : List ℤ) (m : ℕ) → length ys ≡ m → length (cond t (x ∷ ys) ys) ≡ cond t 1 0 + m
    by true ys m is = omega (arith, is)
    by false ys m is = omega (arith, is)

pub length_marked : (bits : List ℕ) (lo : ℤ) (at : ℕ) (e : Ends) → lo ≤ℤ e.lo → e.lo ≤ℤ e.hi → length (marked bits lo at e) ≡ count_from (bit_of bits) (at + int_gap lo e.lo) ((at + int_gap lo e.hi + 1) - (at + int_gap lo e.lo))
unfolding stretch
length_marked bits lo at e low ordered =
    let many : suc (int_gap e.lo e.hi) ≡ (at + int_gap lo e.hi + 1) - (at + int_gap lo e.lo) = omega (arith, ints, plus-int_gap lo e.lo low, plus-int_gap lo e.hi (omega (arith, ints, low, ordered)), plus-int_gap e.lo e.hi ordered) in
    count_numbers bits lo at e.lo (suc (int_gap e.lo e.hi)) low ∙ ap (count_from (bit_of bits) (at + int_gap lo e.lo)) many

-- what a test leaves, with its ends
pub record IsCut (bits : List ℕ) (lo : ℤ) (at : ℕ) (e result : Ends) (p : ℤ → Bool) : Type 0 where
  pub ends : AreEndsOf (marked bits lo at result) result
  pub values : marked bits lo at result ≡ filter p (marked bits lo at e)

-- the bits of values between the ends are between those of the ends
pub record Between (lo : ℤ) (at : ℕ) (e : Ends) (a : ℤ) : Type 0 where
  pub low : at + int_gap lo e.lo ≤ at + int_gap lo a
  pub high : at + int_gap lo a ≤ at + int_gap lo e.hi

pub bits_between : (lo : ℤ) (at : ℕ) (e : Ends) (a : ℤ) → lo ≤ℤ e.lo → e.lo ≤ℤ a → a ≤ℤ e.hi → Between lo at e a
bits_between lo at e a base low high =
    let g_e = plus-int_gap lo e.lo base in
    let g_a = plus-int_gap lo a (omega (arith, ints, base, low)) in
    let g_h = plus-int_gap lo e.hi (omega (arith, ints, base, low, high)) in
    record { low = omega (arith, ints, g_e, g_a, low); high = omega (arith, ints, g_a, g_h, high) }

-- so many bits are no more than the set has
pub lost_few : (bits : List ℕ) (lo : ℤ) (at : ℕ) (e : Ends) (from to : ℕ) → lo ≤ℤ e.lo → AreEndsOf (marked bits lo at e) e → at + int_gap lo e.lo ≤ from → from ≤ to → to ≤ at + int_gap lo e.hi + 1 → count_from (bit_of bits) from (to - from) ≤ e.size
lost_few bits lo at e from to low ends above order below =
    let all = length_marked bits lo at e low ends.ordered in
    let i = at + int_gap lo e.lo in
    let n = at + int_gap lo e.hi + 1 in
    let front = count_split (bit_of bits) i from from n above (omega arith) (omega (arith, order, below)) (λ m a b. absurd (omega arith)) in
    let back = count_split (bit_of bits) from to to n order (omega arith) below (λ m a b. absurd (omega arith)) in
    let size = ends.size in
    omega (arith, all, front, back, size)

pub cut_below : (bits : List ℕ) (lo : ℤ) (at : ℕ) (e : Ends) (a least : ℤ) (lost : ℕ) → lo ≤ℤ e.lo → AreEndsOf (marked bits lo at e) e → e.lo <ℤ a → FoundFirst bits lo at a e.hi least → lost ≡ count_from (bit_of bits) (at + int_gap lo e.lo) ((at + int_gap lo a) - (at + int_gap lo e.lo))
    → IsCut bits lo at e (record { lo = least; hi = e.hi; size = e.size - lost; place = e.place }) (λ x. int_le a x)
cut_below bits lo at e a least lost low ends above found is =
    let r : Ends = record { lo = least; hi = e.hi; size = e.size - lost; place = e.place } in
    let from_a = found.from in
    let g_e = plus-int_gap lo e.lo low in
    let g_a = plus-int_gap lo a (omega (arith, ints, low, above)) in
    let g_l = plus-int_gap lo least (omega (arith, ints, low, above, from_a)) in
    let g_h = plus-int_gap lo e.hi (omega (arith, ints, low, ends.ordered)) in
    let all = length_marked bits lo at e low ends.ordered in
    let rest = length_marked bits lo at r (omega (arith, ints, low, above, from_a)) found.within in
    let split = count_split (bit_of bits) (at + int_gap lo e.lo) (at + int_gap lo a) (at + int_gap lo least) (at + int_gap lo e.hi + 1) (omega (arith, ints, g_e, g_a, above)) (omega (arith, ints, g_a, g_l, from_a)) (omega (arith, ints, g_l, g_h, found.within))
    (λ m from less. sym (has_bit-value bits lo at m (omega (arith, from))) ∙ found.none (lo +ℤ pos (m - at)) (omega (arith, ints, g_a, from)) (omega (arith, ints, g_l, from, less))) in
    let size : e.size - lost ≡ length (marked bits lo at r) = let was = ends.size in omega (arith, all, rest, split, was, is) in
    record {
      ends = marked_ends bits lo at r found.within found.mark (high_mark bits lo at e ends) size;
      values = is_filter (λ x. int_le a x) (marked bits lo at e) (marked bits lo at r) (Ascends-marked bits lo at e) (Ascends-marked bits lo at r) to from;
    }
  where
    to : (b : ℤ) → Has (marked bits lo at (record { lo = least; hi = e.hi; size = e.size - lost; place = e.place })) b → Passes (λ x. int_le a x) (marked bits lo at e) b
    to b has =
        let m = is_marked bits lo at (record { lo = least; hi = e.hi; size = e.size - lost; place = e.place }) b found.within has in
        let start = found.from in
        record { has = marked_has bits lo at e b ends.ordered (record { low = omega (arith, ints, m.low, start, above); high = m.high; mark = m.mark }); passes = le_true a b (omega (arith, ints, m.low, start)) }

    from : (b : ℤ) → Has (marked bits lo at e) b → int_le a b ≡ true → Has (marked bits lo at (record { lo = least; hi = e.hi; size = e.size - lost; place = e.place })) b
    from b has pass =
        let m = is_marked bits lo at e b ends.ordered has in
        marked_has bits lo at (record { lo = least; hi = e.hi; size = e.size - lost; place = e.place }) b found.within (record { low = after (int_le least b) refl m.mark; high = m.high; mark = m.mark })
      where
        after : (t : Bool) → int_le least b ≡ t → has_bit bits lo at b ≡ true → least ≤ℤ b
        after true e mark = grind (arith, ints)
        after false e mark = let less : b <ℤ least = grind (arith, ints) in let past : a ≤ℤ b = grind (arith, ints) in absurd (true≢false (sym mark ∙ found.none b past less))

pub cut_above : (bits : List ℕ) (lo : ℤ) (at : ℕ) (e : Ends) (a greatest : ℤ) (lost : ℕ) → lo ≤ℤ e.lo → AreEndsOf (marked bits lo at e) e → a <ℤ e.hi → FoundLast bits lo at e.lo a greatest → lost ≡ count_from (bit_of bits) (at + int_gap lo a + 1) ((at + int_gap lo e.hi + 1) - (at + int_gap lo a + 1))
    → IsCut bits lo at e (record { lo = e.lo; hi = greatest; size = e.size - lost; place = e.place }) (λ x. int_le x a)
cut_above bits lo at e a greatest lost low ends below found is =
    let r : Ends = record { lo = e.lo; hi = greatest; size = e.size - lost; place = e.place } in
    let start = found.from in
    let upto = found.within in
    let g_e = plus-int_gap lo e.lo low in
    let g_a = plus-int_gap lo a (omega (arith, ints, low, start, upto)) in
    let g_l = plus-int_gap lo greatest (omega (arith, ints, low, start)) in
    let g_h = plus-int_gap lo e.hi (omega (arith, ints, low, ends.ordered)) in
    let all = length_marked bits lo at e low ends.ordered in
    let rest = length_marked bits lo at r low start in
    let split = count_split (bit_of bits) (at + int_gap lo e.lo) (at + int_gap lo greatest + 1) (at + int_gap lo a + 1) (at + int_gap lo e.hi + 1) (omega (arith, ints, g_e, g_l, start)) (omega (arith, ints, g_a, g_l, upto)) (omega (arith, ints, g_a, g_h, below))
    (λ m from less. sym (has_bit-value bits lo at m (omega (arith, from))) ∙ found.none (lo +ℤ pos (m - at)) (omega (arith, ints, g_l, from)) (omega (arith, ints, g_a, from, less))) in
    let size : e.size - lost ≡ length (marked bits lo at r) = let was = ends.size in omega (arith, all, rest, split, was, is) in
    record {
      ends = marked_ends bits lo at r start (low_mark bits lo at e ends) found.mark size;
      values = is_filter (λ x. int_le x a) (marked bits lo at e) (marked bits lo at r) (Ascends-marked bits lo at e) (Ascends-marked bits lo at r) to from;
    }
  where
    to : (b : ℤ) → Has (marked bits lo at (record { lo = e.lo; hi = greatest; size = e.size - lost; place = e.place })) b → Passes (λ x. int_le x a) (marked bits lo at e) b
    to b has =
        let m = is_marked bits lo at (record { lo = e.lo; hi = greatest; size = e.size - lost; place = e.place }) b found.from has in
        let end = found.within in
        record { has = marked_has bits lo at e b ends.ordered (record { low = m.low; high = omega (arith, ints, m.high, end, below); mark = m.mark }); passes = le_true b a (omega (arith, ints, m.high, end)) }

    from : (b : ℤ) → Has (marked bits lo at e) b → int_le b a ≡ true → Has (marked bits lo at (record { lo = e.lo; hi = greatest; size = e.size - lost; place = e.place })) b
    from b has pass =
        let m = is_marked bits lo at e b ends.ordered has in
        marked_has bits lo at (record { lo = e.lo; hi = greatest; size = e.size - lost; place = e.place }) b found.from (record { low = m.low; high = before (int_le b greatest) refl m.mark; mark = m.mark })
      where
        before : (t : Bool) → int_le b greatest ≡ t → has_bit bits lo at b ≡ true → b ≤ℤ greatest
        before true e mark = grind (arith, ints)
        before false e mark = let more : greatest <ℤ b = grind (arith, ints) in let upto : b ≤ℤ a = grind (arith, ints) in absurd (true≢false (sym mark ∙ found.none b more upto))
