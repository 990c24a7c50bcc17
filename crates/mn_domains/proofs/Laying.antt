-- How declared values come to be held.
use Rattle.std.proofs.Common.{◌≡◌, ℕ, zero, suc, ◌+◌, ◌-◌, ◌^◌, ◌<◌, ◌≤◌, ℤ, pos, ◌+ℤ◌, ◌-ℤ◌, inl, inr, true, false, List, [], ◌∷◌, ◌++◌, length, take, slice_get, Some, refl, sym, subst, ap, ◌∙◌, arith}
use Rattle.std.proofs.lemmas.Int.{ints}
use Rattle.std.proofs.lemmas.List.{take_all}
use Rattle.std.specs.Int.{int_gap}
use Rattle.std.specs.List.{AllByRecursion}
use Rattle.mn_model.specs.Domain.{Has, IsDomain, IsFirst, IsLast, IsValue, numbers_from, stretch}
use Rattle.mn_model.specs.declared.limits.TheConstants.{SPAN}
use Rattle.mn_model.proofs.Stretches.{length-numbers_from, length-stretch, plus-int_gap, slice_get-numbers_from}
use Rattle.mn_boxes.proofs.Members.{stands_first, stands_last}
use Rattle.mn_domains.specs.Held.{IsSpan}
use Rattle.mn_domains.specs.Layouts.{AddsShape}
use Rattle.mn_domains.specs.declared.shape.Shape.TheVariants.{Stretch, Bits}
use Rattle.mn_domains.proofs.Marks.{int_gap-plus}

pub same_by_slice_get : (xs ys : List ℤ) → length xs ≡ length ys → ((k : ℕ) → k < length xs → slice_get xs k ≡ slice_get ys k) → xs ≡ ys
same_by_slice_get [] [] long each = refl
same_by_slice_get [] (y ∷ ys) long each = absurd (omega arith)
same_by_slice_get (x ∷ xs) [] long each = absurd (omega arith)
same_by_slice_get (x ∷ xs) (y ∷ ys) long each =
    let first : Some x ≡ Some y = each 0 (omega arith) in
    let rest : xs ≡ ys = same_by_slice_get xs ys (omega arith) (λ k below. each (suc k) (omega arith)) in
    cc

pub take_slice_get : {X : Type 0} (xs : List X) (i : ℕ) (x : X) → slice_get xs i ≡ Some x → take (i + 1) xs ≡ take i xs ++ x ∷ []
take_slice_get [] i x is = cc
take_slice_get (y ∷ xs) zero x is = let same : y ≡ x = cc in ap (λ z. z ∷ []) same
take_slice_get (y ∷ xs) (suc i) x is = let n : suc i + 1 ≡ suc (i + 1) = omega arith in rw n (ap (λ zs. y ∷ zs) (take_slice_get xs i x is))

-- what holds of all holds of a member
all_has : (P : ℤ → Type 0) (xs : List ℤ) (a : ℤ) → AllByRecursion P xs → Has xs a → P a
all_has P [] a all has = absurd has
all_has P (x ∷ xs) a all (inl is) = subst P is all.0
all_has P (x ∷ xs) a all (inr later) = all_has P xs a all.1 later

-- the ends of a domain
pub span_of : (xs : List ℤ) (a b : ℤ) → IsDomain xs → IsFirst a xs → IsLast b xs → IsSpan a b
span_of xs a b domain first last =
    let f = stands_first xs a domain.ascends first in
    let l = stands_last xs b domain.ascends last in
    record { ordered = f.others b l.has; low = all_has IsValue xs a domain.valued f.has; high = all_has IsValue xs b domain.valued l.has }

-- a stretch is known by its ends
pub stretch_by_ends : (xs : List ℤ) (lo hi a b : ℤ) → xs ≡ stretch lo hi → IsFirst a xs → IsLast b xs → stretch a b ≡ xs
unfolding stretch
stretch_by_ends xs lo hi a b is first last =
    let n = int_gap lo hi in
    let low : Some lo ≡ Some a = sym (slice_get-numbers_from lo (suc n) 0 (omega arith) ∙ ap Some (omega (arith, ints))) ∙ (ap (λ ys. slice_get ys 0) (sym is) ∙ first) in
    let high : Some (lo +ℤ pos n) ≡ Some b = sym (ap (λ k. slice_get (numbers_from lo (suc n)) k) (omega (arith, length-numbers_from lo (suc n))) ∙ slice_get-numbers_from lo (suc n) n (omega arith)) ∙ (ap (λ ys. slice_get ys (length ys - 1)) (sym is) ∙ last) in
    let same_lo : a ≡ lo = cc in
    let same_hi : b ≡ lo +ℤ pos n = cc in
    let gap : int_gap a b ≡ n = ap (λ l. int_gap l b) same_lo ∙ (ap (int_gap lo) same_hi ∙ int_gap-plus lo n) in
    ap (λ l. numbers_from l (suc (int_gap a b))) same_lo ∙ (ap (λ k. numbers_from lo (suc k)) gap ∙ sym is)

-- ---- one more variable

pub adds_stretch : (listed xs : List ℤ) (bits : ℕ) (lo hi a b : ℤ) → IsDomain xs → xs ≡ stretch lo hi → IsFirst a xs → IsLast b xs → AddsShape listed listed bits bits (record { declared = xs; bounded = true }) (Stretch a b)
adds_stretch listed xs bits lo hi a b domain is first last = record {
  grew = take_all (length listed) listed (omega arith);
  shaped = span_of xs a b domain first last;
  holds = ap (λ ys. record { declared = ys; bounded = true }) (stretch_by_ends xs lo hi a b is first last);
  begins = tt;
  ends = refl;
  few = omega arith;
}

pub adds_bits : (listed xs : List ℤ) (bits behind : ℕ) (lo hi a b : ℤ) → IsDomain xs → xs ≡ stretch lo hi → length xs ≤ SPAN → bits ≤ 2 ^ 40 → behind ≡ bits + length xs → IsFirst a xs → IsLast b xs → AddsShape listed listed bits behind (record { declared = xs; bounded = false }) (Bits a b bits)
adds_bits listed xs bits behind lo hi a b domain is few small more first last =
    let span = span_of xs a b domain first last in
    let same = stretch_by_ends xs lo hi a b is first last in
    let long : pos (length xs) ≡ b -ℤ a +ℤ pos 1 = ap (λ ys. pos (length ys)) (sym same) ∙ length-stretch a b span.ordered in
    let gap = plus-int_gap a b span.ordered in
    let size : length xs ≡ int_gap a b + 1 = omega (arith, ints, long, gap) in
    record {
      grew = take_all (length listed) listed (omega arith);
      shaped = (span, record { within = omega arith; small = omega arith });
      holds = ap (λ ys. record { declared = ys; bounded = false }) same;
      begins = refl;
      ends = omega arith;
      few = omega arith;
    }

-- 0 and 1 are few
pub two_values : (xs : List ℤ) → xs ≡ stretch (pos 0) (pos 1) → length xs ≤ SPAN
unfolding stretch
two_values xs is = omega (arith, ap length is, length-numbers_from (pos 0) (suc (int_gap (pos 0) (pos 1))))
