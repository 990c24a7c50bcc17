-- Ascending values with all from one to another.
use Rattle.std.proofs.Common.{◌≡◌, ℕ, zero, suc, ◌+◌, ◌-◌, ◌*◌, ◌≤◌, ℤ, pos, ◌+ℤ◌, ◌-ℤ◌, ◌<ℤ◌, ◌≤ℤ◌, cond, int_le, int_lt, List, [], ◌∷◌, ◌++◌, length, filter, take, drop, refl, sym, ap, ◌∙◌, arith, length-append, append_assoc, mul_assoc}
use Rattle.std.proofs.lemmas.Int.{ints}
use Rattle.std.proofs.lemmas.List.{length-take-le, length-drop}
use Rattle.std.specs.List.{AllByRecursion}
use Rattle.std.specs.Int.{int_gap}
use Rattle.mn_model.specs.Domain.{Ascends, IsValue, numbers_from, stretch}
use Rattle.mn_model.specs.Problem.{size_of_dims}
use Rattle.mn_model.proofs.Stretches.{plus-int_gap, length-stretch, IsDomain-stretch, Ascends-stretch}
use Rattle.mn_model.proofs.Lists.{all_append, all_so, all_filter, all_passed}
use Rattle.mn_model.proofs.Ordered.{lt_so, next_le}
use Rattle.mn_model.proofs.Filtered.{filter_ascends}
use Rattle.mn_grammar.proofs.Sites.{both_nil}
use Rattle.mn_decls.specs.Variables.{with_range}

-- 1. Values below b, and others from b on
pub join_up : (b : ℤ) (xs ys : List ℤ) → Ascends xs → AllByRecursion (λ x. x <ℤ b) xs → Ascends ys → AllByRecursion (λ y. b ≤ℤ y) ys → Ascends (xs ++ ys)
join_up b [] ys up below up' from = up'
join_up b (x ∷ xs) ys up below up' from =
    let less = below.0 in (
      all_append (λ y. x <ℤ y) xs ys up.0 (all_so (λ y. b ≤ℤ y) (λ y. x <ℤ y) (λ y le. omega (arith, ints, less, le)) ys from),
      join_up b xs ys up.1 below.1 up' from,
    )

-- 2. A stretch
from_lo : (lo : ℤ) (n : ℕ) (a : ℤ) → a ≤ℤ lo → AllByRecursion (λ x. a ≤ℤ x) (numbers_from lo n)
unfolding numbers_from
from_lo lo zero a le = tt
from_lo lo (suc n) a le = (le, from_lo (lo +ℤ pos 1) n a (omega (arith, ints, le)))

below_end : (lo : ℤ) (n : ℕ) (b : ℤ) → (lo +ℤ pos n) ≤ℤ b → AllByRecursion (λ x. x <ℤ b) (numbers_from lo n)
unfolding numbers_from
below_end lo zero b le = tt
below_end lo (suc n) b le = (omega (arith, ints, le), below_end (lo +ℤ pos 1) n b (omega (arith, ints, le)))

stretch_from : (lo hi : ℤ) → AllByRecursion (λ x. lo ≤ℤ x) (stretch lo hi)
unfolding stretch
stretch_from lo hi = from_lo lo (suc (int_gap lo hi)) lo (omega (arith, ints))

stretch_below : (lo hi : ℤ) → lo ≤ℤ hi → AllByRecursion (λ x. x <ℤ (hi +ℤ pos 1)) (stretch lo hi)
unfolding stretch
stretch_below lo hi ordered = below_end lo (suc (int_gap lo hi)) (hi +ℤ pos 1) (omega (arith, ints, plus-int_gap lo hi ordered))

-- 3. Values with a stretch ascend, and are values of a model
module _ (xs : List ℤ) (lo hi : ℤ) (ordered : lo ≤ℤ hi) where
  back_above : AllByRecursion (λ y. (hi +ℤ pos 1) ≤ℤ y) (filter (λ x. int_lt hi x) xs)
  back_above = all_passed (λ y. (hi +ℤ pos 1) ≤ℤ y) (λ x. int_lt hi x) (λ x e. let less = lt_so hi x e in omega (arith, ints, less)) xs

  pub range_ascends : Ascends xs → Ascends (with_range xs lo hi)
  range_ascends up =
      join_up lo (filter (λ x. int_lt x lo) xs) (stretch lo hi ++ filter (λ x. int_lt hi x) xs) (filter_ascends (λ x. int_lt x lo) xs up)
      (all_passed (λ x. x <ℤ lo) (λ x. int_lt x lo) (λ x e. lt_so x lo e) xs)
      (join_up (hi +ℤ pos 1) (stretch lo hi) (filter (λ x. int_lt hi x) xs) (Ascends-stretch lo hi) (stretch_below lo hi ordered) (filter_ascends (λ x. int_lt hi x) xs up) back_above)
      (all_append (λ y. lo ≤ℤ y) (stretch lo hi) (filter (λ x. int_lt hi x) xs) (stretch_from lo hi)
      (all_so (λ y. (hi +ℤ pos 1) ≤ℤ y) (λ y. lo ≤ℤ y) (λ y le. omega (arith, ints, le, ordered)) (filter (λ x. int_lt hi x) xs) back_above))

  pub range_values : IsValue lo → IsValue hi → AllByRecursion IsValue xs → AllByRecursion IsValue (with_range xs lo hi)
  range_values low high all =
      all_append IsValue (filter (λ x. int_lt x lo) xs) (stretch lo hi ++ filter (λ x. int_lt hi x) xs) (all_filter IsValue (λ x. int_lt x lo) xs all)
      (all_append IsValue (stretch lo hi) (filter (λ x. int_lt hi x) xs) (IsDomain-stretch lo hi ordered low high).valued (all_filter IsValue (λ x. int_lt hi x) xs all))

  -- how many they are
  pub range_length : (below above : ℕ) → length (filter (λ x. int_lt x lo) xs) ≡ below → length (filter (λ x. int_lt hi x) xs) ≡ above → pos (length (with_range xs lo hi)) ≡ (pos below +ℤ ((hi -ℤ lo) +ℤ pos 1)) +ℤ pos above
  range_length below above e f =
      let whole = length-append (filter (λ x. int_lt x lo) xs) (stretch lo hi ++ filter (λ x. int_lt hi x) xs) in
      let behind = length-append (stretch lo hi) (filter (λ x. int_lt hi x) xs) in
      let middle = length-stretch lo hi ordered in
      omega (arith, ints, whole, behind, middle, e, f)

-- 4. Where values are parted
pub from_next : (xs : List ℤ) (a : ℤ) → filter (λ x. int_lt a x) xs ≡ filter (λ x. int_le (a +ℤ pos 1) x) xs
from_next [] a = refl
from_next (x ∷ xs) a = ap (λ t. cond t (x ∷ filter (λ y. int_lt a y) xs) (filter (λ y. int_lt a y) xs)) (sym (next_le a x)) ∙ ap (λ ys. cond (int_le (a +ℤ pos 1) x) (x ∷ ys) ys) (from_next xs a)

-- 5. One more dimension
pub size_more : (dims : List ℕ) (dim : ℕ) → size_of_dims (dims ++ dim ∷ []) ≡ size_of_dims dims * dim
size_more [] dim = omega arith
size_more (d ∷ dims) dim = ap (λ n. d * n) (size_more dims dim) ∙ sym (mul_assoc d (size_of_dims dims) dim)

-- 6. A stretch, number by number
pub stretch_more : (lo hi : ℤ) → lo <ℤ hi → stretch lo hi ≡ lo ∷ stretch (lo +ℤ pos 1) hi
unfolding stretch numbers_from
stretch_more lo hi less = ap (λ n. lo ∷ n) (ap (numbers_from (lo +ℤ pos 1)) gap)
  where
    gap : int_gap lo hi ≡ suc (int_gap (lo +ℤ pos 1) hi)
    gap = let one = plus-int_gap lo hi (omega (arith, ints, less)) in let two = plus-int_gap (lo +ℤ pos 1) hi (omega (arith, ints, less)) in omega (arith, ints, one, two)

pub stretch_one : (lo hi : ℤ) → lo ≤ℤ hi → hi ≤ℤ lo → stretch lo hi ≡ hi ∷ []
unfolding stretch numbers_from
stretch_one lo hi le ge =
    let one = plus-int_gap lo hi le in
    let none : int_gap lo hi ≡ 0 = omega (arith, ints, one, ge) in
    let same : lo ≡ hi = omega (arith, ints, le, ge) in
    ap (λ n. lo ∷ numbers_from (lo +ℤ pos 1) n) none ∙ ap (λ z. z ∷ []) same

pub push_step :
    (items new old : List ℤ) (v w l h : ℤ) → items ++ stretch v h ≡ old ++ stretch l h → l ≤ℤ v → v <ℤ h → w ≡ v +ℤ pos 1 → new ≡ items ++ v ∷ []
    → (new ++ stretch w h ≡ old ++ stretch l h) × (l ≤ℤ w) × (w ≤ℤ h)
push_step items new old v w l h all low less next made = (
  ap (λ n. n ++ stretch w h) made
      ∙ append_assoc items (v ∷ []) (stretch w h)
      ∙ ap (λ z. items ++ v ∷ stretch z h) next
      ∙ ap (λ r. items ++ r) (sym (stretch_more v h less))
      ∙ all,
  omega (arith, ints, low, less, next),
  omega (arith, ints, low, less, next),
)

pub push_end :
    (items new old : List ℤ) (v l h : ℤ) → items ++ stretch v h ≡ old ++ stretch l h → v ≤ℤ h → h ≤ℤ v → new ≡ items ++ h ∷ []
    → new ≡ old ++ stretch l h
push_end items new old v l h all below above made = made ∙ ap (λ r. items ++ r) (sym (stretch_one v h below above)) ∙ all

-- 7. Values with a stretch, as they are put together
pub put_together :
    (xs front middle whole : List ℤ) (lo hi : ℤ) (below to : ℕ) → filter (λ x. int_lt x lo) xs ≡ take below xs → filter (λ x. int_lt hi x) xs ≡ drop to xs
    → front ≡ take below xs → middle ≡ front ++ stretch lo hi → whole ≡ middle ++ drop to xs → whole ≡ with_range xs lo hi
put_together xs front middle whole lo hi below to under over f m w =
    w ∙ ap (λ l. l ++ drop to xs) (m ∙ ap (λ l. l ++ stretch lo hi) (f ∙ sym under)) ∙ append_assoc (filter (λ x. int_lt x lo) xs) (stretch lo hi) (drop to xs)
    ∙ ap (λ l. filter (λ x. int_lt x lo) xs ++ (stretch lo hi ++ l)) (sym over)

pub counted_up :
    (xs : List ℤ) (lo hi : ℤ) (below to middle : ℕ) → lo ≤ℤ hi → below ≤ length xs → to ≤ length xs → filter (λ x. int_lt x lo) xs ≡ take below xs → filter (λ x. int_lt hi x) xs ≡ drop to xs
    → pos middle ≡ (hi -ℤ lo) +ℤ pos 1 → below + middle + (length xs - to) ≡ length (with_range xs lo hi)
counted_up xs lo hi below to middle ordered within also under over m =
    let whole = range_length xs lo hi ordered below (length xs - to) (ap length under ∙ length-take-le below xs within) (ap length over ∙ length-drop to xs) in
    omega (arith, ints, whole, m)

pub range_some : (xs : List ℤ) (lo hi : ℤ) → with_range xs lo hi ≡ [] → ⊥
unfolding stretch numbers_from
range_some xs lo hi none = let behind = (both_nil (filter (λ x. int_lt x lo) xs) (stretch lo hi ++ filter (λ x. int_lt hi x) xs) none).1 in absurd cc
