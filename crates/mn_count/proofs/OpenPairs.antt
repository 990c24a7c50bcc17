-- How many places of two vectors can differ, and values of them that differ there.
use Rattle.std.proofs.Common.{◌≡◌, ◌≢◌, ℕ, zero, suc, ◌+◌, ◌<◌, ◌≤◌, ℤ, pos, ◌+ℤ◌, ◌≤ℤ◌, ◌<ℤ◌, ◌⊎◌, inl, inr, Bool, true, false, ◌&&◌, if◌then◌else◌, List, [], ◌∷◌, length, drop, slice_get, slice_index_or, Some, refl, sym, subst, ap, ◌∙◌, arith, true≢false}
use Rattle.std.proofs.lemmas.Int.{ints}
use Rattle.std.specs.Ordering.{int_eq}
use Rattle.mn_model.specs.declared.constraint.Term.{Term}
use Rattle.mn_boxes.specs.Places.{PlaceHas}
use Rattle.mn_domains.proofs.Filtered.{eq_so, eq_true}
use Rattle.mn_meaning.specs.Families.{differing}
use Rattle.mn_meaning.proofs.Places.{int_eq-other}
use Rattle.mn_closure.specs.Supports.{Choice}
use Rattle.mn_prop.specs.Contexts.{place_hi, place_lo}
use Rattle.mn_count.specs.Distances.{CanDiffer, IsCountedTo, is_one, open_pairs}
use Rattle.mn_count.proofs.Vectors.{AllEnds, HasEnds}

both_true : (s t : Bool) → (s && t) ≡ true → (s ≡ true) × (t ≡ true)
both_true true t e = (refl, e)
both_true false t e = absurd (true≢false (sym e))

one_false : (s t : Bool) → (s && t) ≡ false → (s ≡ false) ⊎ (t ≡ false)
one_false true t e = inr e
one_false false t e = inl refl

eq_not : (a b : ℤ) → int_eq a b ≡ false → a ≢ b
eq_not a b e same = true≢false (sym (eq_true a b same) ∙ e)

-- two places have one value, the same
abbrev pub AreOne : List (List ℤ) → Term → Term → Type 0
AreOne box x y = (a b : ℤ) → PlaceHas box x a → PlaceHas box y b → a ≡ b

module _ (box : List (List ℤ)) where
  -- what the ends say
  pub one_so : (x y : Term) → HasEnds box x → HasEnds box y → is_one box x y ≡ true → AreOne box x y
  one_so x y one two e a b has had =
      let ends = both_true (int_eq (place_lo box x) (place_hi box y)) (int_eq (place_hi box x) (place_lo box y)) e in
      let first = eq_so (place_lo box x) (place_hi box y) ends.0 in
      let second = eq_so (place_hi box x) (place_lo box y) ends.1 in
      let low = one.low a has in
      let high = one.high a has in
      let from = two.low b had in
      let to = two.high b had in
      omega (arith, ints, first, second, low, high, from, to)

  pub two_so : (x y : Term) → HasEnds box x → HasEnds box y → is_one box x y ≡ false → CanDiffer box x y
  two_so x y one two e = by (one_false (int_eq (place_lo box x) (place_hi box y)) (int_eq (place_hi box x) (place_lo box y)) e)
    where
      by : (int_eq (place_lo box x) (place_hi box y) ≡ false) ⊎ (int_eq (place_hi box x) (place_lo box y) ≡ false) → CanDiffer box x y
      by (inl differ) = record { first = place_lo box x; second = place_hi box y; has_first = one.has_lo; has_second = two.has_hi; differ = eq_not (place_lo box x) (place_hi box y) differ }
      by (inr differ) = record { first = place_hi box x; second = place_lo box y; has_first = one.has_hi; has_second = two.has_lo; differ = eq_not (place_hi box x) (place_lo box y) differ }

  -- how much a pair counts
  one_more : (x y : Term) (n : ℕ) → (if is_one box x y then 0 else 1) + n ≤ suc n
  one_more x y n = by (is_one box x y)
    where
      by : (t : Bool) → (if t then 0 else 1) + n ≤ suc n
      by true = omega arith
      by false = omega arith

  pair_counts : (x y : Term) (a b : ℤ) (n m : ℕ) → HasEnds box x → HasEnds box y → PlaceHas box x a → PlaceHas box y b → n ≤ m → (if int_eq a b then 0 else 1) + n ≤ (if is_one box x y then 0 else 1) + m
  pair_counts x y a b n m one two has had less = by (is_one box x y) refl
    where
      by : (t : Bool) → is_one box x y ≡ t → (if int_eq a b then 0 else 1) + n ≤ (if t then 0 else 1) + m
      by true e = rw (eq_true a b (one_so x y one two e a b has had)) (omega (arith, less))
      by false e = of (int_eq a b)
        where
          of : (t : Bool) → (if t then 0 else 1) + n ≤ 1 + m
          of true = omega (arith, less)
          of false = omega (arith, less)

  -- no values differ at more places
  pub at_most_open : (v w : List Term) (xs ys : List ℤ) → AllEnds box v → AllEnds box w → Choice box v xs → Choice box w ys → differing xs ys ≤ open_pairs box v w
  at_most_open [] w [] ys first second one two = omega arith
  at_most_open [] w (a ∷ xs) ys first second one two = absurd one
  at_most_open (x ∷ v) w [] ys first second one two = absurd one
  at_most_open (x ∷ v) [] (a ∷ xs) [] first second one two = omega arith
  at_most_open (x ∷ v) [] (a ∷ xs) (b ∷ ys) first second one two = absurd two
  at_most_open (x ∷ v) (y ∷ w) (a ∷ xs) [] first second one two = absurd two
  at_most_open (x ∷ v) (y ∷ w) (a ∷ xs) (b ∷ ys) first second one two =
      pair_counts x y a b (differing xs ys) (open_pairs box v w) first.0 second.0 one.0 two.0 (at_most_open v w xs ys first.1 second.1 one.1 two.1)

  -- and at fewer, where they are the same at a pair that can differ
  pub fewer_open : (v w : List Term) (xs ys : List ℤ) (i : ℕ) (x y : Term) → AllEnds box v → AllEnds box w → Choice box v xs → Choice box w ys → slice_get v i ≡ Some x → slice_get w i ≡ Some y → is_one box x y ≡ false → slice_index_or xs i (pos 0) ≡ slice_index_or ys i (pos 0) → differing xs ys < open_pairs box v w
  fewer_open [] w xs ys i x y first second one two at_x at_y e same = cc
  fewer_open (u ∷ v) [] xs ys i x y first second one two at_x at_y e same = cc
  fewer_open (u ∷ v) (z ∷ w) [] ys i x y first second one two at_x at_y e same = absurd one
  fewer_open (u ∷ v) (z ∷ w) (a ∷ xs) [] i x y first second one two at_x at_y e same = absurd two
  fewer_open (u ∷ v) (z ∷ w) (a ∷ xs) (b ∷ ys) zero x y first second one two at_x at_y e same =
      let is_x : u ≡ x = cc in
      let is_y : z ≡ y = cc in
      let out : is_one box u z ≡ false = subst (λ t. is_one box t z ≡ false) (sym is_x) (subst (λ t. is_one box x t ≡ false) (sym is_y) e) in
      let less = at_most_open v w xs ys first.1 second.1 one.1 two.1 in
      rw (eq_true a b same, out) (omega (arith, less))
  fewer_open (u ∷ v) (z ∷ w) (a ∷ xs) (b ∷ ys) (suc i) x y first second one two at_x at_y e same =
      let less = fewer_open v w xs ys i x y first.1 second.1 one.1 two.1 at_x at_y e same in
      let all : (if int_eq a b then 0 else 1) + suc (differing xs ys) ≤ (if is_one box u z then 0 else 1) + open_pairs box v w = pair_counts u z a b (suc (differing xs ys)) (open_pairs box v w) first.0 second.0 one.0 two.0 (omega (arith, less)) in
      omega (arith, all)

  -- values that differ wherever they can
  record Most (v w : List Term) : Type 0 where
    pub xs : List ℤ
    pub ys : List ℤ
    pub first : Choice box v xs
    pub second : Choice box w ys
    pub many : open_pairs box v w ≤ differing xs ys

  record Pair (x y : Term) : Type 0 where
    pub one : ℤ
    pub another : ℤ
    pub has_one : PlaceHas box x one
    pub has_another : PlaceHas box y another
    pub counts : (if is_one box x y then 0 else 1) ≤ (if int_eq one another then 0 else 1)

  pair_of : (x y : Term) → HasEnds box x → HasEnds box y → Pair x y
  pair_of x y first second = by (is_one box x y) refl
    where
      by : (t : Bool) → is_one box x y ≡ t → Pair x y
      by true e = record { one = place_lo box x; another = place_lo box y; has_one = first.has_lo; has_another = second.has_lo; counts = rw e (omega arith) }
      by false e =
          let can = two_so x y first second e in
          record { one = can.first; another = can.second; has_one = can.has_first; has_another = can.has_second; counts = rw (e, int_eq-other can.first can.second can.differ) (omega arith) }

  most_of : (v w : List Term) → length w ≡ length v → AllEnds box v → AllEnds box w → Most v w
  most_of [] [] long first second = record { xs = []; ys = []; first = tt; second = tt; many = omega arith }
  most_of [] (y ∷ w) long first second = absurd (omega (arith, long))
  most_of (x ∷ v) [] long first second = absurd (omega (arith, long))
  most_of (x ∷ v) (y ∷ w) long first second =
      let p = pair_of x y first.0 second.0 in
      let rest = most_of v w (omega (arith, long)) first.1 second.1 in
      let counts = p.counts in
      let many = rest.many in
      record { xs = p.one ∷ rest.xs; ys = p.another ∷ rest.ys; first = (p.has_one, rest.first); second = (p.has_another, rest.second); many = omega (arith, counts, many) }

  -- and with two given values at a pair, wherever they can elsewhere; and there, too, if these differ, or the pair can't
  pub record MostWith (v w : List Term) (i : ℕ) (x y : Term) (a b : ℤ) : Type 0 where
    pub xs : List ℤ
    pub ys : List ℤ
    pub first : Choice box v xs
    pub second : Choice box w ys
    pub one : slice_index_or xs i (pos 0) ≡ a
    pub another : slice_index_or ys i (pos 0) ≡ b
    pub nearly : open_pairs box v w ≤ differing xs ys + 1
    pub all : (a ≢ b) ⊎ (is_one box x y ≡ true) → open_pairs box v w ≤ differing xs ys

  pub most_with : (v w : List Term) (i : ℕ) (x y : Term) (a b : ℤ) → length w ≡ length v → AllEnds box v → AllEnds box w → slice_get v i ≡ Some x → slice_get w i ≡ Some y → PlaceHas box x a → PlaceHas box y b → MostWith v w i x y a b
  most_with [] w i x y a b long first second at_x at_y has had = cc
  most_with (u ∷ v) [] i x y a b long first second at_x at_y has had = cc
  most_with (u ∷ v) (z ∷ w) zero x y a b long first second at_x at_y has had =
      let is_x : u ≡ x = cc in
      let is_y : z ≡ y = cc in
      let rest = most_of v w (omega (arith, long)) first.1 second.1 in
      let many = rest.many in
      let more = one_more u z (open_pairs box v w) in
      record {
        xs = a ∷ rest.xs;
        ys = b ∷ rest.ys;
        first = (subst (λ t. PlaceHas box t a) (sym is_x) has, rest.first);
        second = (subst (λ t. PlaceHas box t b) (sym is_y) had, rest.second);
        one = refl;
        another = refl;
        nearly = nearly (differing rest.xs rest.ys) many more;
        all = λ e. whole (differing rest.xs rest.ys) many more (is_x, is_y) e;
      }
    where
      nearly : (n : ℕ) → open_pairs box v w ≤ n → (if is_one box u z then 0 else 1) + open_pairs box v w ≤ suc (open_pairs box v w) → (if is_one box u z then 0 else 1) + open_pairs box v w ≤ (if int_eq a b then 0 else 1) + n + 1
      nearly n many more = omega (arith, many, more)

      whole : (n : ℕ) → open_pairs box v w ≤ n → (if is_one box u z then 0 else 1) + open_pairs box v w ≤ suc (open_pairs box v w) → (u ≡ x) × (z ≡ y) → (a ≢ b) ⊎ (is_one box x y ≡ true) → (if is_one box u z then 0 else 1) + open_pairs box v w ≤ (if int_eq a b then 0 else 1) + n
      whole n many more same (inl differ) = rw (int_eq-other a b differ) (omega (arith, many, more))
      whole n many more same (inr e) =
          let is : is_one box u z ≡ true = subst (λ t. is_one box t z ≡ true) (sym same.0) (subst (λ t. is_one box x t ≡ true) (sym same.1) e) in
          rw is (omega (arith, many))
  most_with (u ∷ v) (z ∷ w) (suc i) x y a b long first second at_x at_y has had =
      let p = pair_of u z first.0 second.0 in
      let rest = most_with v w i x y a b (omega (arith, long)) first.1 second.1 at_x at_y has had in
      let counts = p.counts in
      let nearly = rest.nearly in
      record {
        xs = p.one ∷ rest.xs;
        ys = p.another ∷ rest.ys;
        first = (p.has_one, rest.first);
        second = (p.has_another, rest.second);
        one = rest.one;
        another = rest.another;
        nearly = omega (arith, counts, nearly);
        all = λ e. (let all = rest.all e in omega (arith, counts, all));
      }

-- ---- counting from the front

no_second : (box : List (List ℤ)) (us : List Term) → open_pairs box us [] ≡ 0
no_second box [] = refl
no_second box (u ∷ us) = refl

pub none_left : (box : List (List ℤ)) (n : ℕ) (v w : List Term) → length v ≤ n → open_pairs box (drop n v) (drop n w) ≡ 0
none_left box zero [] w past = refl
none_left box zero (x ∷ v) w past = absurd (omega (arith, past))
none_left box (suc n) [] w past = refl
none_left box (suc n) (x ∷ v) [] past = no_second box (drop n v)
none_left box (suc n) (x ∷ v) (y ∷ w) past = none_left box n v w (omega (arith, past))

pub next_left : (box : List (List ℤ)) (i : ℕ) (v w : List Term) (x y : Term) → slice_get v i ≡ Some x → slice_get w i ≡ Some y → open_pairs box (drop i v) (drop i w) ≡ (if is_one box x y then 0 else 1) + open_pairs box (drop (suc i) v) (drop (suc i) w)
next_left box i [] w x y at_x at_y = cc
next_left box i (u ∷ v) [] x y at_x at_y = cc
next_left box zero (u ∷ v) (z ∷ w) x y at_x at_y =
    let is_x : u ≡ x = cc in
    let is_y : z ≡ y = cc in
    ap (λ t. (if is_one box t z then 0 else 1) + open_pairs box v w) is_x ∙ ap (λ t. (if is_one box x t then 0 else 1) + open_pairs box v w) is_y
next_left box (suc i) (u ∷ v) (z ∷ w) x y at_x at_y = next_left box i v w x y at_x at_y

-- the pairs so far that can differ and those of the rest are all
pub record Counts (box : List (List ℤ)) (v w : List Term) (i : ℕ) (count : ℤ) : Type 0 where
  pub some : pos 0 ≤ℤ count
  pub few : count ≤ℤ pos i
  pub whole : count +ℤ pos (open_pairs box (drop i v) (drop i w)) ≡ pos (open_pairs box v w)

pub none_counted : (box : List (List ℤ)) (v w : List Term) → Counts box v w 0 (pos 0)
none_counted box v w = record { some = omega (arith, ints); few = omega (arith, ints); whole = omega (arith, ints) }

counted : (box : List (List ℤ)) (v w : List Term) (i : ℕ) (count : ℤ) (x y : Term) (n : ℕ) → (if is_one box x y then 0 else 1) ≡ n → n ≤ 1 → slice_get v i ≡ Some x → slice_get w i ≡ Some y → Counts box v w i count → Counts box v w (i + 1) (count +ℤ pos n)
counted box v w i count x y n is low at_x at_y c =
    let next = next_left box i v w x y at_x at_y in
    let some = c.some in
    let few = c.few in
    let whole = c.whole in
    let step : open_pairs box (drop i v) (drop i w) ≡ n + open_pairs box (drop (suc i) v) (drop (suc i) w) = next ∙ ap (λ m. m + open_pairs box (drop (suc i) v) (drop (suc i) w)) is in
    let sum : (count +ℤ pos n) +ℤ pos (open_pairs box (drop (suc i) v) (drop (suc i) w)) ≡ pos (open_pairs box v w) = omega (arith, ints, whole, step) in
    record { some = omega (arith, ints, some); few = omega (arith, ints, few, low); whole = (let next : suc i ≡ i + 1 = omega arith in subst (λ m. (count +ℤ pos n) +ℤ pos (open_pairs box (drop m v) (drop m w)) ≡ pos (open_pairs box v w)) next sum) }

pub open_counted : (box : List (List ℤ)) (v w : List Term) (i : ℕ) (count : ℤ) (x y : Term) → is_one box x y ≡ false → slice_get v i ≡ Some x → slice_get w i ≡ Some y → Counts box v w i count → Counts box v w (i + 1) (count +ℤ pos 1)
open_counted box v w i count x y e at_x at_y c = counted box v w i count x y 1 (ap (λ (t : Bool). if t then 0 else 1) e) (omega arith) at_x at_y c

pub one_passed : (box : List (List ℤ)) (v w : List Term) (i : ℕ) (count : ℤ) (x y : Term) → is_one box x y ≡ true → slice_get v i ≡ Some x → slice_get w i ≡ Some y → Counts box v w i count → Counts box v w (i + 1) count
one_passed box v w i count x y e at_x at_y c = (let same : count +ℤ pos 0 ≡ count = omega (arith, ints) in subst (Counts box v w (i + 1)) same) (counted box v w i count x y 0 (ap (λ (t : Bool). if t then 0 else 1) e) (omega arith) at_x at_y c)

pub all_counted : (box : List (List ℤ)) (v w : List Term) (i : ℕ) (count : ℤ) → length v ≤ i → Counts box v w i count → count ≡ pos (open_pairs box v w)
all_counted box v w i count past c =
    let none = none_left box i v w past in
    let whole = c.whole in
    omega (arith, ints, none, whole)

-- there are more of them than have to differ
pub enough_counted : (box : List (List ℤ)) (v w : List Term) (i : ℕ) (least count : ℤ) → least <ℤ count → Counts box v w i count → IsCountedTo least box v w count
enough_counted box v w i least count more c = let whole = c.whole in inr (more, omega (arith, ints, more, whole))

-- what the number says of all
pub few_open : (box : List (List ℤ)) (v w : List Term) (least count : ℤ) → IsCountedTo least box v w count → count <ℤ least → pos (open_pairs box v w) <ℤ least
few_open box v w least count (inl is) few = omega (arith, ints, is, few)
few_open box v w least count (inr more) few = let above = more.0 in absurd (omega (arith, ints, above, few))

pub many_open : (box : List (List ℤ)) (v w : List Term) (least count : ℤ) → IsCountedTo least box v w count → least <ℤ count → least <ℤ pos (open_pairs box v w)
many_open box v w least count (inl is) many = omega (arith, ints, is, many)
many_open box v w least count (inr more) many = more.1

pub just_open : (box : List (List ℤ)) (v w : List Term) (least count : ℤ) → IsCountedTo least box v w count → count ≡ least → pos (open_pairs box v w) ≡ least
just_open box v w least count (inl is) same = sym is ∙ same
just_open box v w least count (inr more) same = let above = more.0 in absurd (omega (arith, ints, above, same))
