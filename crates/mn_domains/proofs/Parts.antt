-- Parts of listed values.
use Rattle.std.proofs.Common.{◌≡◌, ℕ, zero, suc, ◌+◌, ◌-◌, ◌<◌, ◌≤◌, ℤ, ◌≤ℤ◌, pos, ◌+ℤ◌, ◌⊎◌, inl, inr, int_le, int_lt, List, [], ◌∷◌, length, filter, take, drop, slice_get, slice_range, get_or, nat_eq, IsTrue, FitsSigned, to_z, of_z, w64, Some, refl, sym, subst, ap, ◌∙◌, arith}
use Rattle.std.proofs.lemmas.Int.{ints, to_z-of_z}
use Rattle.std.proofs.lemmas.Bool.Decides.{nat_tests}
use Rattle.std.proofs.lemmas.List.{length-drop, length-take-le, get_or-take, get_or-drop, drop-drop, drop-take, take-take, drop_all}
use Rattle.std.specs.Ordering.{int_eq}
use Rattle.std.proofs.lemmas.Bool.{cases_lt}
use Rattle.std.proofs.lemmas.Option.{slice_get-get_or}
use Rattle.mn_model.specs.Domain.{Ascends, Has, IsFirst, IsLast}
use Rattle.mn_model.proofs.Ordered.{has_at, has_take, above_all, all_above, le_so, le_true}
use Rattle.mn_model.proofs.Filtered.{filter_ascends, filter_has, has_filter}
use Rattle.mn_boxes.proofs.Members.{stands_first, stands_last, is_first, is_last}
use Rattle.mn_domains.specs.Held.{AreEndsOf, part_of}
use Rattle.mn_domains.specs.declared.shape.Ends.{Ends}
use Rattle.mn_domains.proofs.EndLemmas.{ends_of, between_ends, has_hi}
use Rattle.mn_domains.proofs.Filtered.{filter_alike, filter_single}

-- how long a part is
pub length-part : (listed : List ℤ) (e : Ends) → e.place + e.size ≤ length listed → length (part_of listed e) ≡ e.size
length-part listed e room = length-take-le e.size (drop e.place listed) (omega (arith, length-drop e.place listed))

-- the same part without the first k values
pub drop-part : (listed : List ℤ) (place size k : ℕ) → k ≤ size → drop k (take size (drop place listed)) ≡ take (size - k) (drop (place + k) listed)
drop-part listed place size k within =
    let all : size ≡ k + (size - k) = omega arith in
    ap (λ n. drop k (take n (drop place listed))) all ∙ (drop-take k (size - k) (drop place listed) ∙ ap (take (size - k)) (drop-drop k place listed))

-- the part from place k on, which begins with the least value that is at least a
pub record CutLow (listed : List ℤ) (e result : Ends) (a : ℤ) (k : ℕ) : Type 0 where
  pub within : k < e.size
  pub ends : AreEndsOf (part_of listed result) result
  pub values : part_of listed result ≡ filter (λ x. int_le a x) (part_of listed e)

pub skipped_less : (listed : List ℤ) (e : Ends) (a : ℤ) (k : ℕ) → e.place + e.size ≤ length listed → Ascends (part_of listed e) → AreEndsOf (part_of listed e) e → a ≤ℤ e.hi
    → filter (λ x. int_le a x) (part_of listed e) ≡ drop k (part_of listed e) → k < e.size
skipped_less listed e a k room up ends high rest = by (cases_lt k e.size)
  where
    by : (k < e.size) ⊎ (e.size ≤ k) → k < e.size
    by (inl less) = less
    by (inr past) =
        let hi_there = filter_has (λ x. int_le a x) (part_of listed e) e.hi (has_hi (part_of listed e) e up ends) (le_true a e.hi high) in
        let none : drop k (part_of listed e) ≡ [] = drop_all k (part_of listed e) (omega (arith, length-part listed e room)) in
        absurd (subst (λ ys. Has ys e.hi) (rest ∙ none) hi_there)

pub cut_low_part : (listed : List ℤ) (e : Ends) (a : ℤ) (k : ℕ) → e.place + e.size ≤ length listed → Ascends (part_of listed e) → AreEndsOf (part_of listed e) e → a ≤ℤ e.hi
    → filter (λ x. int_le a x) (part_of listed e) ≡ drop k (part_of listed e)
    → CutLow listed e (record { lo = get_or listed (e.place + k) (pos 0); hi = e.hi; size = e.size - k; place = e.place + k }) a k
cut_low_part listed e a k room up ends high rest =
    let within = skipped_less listed e a k room up ends high rest in
    let result : Ends = record { lo = get_or listed (e.place + k) (pos 0); hi = e.hi; size = e.size - k; place = e.place + k } in
    let values : part_of listed result ≡ filter (λ x. int_le a x) (part_of listed e) = sym (rest ∙ drop-part listed e.place e.size k (omega arith)) in
    let up_there : Ascends (part_of listed result) = subst Ascends (sym values) (filter_ascends (λ x. int_le a x) (part_of listed e) up) in
    let long : length (part_of listed result) ≡ e.size - k = length-part listed result (omega arith) in
    let first : IsFirst result.lo (part_of listed result) =
    slice_get-get_or (part_of listed result) 0 (pos 0) (omega arith) ∙ ap Some (get_or-take (e.size - k) (drop (e.place + k) listed) 0 (pos 0) (omega arith) ∙ (get_or-drop (e.place + k) listed 0 (pos 0) ∙ ap (λ n. get_or listed n (pos 0)) (omega arith))) in
    let l = stands_last (part_of listed e) e.hi up ends.last in
    let last : IsLast e.hi (part_of listed result) = is_last (part_of listed result) e.hi up_there (record {
      has = subst (λ ys. Has ys e.hi) (sym values) (filter_has (λ x. int_le a x) (part_of listed e) e.hi l.has (le_true a e.hi high));
      others = λ b has. l.others b (has_filter (λ x. int_le a x) (part_of listed e) b (subst (λ ys. Has ys b) values has)).has;
    }) in
    record { within = within; ends = ends_of (part_of listed result) result up_there first last (sym long); values = values }

-- the part up to place k, which ends with the greatest value that is at most a
pub record CutHigh (listed : List ℤ) (e result : Ends) (a : ℤ) (k : ℕ) : Type 0 where
  pub some : 1 ≤ k
  pub ends : AreEndsOf (part_of listed result) result
  pub values : part_of listed result ≡ filter (λ x. int_le x a) (part_of listed e)

le_lt_next : (x a : ℤ) → int_lt x (a +ℤ pos 1) ≡ int_le x a
le_lt_next x a = grind (arith, ints)

pub cut_high_part : (listed : List ℤ) (e : Ends) (a : ℤ) (k : ℕ) → e.place + e.size ≤ length listed → Ascends (part_of listed e) → AreEndsOf (part_of listed e) e → e.lo ≤ℤ a
    → k ≤ length (part_of listed e) → filter (λ x. int_lt x (a +ℤ pos 1)) (part_of listed e) ≡ take k (part_of listed e)
    → CutHigh listed e (record { lo = e.lo; hi = get_or listed (e.place + k - 1) (pos 0); size = k; place = e.place }) a k
cut_high_part listed e a k room up ends low within front =
    let result : Ends = record { lo = e.lo; hi = get_or listed (e.place + k - 1) (pos 0); size = k; place = e.place } in
    let few : k ≤ e.size = omega (arith, length-part listed e room) in
    let same : filter (λ x. int_lt x (a +ℤ pos 1)) (part_of listed e) ≡ filter (λ x. int_le x a) (part_of listed e) = filter_alike (λ x. int_lt x (a +ℤ pos 1)) (λ x. int_le x a) (part_of listed e) (λ x has. le_lt_next x a) in
    let values : part_of listed result ≡ filter (λ x. int_le x a) (part_of listed e) = sym (take-take k e.size (drop e.place listed) few) ∙ (sym front ∙ same) in
    let up_there : Ascends (part_of listed result) = subst Ascends (sym values) (filter_ascends (λ x. int_le x a) (part_of listed e) up) in
    let long : length (part_of listed result) ≡ k = length-part listed result (omega arith) in
    let f = stands_first (part_of listed e) e.lo up ends.first in
    let there : Has (part_of listed result) e.lo = subst (λ ys. Has ys e.lo) (sym values) (filter_has (λ x. int_le x a) (part_of listed e) e.lo f.has (le_true e.lo a low)) in
    let some : 1 ≤ k = some_of k there in
    let first : IsFirst e.lo (part_of listed result) = is_first (part_of listed result) e.lo up_there (record {
      has = there;
      others = λ b has. f.others b (has_filter (λ x. int_le x a) (part_of listed e) b (subst (λ ys. Has ys b) values has)).has;
    }) in
    let last : IsLast result.hi (part_of listed result) =
    slice_get-get_or (part_of listed result) (length (part_of listed result) - 1) (pos 0) (omega arith)
    ∙ ap Some (ap (λ n. get_or (part_of listed result) (n - 1) (pos 0)) long ∙ (get_or-take k (drop e.place listed) (k - 1) (pos 0) (omega arith) ∙ (get_or-drop e.place listed (k - 1) (pos 0) ∙ ap (λ n. get_or listed n (pos 0)) (omega arith)))) in
    record { some = some; ends = ends_of (part_of listed result) result up_there first last (sym long); values = values }
  where
    some_of : (n : ℕ) → Has (take n (drop e.place listed)) e.lo → 1 ≤ n
    some_of zero has = absurd has
    some_of (suc n) has = omega arith

-- the part with one value
pub record Alone (listed : List ℤ) (e result : Ends) (a : ℤ) (k : ℕ) : Type 0 where
  pub within : k < e.size
  pub ends : AreEndsOf (part_of listed result) result
  pub values : part_of listed result ≡ filter (λ x. int_eq x a) (part_of listed e)

take-one : (xs : List ℤ) (a : ℤ) → slice_get xs 0 ≡ Some a → take 1 xs ≡ a ∷ []
take-one [] a is = cc
take-one (x ∷ xs) a is = let same : x ≡ a = cc in ap (λ y. y ∷ []) same

slice_get-take : (n : ℕ) (xs : List ℤ) (a : ℤ) → slice_get (take n xs) 0 ≡ Some a → slice_get xs 0 ≡ Some a
slice_get-take zero xs a is = cc
slice_get-take (suc n) [] a is = is
slice_get-take (suc n) (x ∷ xs) a is = is

pub alone_part : (listed : List ℤ) (e : Ends) (a : ℤ) (k : ℕ) → e.place + e.size ≤ length listed → Ascends (part_of listed e) → AreEndsOf (part_of listed e) e → Has (part_of listed e) a
    → filter (λ x. int_le a x) (part_of listed e) ≡ drop k (part_of listed e)
    → Alone listed e (record { lo = a; hi = a; size = 1; place = e.place + k }) a k
alone_part listed e a k room up ends has rest =
    let result : Ends = record { lo = a; hi = a; size = 1; place = e.place + k } in
    let between = between_ends (part_of listed e) e a up ends has in
    let within = skipped_less listed e a k room up ends between.high rest in
    let left = filter (λ x. int_le a x) (part_of listed e) in
    let first : slice_get left 0 ≡ Some a = is_first left a (filter_ascends (λ x. int_le a x) (part_of listed e) up) (record {
      has = filter_has (λ x. int_le a x) (part_of listed e) a has (le_true a a (omega (arith, ints)));
      others = λ b there. le_so a b (has_filter (λ x. int_le a x) (part_of listed e) b there).passes;
    }) in
    let part : slice_get (take (e.size - k) (drop (e.place + k) listed)) 0 ≡ Some a = ap (λ ys. slice_get ys 0) (sym (rest ∙ drop-part listed e.place e.size k (omega arith))) ∙ first in
    let one : part_of listed result ≡ a ∷ [] = take-one (drop (e.place + k) listed) a (slice_get-take (e.size - k) (drop (e.place + k) listed) a part) in
    record {
      within = within;
      ends = subst (λ ys. AreEndsOf ys result) (sym one) (record { ordered = omega (arith, ints); first = refl; last = refl; size = refl });
      values = one ∙ sym (filter_single (part_of listed e) a up has);
    }

-- ---- parts of a listing

pub Ascends-take : (n : ℕ) (xs : List ℤ) → Ascends xs → Ascends (take n xs)
Ascends-take zero xs up = tt
Ascends-take (suc n) [] up = tt
Ascends-take (suc n) (x ∷ xs) up = (all_above x (take n xs) (λ a has. above_all x xs a up.0 (has_take n xs a has)), Ascends-take n xs up.1)

pub Ascends-drop : (n : ℕ) (xs : List ℤ) → Ascends xs → Ascends (drop n xs)
Ascends-drop zero xs up = up
Ascends-drop (suc n) [] up = tt
Ascends-drop (suc n) (x ∷ xs) up = Ascends-drop n xs up.1

-- a part lies in a listing around it
pub part_within : (listed : List ℤ) (from to : ℕ) (e : Ends) → from ≤ e.place → e.place + e.size ≤ to → take e.size (drop (e.place - from) (slice_range listed from to)) ≡ part_of listed e
part_within listed from to e low high =
    let inner : drop (e.place - from) (take (to - from) (drop from listed)) ≡ take (to - from - (e.place - from)) (drop e.place listed) = drop-part listed from (to - from) (e.place - from) (omega arith) ∙ ap (λ n. take (to - from - (e.place - from)) (drop n listed)) (omega arith) in
    ap (take e.size) inner ∙ take-take e.size (to - from - (e.place - from)) (drop e.place listed) (omega arith)

pub Ascends-part : (listed : List ℤ) (from to : ℕ) (e : Ends) → Ascends (slice_range listed from to) → from ≤ e.place → e.place + e.size ≤ to → Ascends (part_of listed e)
Ascends-part listed from to e up low high = subst Ascends (part_within listed from to e low high) (Ascends-take e.size (drop (e.place - from) (slice_range listed from to)) (Ascends-drop (e.place - from) (slice_range listed from to) up))

-- ---- a search

-- the value at the place where those that are at least a begin is a, if a is there
pub record Searched (xs : List ℤ) (a : ℤ) (k : ℕ) : Type 0 where
  pub here : k < length xs → get_or xs k (pos 0) ≡ a → Has xs a
  pub there : Has xs a → get_or xs k (pos 0) ≡ a
  pub within : Has xs a → k < length xs

get_or-first : (xs : List ℤ) (a : ℤ) → slice_get xs 0 ≡ Some a → get_or xs 0 (pos 0) ≡ a
get_or-first [] a is = cc
get_or-first (x ∷ xs) a is = cc

first_dropped : (xs : List ℤ) (k : ℕ) (a : ℤ) → slice_get (drop k xs) 0 ≡ Some a → k < length xs
first_dropped [] zero a is = cc
first_dropped [] (suc k) a is = cc
first_dropped (x ∷ xs) zero a is = omega arith
first_dropped (x ∷ xs) (suc k) a is = let less = first_dropped xs k a is in omega arith

pub searched_part : (xs : List ℤ) (a : ℤ) (k : ℕ) → Ascends xs → filter (λ x. int_le a x) xs ≡ drop k xs → Searched xs a k
searched_part xs a k up rest = record {
  here = λ within is. subst (Has xs) is (has_at xs k (pos 0) within);
  there = λ has. sym (ap (λ n. get_or xs n (pos 0)) (omega arith)) ∙ (sym (get_or-drop k xs 0 (pos 0)) ∙ get_or-first (drop k xs) a (first has));
  within = λ has. first_dropped xs k a (first has);
}
  where
    first : Has xs a → slice_get (drop k xs) 0 ≡ Some a
    first has = ap (λ ys. slice_get ys 0) (sym rest) ∙ is_first (filter (λ x. int_le a x) xs) a (filter_ascends (λ x. int_le a x) xs up) (record {
      has = filter_has (λ x. int_le a x) xs a has (le_true a a (omega (arith, ints)));
      others = λ b there. le_so a b (has_filter (λ x. int_le a x) xs b there).passes;
    })

-- words are the same where the numbers are
pub words_same : (x y : ℤ) → FitsSigned w64 x → FitsSigned w64 y → IsTrue (nat_eq (of_z w64 x) (of_z w64 y)) → x ≡ y
words_same x y fits_x fits_y t =
    let same : of_z w64 x ≡ of_z w64 y = grind (arith, nat_tests) in
    sym (to_z-of_z w64 x fits_x) ∙ (ap (to_z w64) same ∙ to_z-of_z w64 y fits_y)

pub same_words : (x y : ℤ) → x ≡ y → IsTrue (nat_eq (of_z w64 x) (of_z w64 y))
same_words x y is = let same : of_z w64 x ≡ of_z w64 y = ap (of_z w64) is in grind (arith, nat_tests)
