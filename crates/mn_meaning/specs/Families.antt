-- What is common to the meanings of many constraints, of lists of values.
use Rattle.std.specs.Prelude.{◌≡◌, ◌≢◌, ℕ, zero, suc, ◌+◌, ℤ, pos, negsuc, neg_ℤ, ◌+ℤ◌, ◌*ℤ◌, ◌<ℤ◌, ◌≤ℤ◌, ◌⊎◌, if◌then◌else◌, Bool, true, false, List, [], ◌∷◌, take, drop, ◌/◌, refl, ◌↔◌, length, slice_get, Option, Some, None}
use Rattle.std.specs.Int.{int_div_euclid}
use Rattle.std.specs.List.{AllByRecursion}
use Rattle.std.specs.Ordering.{int_eq}
use Rattle.std.specs.Prelude.{int_lt}
use Rattle.std.proofs.Common.{inl, inr}
use Rattle.mn_model.specs.Decided.{Decided, decide_int, decide_at_most, decide_below, decide_not, decide_both, decide_either, decide_never, decide_all}
use Rattle.mn_model.specs.Domain.{Has}
use Rattle.mn_model.specs.Members.{HasMember}

-- the sum of the values, 0 of none
abbrev pub sum_of : List ℤ → ℤ
sum_of [] = pos 0
sum_of (a ∷ values) = a +ℤ sum_of values

-- the sum of each value times its weight
abbrev pub weighted_sum : List ℤ → List ℤ → ℤ
weighted_sum [] values = pos 0
weighted_sum (k ∷ weights) [] = pos 0
weighted_sum (k ∷ weights) (a ∷ values) = (k *ℤ a) +ℤ weighted_sum weights values

-- a is the greatest of the values; there is none of no values
abbrev pub IsGreatest : List ℤ → ℤ → Type 0
IsGreatest values a = Has values a × AllByRecursion (λ b. b ≤ℤ a) values

abbrev pub IsLeast : List ℤ → ℤ → Type 0
IsLeast values a = Has values a × AllByRecursion (λ b. a ≤ℤ b) values

-- b is at most a, or else at least
abbrev pub IsWithin : Bool → ℤ → ℤ → Type 0
IsWithin true a b = b ≤ℤ a
IsWithin false a b = a ≤ℤ b

-- a is the greatest of the values, or else the least
abbrev pub IsExtreme : Bool → List ℤ → ℤ → Type 0
IsExtreme greatest values a = Has values a × AllByRecursion (IsWithin greatest a) values

-- how many of the values are a
abbrev pub occurrences : ℤ → List ℤ → ℕ
occurrences a [] = 0
occurrences a (b ∷ values) = (if int_eq b a then 1 else 0) + occurrences a values

-- at how many places two lists have the same value
abbrev pub agreeing : List ℤ → List ℤ → ℕ
agreeing [] ys = 0
agreeing (a ∷ xs) [] = 0
agreeing (a ∷ xs) (b ∷ ys) = (if int_eq a b then 1 else 0) + agreeing xs ys

-- at how many places they have different ones
abbrev pub differing : List ℤ → List ℤ → ℕ
differing [] ys = 0
differing (a ∷ xs) [] = 0
differing (a ∷ xs) (b ∷ ys) = (if int_eq a b then 0 else 1) + differing xs ys

-- how many values there are, equal ones counted once
abbrev pub distinct_count : List ℤ → ℕ
distinct_count [] = 0
distinct_count (a ∷ values) = (if int_lt (pos 0) (pos (occurrences a values)) then 0 else 1) + distinct_count values

-- the value at an index, counted from 0
abbrev pub IsEntry : List ℤ → ℤ → ℤ → Type 0
IsEntry values (pos i) a = slice_get values i ≡ Some a
IsEntry values (negsuc i) a = ⊥

-- a comes before b in lexicographic order, at their first difference
abbrev pub IsBelow : List ℤ → List ℤ → Type 0
IsBelow [] ys = ⊥
IsBelow (a ∷ xs) [] = ⊥
IsBelow (a ∷ xs) (b ∷ ys) = (a <ℤ b) ⊎ ((a ≡ b) × IsBelow xs ys)

-- no two of the values are equal
abbrev pub AllDiffer : List ℤ → Type 0
AllDiffer [] = Unit {0}
AllDiffer (a ∷ values) = AllByRecursion (λ b. a ≢ b) values × AllDiffer values

-- a is in one of the intervals, which are pairs of ends
abbrev pub InIntervals : List ℤ → ℤ → Type 0
InIntervals [] a = ⊥
InIntervals (lo ∷ []) a = ⊥
InIntervals (lo ∷ hi ∷ others) a = ((lo ≤ℤ a) × (a ≤ℤ hi)) ⊎ InIntervals others a

-- the quotient rounded down, of a divisor other than 0
abbrev pub quotient : ℤ → ℤ → ℤ
quotient a b = if int_lt b (pos 0) then int_div_euclid (neg_ℤ a) (neg_ℤ b) else int_div_euclid a b

-- each of these can be decided
pub decide_has : (values : List ℤ) (a : ℤ) → Decided (Has values a)
decide_has [] a = decide_never
decide_has (b ∷ values) a = decide_either (decide_int b a) (decide_has values a)

pub decide_greatest : (values : List ℤ) (a : ℤ) → Decided (IsGreatest values a)
decide_greatest values a = decide_both (decide_has values a) (decide_all (λ b. decide_at_most b a) values)

pub decide_least : (values : List ℤ) (a : ℤ) → Decided (IsLeast values a)
decide_least values a = decide_both (decide_has values a) (decide_all (λ b. decide_at_most a b) values)

decide_some : (entry : Option ℤ) (a : ℤ) → Decided (entry ≡ Some a)
decide_some None a = inr (λ e. cc)
decide_some (Some b) a = by (decide_int b a)
  where
    by : Decided (b ≡ a) → Decided (Some b ≡ Some a)
    by (inl same) = inl (λ i. Some (same i))
    by (inr differs) = inr (λ e. differs (some_so e))
      where
        some_so : Some b ≡ Some a → b ≡ a
        some_so e = cc

pub decide_entry : (values : List ℤ) (index a : ℤ) → Decided (IsEntry values index a)
decide_entry values (pos i) a = decide_some (slice_get values i) a
decide_entry values (negsuc i) a = decide_never

pub decide_lexically : (xs ys : List ℤ) → Decided (IsBelow xs ys)
decide_lexically [] ys = decide_never
decide_lexically (a ∷ xs) [] = decide_never
decide_lexically (a ∷ xs) (b ∷ ys) = decide_either (decide_below a b) (decide_both (decide_int a b) (decide_lexically xs ys))

pub decide_differ : (values : List ℤ) → Decided (AllDiffer values)
decide_differ [] = inl tt
decide_differ (a ∷ values) = decide_both (decide_all (λ b. decide_not (decide_int a b)) values) (decide_differ values)

pub decide_intervals : (ends : List ℤ) (a : ℤ) → Decided (InIntervals ends a)
decide_intervals [] a = decide_never
decide_intervals (lo ∷ []) a = decide_never
decide_intervals (lo ∷ hi ∷ others) a = decide_either (decide_both (decide_at_most lo a) (decide_at_most a hi)) (decide_intervals others a)

-- the tuples that cells make, the first `count` of them
abbrev pub cut : ℕ → ℕ → List ℤ → List (List ℤ)
cut zero arity cells = []
cut (suc count) arity cells = take arity cells ∷ cut count arity (drop arity cells)

-- all tuples that cells make
abbrev pub rows_of : ℕ → List ℤ → List (List ℤ)
rows_of arity cells = cut (length cells / arity) arity cells

pub decide_same : (xs ys : List ℤ) → Decided (xs ≡ ys)
decide_same [] [] = inl refl
decide_same [] (b ∷ ys) = inr (λ e. cc)
decide_same (a ∷ xs) [] = inr (λ e. cc)
decide_same (a ∷ xs) (b ∷ ys) = by (decide_both (decide_int a b) (decide_same xs ys))
  where
    heads : a ∷ xs ≡ b ∷ ys → a ≡ b
    heads e = cc

    tails : a ∷ xs ≡ b ∷ ys → xs ≡ ys
    tails e = cc

    by : Decided ((a ≡ b) × (xs ≡ ys)) → Decided (a ∷ xs ≡ b ∷ ys)
    by (inl both) = inl (λ i. both.0 i ∷ both.1 i)
    by (inr differ) = inr (λ e. differ (heads e, tails e))

pub decide_member : (rows : List (List ℤ)) (values : List ℤ) → Decided (HasMember rows values)
decide_member [] values = decide_never
decide_member (row ∷ rows) values = decide_either (decide_same row values) (decide_member rows values)

pub decide_exactly : {P Q : Type 0} → Decided P → Decided Q → Decided (P ↔ Q)
decide_exactly (inl p) (inl q) = inl (λ p. q, λ q. p)
decide_exactly (inl p) (inr not) = inr (λ same. not (same.0 p))
decide_exactly (inr not) (inl q) = inr (λ same. not (same.1 q))
decide_exactly (inr not) (inr nor) = inl (λ p. absurd (not p), λ q. absurd (nor q))

pub decide_implies : {P Q : Type 0} → Decided P → Decided Q → Decided (P → Q)
decide_implies p (inl q) = inl (λ p. q)
decide_implies (inl p) (inr not) = inr (λ f. not (f p))
decide_implies (inr not) (inr nor) = inl (λ p. absurd (not p))
