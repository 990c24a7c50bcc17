-- A list of values that rise, as it is searched and as a domain keeps it.
use Rattle.std.proofs.Common.{◌≡◌, ℕ, zero, suc, ◌-◌, ◌<◌, ◌≤◌, ℤ, ◌<ℤ◌, ◌≤ℤ◌, inl, inr, ◌↔◌, IsTrue, List, [], ◌∷◌, length, slice_get, slice_index_or, Some, Bool, true, false, true≢false, int_le, nat_lt, Ordering, Less, Equal, Greater, Result, Ok, Err, is_ok, refl, sym, subst, ◌∙◌, arith}
use Rattle.std.proofs.lemmas.Int.{ints}
use Rattle.std.proofs.lemmas.Bool.Decides.{nat_tests}
use Rattle.std.specs.Cmp.{int_ranks}
use Rattle.std.specs.List.{AllByRecursion}
use Rattle.std.specs.List.Sorted.{IsBinarySearchResult, IsSearchInRange}
use Rattle.std.specs.Ordering.{MatchOrdering, int_cmp, ordering_index}
use Rattle.std.proofs.lemmas.Option.{get_or_from_slice_get}
use Rattle.mn_model.specs.Domain.{Ascends, Has, IsValue, IsDomainFrom, values_of}
use Rattle.mn_model.proofs.Lists.{filled_length, all_at}
use Rattle.mn_model.proofs.Stretches.{values_of-some}
use Rattle.mn_model.proofs.Ordered.{in_order, le_true}

-- a member is at one of the places
pub record StandsAt (xs : List ℤ) (a : ℤ) : Type 0 where
  pub place : ℕ
  pub within : place < length xs
  pub is : (d : ℤ) → slice_index_or xs place d ≡ a

stands_at : (xs : List ℤ) (a : ℤ) → Has xs a → StandsAt xs a
stands_at [] a has = absurd has
stands_at (x ∷ xs) a (inl is) = record { place = 0; within = omega arith; is = λ d. is }
stands_at (x ∷ xs) a (inr later) = let at = stands_at xs a later in record { place = suc at.place; within = omega (arith, at.within); is = λ d. at.is d }

stands_so : (xs : List ℤ) (i : ℕ) (a : ℤ) → i < length xs → ((d : ℤ) → slice_index_or xs i d ≡ a) → Has xs a
stands_so [] i a within is = absurd (omega (arith, within))
stands_so (x ∷ xs) zero a within is = inl (is x)
stands_so (x ∷ xs) (suc i) a within is = inr (stands_so xs i a (omega (arith, within)) is)

-- tests of values that rise against one number rise
higher : (a x y : ℤ) → x ≤ℤ y → ordering_index (int_cmp x a) ≤ ordering_index (int_cmp y a)
higher a x y le = ranked (int_cmp x a) (int_cmp y a) (int_ranks x a) (int_ranks y a)
  where
    ranked : (o p : Ordering) → MatchOrdering o (x <ℤ a) (x ≡ a) (a <ℤ x) → MatchOrdering p (y <ℤ a) (y ≡ a) (a <ℤ y) → ordering_index o ≤ ordering_index p
    ranked Less p h k = omega arith
    ranked Equal Less h k = absurd (omega (arith, ints, le, h, k))
    ranked Equal Equal h k = omega arith
    ranked Equal Greater h k = omega arith
    ranked Greater Less h k = absurd (omega (arith, ints, le, h, k))
    ranked Greater Equal h k = absurd (omega (arith, ints, le, h, k))
    ranked Greater Greater h k = omega arith

-- the number at a place is the one that is sought
equal_to : (x a : ℤ) → int_cmp x a ≡ Equal → x ≡ a
equal_to x a is = subst (λ o. MatchOrdering o (x <ℤ a) (x ≡ a) (a <ℤ x)) is (int_ranks x a)

not_less : (x a : ℤ) → int_cmp x a ≡ Less → x ≡ a → ⊥
not_less x a is same = let less = subst (λ o. MatchOrdering o (x <ℤ a) (x ≡ a) (a <ℤ x)) is (int_ranks x a) in omega (arith, ints, less, same)

not_greater : (x a : ℤ) → int_cmp x a ≡ Greater → x ≡ a → ⊥
not_greater x a is same = let more = subst (λ o. MatchOrdering o (x <ℤ a) (x ≡ a) (a <ℤ x)) is (int_ranks x a) in omega (arith, ints, more, same)

-- a search among values that rise finds exactly the members
searched : (xs : List ℤ) (a : ℤ) (answer : Result ℕ ℕ) → Ascends xs → IsSearchInRange answer (length xs) → IsBinarySearchResult (λ y. int_cmp y a) xs answer → IsTrue (is_ok answer) ↔ Has xs a
searched xs a (Ok i) up within found = (λ t. stands_so xs i a within (λ d. equal_to (slice_index_or xs i d) a (found d)), λ h. refl)
searched xs a (Err i) up within parted = (λ e. cc, λ has. absurd (none (stands_at xs a has)))
  where
    none : StandsAt xs a → ⊥
    none at =
        let sides = parted (λ j k d order inside. higher a (slice_index_or xs j d) (slice_index_or xs k d) (in_order xs j k d up order inside)) in
        by (nat_lt at.place i) refl
        (λ before. not_less (slice_index_or xs at.place a) a (sides.0 at.place a (omega arith) before) (at.is a))
        (λ behind. not_greater (slice_index_or xs at.place a) a (sides.1 at.place a behind at.within) (at.is a))
      where
        by : (t : Bool) → nat_lt at.place i ≡ t → (at.place < i → ⊥) → (i ≤ at.place → ⊥) → ⊥
        by true e before behind = before (grind (arith, nat_tests))
        by false e before behind = behind (grind (arith, nat_tests))

-- so it does in a domain whose values are listed
pub searched_domain : (lo hi a : ℤ) (listed values row : List ℤ) (answer : Result ℕ ℕ) → (listed ≡ [] → ⊥) → values_of lo hi listed ≡ values → Ascends (values_of lo hi listed) → row ≡ listed
    → IsSearchInRange answer (length row) → IsBinarySearchResult (λ y. int_cmp y a) row answer → IsTrue (is_ok answer) ↔ Has values a
searched_domain lo hi a listed values row answer filled is up same within found =
    let all : values_of lo hi listed ≡ listed = values_of-some lo hi listed filled in
    let found_there = searched row a answer (subst Ascends (all ∙ sym same) up) within found in
    subst (λ vs. IsTrue (is_ok answer) ↔ Has vs a) (same ∙ sym all ∙ is) found_there

-- the test of the upper end, where that of the lower one passed, is the test of both
pub tests_both : {P : Type 0} (lo hi a low at high : ℤ) → low ≡ lo → at ≡ a → high ≡ hi → P ↔ ((lo ≤ℤ a) × (a ≤ℤ hi)) → int_le low at ≡ true → IsTrue (int_le at high) ↔ P
tests_both {P} lo hi a low at high is_low is_at is_high between passed = (to, from)
  where
    to : IsTrue (int_le at high) → P
    to t = between.1 (omega (arith, ints, passed, is_low, is_at), omega (arith, ints, t, is_at, is_high))

    from : P → IsTrue (int_le at high)
    from p = let le = (between.0 p).1 in le_true at high (omega (arith, ints, le, is_at, is_high))

-- that of the lower one, where it failed, is the test of both
pub tests_one : {P : Type 0} (lo hi a low at : ℤ) → low ≡ lo → at ≡ a → P ↔ ((lo ≤ℤ a) × (a ≤ℤ hi)) → int_le low at ≡ false → IsTrue (int_le low at) ↔ P
tests_one {P} lo hi a low at is_low is_at between failed = (λ t. absurd (true≢false (sym t ∙ failed)), from)
  where
    from : P → IsTrue (int_le low at)
    from p = let le = (between.0 p).0 in absurd (omega (arith, ints, le, failed, is_low, is_at))

-- the first and the last of values that rise are their ends
pub ends : (xs : List ℤ) (lo hi : ℤ) → (xs ≡ [] → ⊥) → Ascends xs → AllByRecursion IsValue xs → slice_get xs 0 ≡ Some lo → slice_get xs (length xs - 1) ≡ Some hi → IsDomainFrom lo hi (values_of lo hi xs)
ends xs lo hi filled up valued first last = subst (IsDomainFrom lo hi) (sym (values_of-some lo hi xs filled)) (record {
  ordered = ordered;
  low = all_at IsValue xs 0 lo valued first;
  high = all_at IsValue xs (length xs - 1) hi valued last;
  domain = record { filled = filled; ascends = up; valued = valued };
  first = first;
  last = last;
})
  where
    ordered : lo ≤ℤ hi
    ordered = let some = filled_length xs filled in let le = in_order xs 0 (length xs - 1) lo up (omega arith) (omega (arith, some)) in omega (arith, ints, le, get_or_from_slice_get xs 0 lo lo first, get_or_from_slice_get xs (length xs - 1) hi lo last)
