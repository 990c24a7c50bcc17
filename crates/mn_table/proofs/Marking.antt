-- How tuples are marked, from the first one on.
use Rattle.std.proofs.Common.{◌≡◌, ◌↔◌, ℕ, zero, suc, ◌+◌, ◌<◌, ◌≤◌, ◌*◌, ℤ, pos, ◌≤ℤ◌, ◌⊎◌, inl, inr, Bool, true, false, ◌||◌, IsTrue, List, [], ◌∷◌, length, take, drop, slice_get, Some, refl, sym, subst, ap, ◌∙◌, arith, true≢false}
use Rattle.std.proofs.lemmas.Int.{ints}
use Rattle.std.specs.List.{AllByRecursion}
use Rattle.std.specs.Int.{int_gap}
use Rattle.std.specs.Ordering.{int_eq}
use Rattle.mn_model.specs.declared.constraint.Term.{Term}
use Rattle.mn_boxes.specs.Values.{IsAsWide, IsCovered, Values, members}
use Rattle.mn_domains.proofs.Filtered.{eq_so, eq_true}
use Rattle.mn_meaning.specs.Meaning.{at}
use Rattle.mn_closure.specs.Supports.{Choice}
use Rattle.mn_table.specs.Marks.{AreAlive, FoundWith}

-- ---- lists

behind_next : (rows : List (List ℤ)) (n : ℕ) (row : List ℤ) (others : List (List ℤ)) → drop n rows ≡ row ∷ others → (slice_get rows n ≡ Some row) × (drop (suc n) rows ≡ others)
behind_next [] zero row others e = cc
behind_next [] (suc n) row others e = cc
behind_next (x ∷ rows) zero row others e = (heads e, tails e)
  where
    heads : x ∷ rows ≡ row ∷ others → Some x ≡ Some row
    heads e = cc

    tails : x ∷ rows ≡ row ∷ others → rows ≡ others
    tails e = cc
behind_next (x ∷ rows) (suc n) row others e = behind_next rows n row others e

pub drop_next : (rows : List (List ℤ)) (n : ℕ) (row : List ℤ) (others : List (List ℤ)) → drop n rows ≡ row ∷ others → (slice_get rows n ≡ Some row) × (drop (n + 1) rows ≡ others)
drop_next rows n row others e =
    let next = behind_next rows n row others e in
    let more : suc n ≡ n + 1 = omega arith in
    (next.0, subst (λ k. drop k rows ≡ others) more next.1)

pub drop_end : (rows : List (List ℤ)) (n r : ℕ) (row : List ℤ) → drop n rows ≡ [] → slice_get rows r ≡ Some row → r < n
drop_end [] n r row e stands = cc
drop_end (x ∷ rows) zero r row e stands = cc
drop_end (x ∷ rows) (suc n) zero row e stands = omega arith
drop_end (x ∷ rows) (suc n) (suc r) row e stands = let less = drop_end rows n r row e stands in omega (arith, less)

module _ (P : ℤ → Type 0) where
  pub all_behind : (n : ℕ) (cells : List ℤ) → AllByRecursion P cells → AllByRecursion P (drop n cells)
  all_behind zero cells all = all
  all_behind (suc n) [] all = tt
  all_behind (suc n) (a ∷ cells) all = all_behind n cells all.1

  pub all_in_front : (n i : ℕ) (cells : List ℤ) → AllByRecursion P cells → i < n → n ≤ length cells → P (at (take n cells) i)
  all_in_front zero i cells all within enough = absurd (omega (arith, within))
  all_in_front (suc n) i [] all within enough = absurd (omega (arith, enough))
  all_in_front (suc n) zero (a ∷ cells) all within enough = all.0
  all_in_front (suc n) (suc i) (a ∷ cells) all within enough = all_in_front n i cells all.1 (omega (arith, within)) (omega (arith, enough))

pub still_covered : (old new : Values) (a : ℤ) → IsAsWide old new → IsCovered old a → IsCovered new a
still_covered old new a wide covered = record {
  low = subst (λ low. low ≤ℤ a) (sym wide.low) covered.low;
  high = subst (λ low. int_gap low a < 64 * length new.words) (sym wide.low) (subst (λ many. int_gap old.low a < 64 * many) (sym wide.words) covered.high);
}

pub all_covered : (old new : Values) (cells : List ℤ) → IsAsWide old new → AllByRecursion (IsCovered old) cells → AllByRecursion (IsCovered new) cells
all_covered old new [] wide all = tt
all_covered old new (a ∷ cells) wide all = (still_covered old new a wide all.0, all_covered old new cells wide all.1)

pub wide_itself : (values : Values) → IsAsWide values values
wide_itself values = record { low = refl; words = refl }

pub wide_through : (old mid new : Values) → IsAsWide old mid → IsAsWide mid new → IsAsWide old new
wide_through old mid new one two = record { low = two.low ∙ one.low; words = two.words ∙ one.words }

-- ---- sets with one more

or_told : (p q : Bool) → (p || q) ≡ true → (p ≡ true) ⊎ (q ≡ true)
or_told true q e = inl refl
or_told false q e = inr e

or_left : (p q : Bool) → p ≡ true → (p || q) ≡ true
or_left p q e = ap (λ b. b || q) e

or_right : (p q : Bool) → q ≡ true → (p || q) ≡ true
or_right true q e = refl
or_right false q e = e

-- ---- which are alive

-- so it is of the first rows, and no others are in the set
abbrev pub AliveTo : List (List ℤ) → List Term → List (List ℤ) → Values → ℕ → Type 0
AliveTo box v rows alive n = (r : ℕ) (row : List ℤ) → slice_get rows r ≡ Some row → IsTrue (members alive (pos r)) ↔ ((r < n) × Choice box v row)

some_same : (x y : List ℤ) → Some x ≡ Some y → x ≡ y
some_same x y e = cc

less_or_same : (r n : ℕ) → r < n + 1 → (r < n) ⊎ (r ≡ n)
less_or_same r n less = grind arith

module _ (box : List (List ℤ)) (v : List Term) (rows : List (List ℤ)) where
  pub none_alive : (alive : Values) → ((a : ℤ) → members alive a ≡ false) → AliveTo box v rows alive 0
  none_alive alive none r row stands = (λ e. absurd (true≢false (sym e ∙ none (pos r))), λ both. absurd (let less = both.0 in omega (arith, less)))

  pub all_alive : (alive : Values) (n : ℕ) → drop n rows ≡ [] → AliveTo box v rows alive n → AreAlive box v rows alive
  all_alive alive n end so_far r row stands = (λ e. ((so_far r row stands).0 e).1, λ chosen. (so_far r row stands).1 (drop_end rows n r row end stands, chosen))

  module _ (n : ℕ) (row : List ℤ) (here : slice_get rows n ≡ Some row) where
    same_row : (r : ℕ) (other : List ℤ) → r ≡ n → slice_get rows r ≡ Some other → other ≡ row
    same_row r other same stands = some_same other row (sym stands ∙ (ap (slice_get rows) same ∙ here))

    pub one_alive : (old new : Values) → AliveTo box v rows old n → Choice box v row → ((a : ℤ) → members new a ≡ (int_eq a (pos n) || members old a)) → AliveTo box v rows new (n + 1)
    one_alive old new so_far chosen more r other stands = (λ e. to (or_told (int_eq (pos r) (pos n)) (members old (pos r)) (sym (more (pos r)) ∙ e)), λ both. more (pos r) ∙ from both.1 (less_or_same r n both.0))
      where
        to : (int_eq (pos r) (pos n) ≡ true) ⊎ (members old (pos r) ≡ true) → (r < n + 1) × Choice box v other
        to (inl same) =
            let is = eq_so (pos r) (pos n) same in
            let at_n : r ≡ n = omega (arith, ints, is) in
            (omega (arith, at_n), subst (Choice box v) (sym (same_row r other at_n stands)) chosen)
        to (inr was) = let both = (so_far r other stands).0 was in (let less = both.0 in omega (arith, less), both.1)

        from : Choice box v other → (r < n) ⊎ (r ≡ n) → (int_eq (pos r) (pos n) || members old (pos r)) ≡ true
        from is_choice (inl less) = or_right (int_eq (pos r) (pos n)) (members old (pos r)) ((so_far r other stands).1 (less, is_choice))
        from is_choice (inr same) = or_left (int_eq (pos r) (pos n)) (members old (pos r)) (eq_true (pos r) (pos n) (ap pos same))

    pub not_alive : (alive : Values) → AliveTo box v rows alive n → (Choice box v row → ⊥) → AliveTo box v rows alive (n + 1)
    not_alive alive so_far not r other stands = (λ e. (let both = (so_far r other stands).0 e in (let less = both.0 in omega (arith, less), both.1)), λ both. from both.1 (less_or_same r n both.0))
      where
        from : Choice box v other → (r < n) ⊎ (r ≡ n) → members alive (pos r) ≡ true
        from is_choice (inl less) = (so_far r other stands).1 (less, is_choice)
        from is_choice (inr same) = absurd (not (subst (Choice box v) (same_row r other same stands) is_choice))

-- ---- what those have at a place

pub record FoundBelow (alive : Values) (i : ℕ) (a : ℤ) (rows : List (List ℤ)) (n : ℕ) : Type 0 where
  pub of : FoundWith alive i a rows
  pub below : of.number < n

abbrev pub FoundTo : Values → ℕ → List (List ℤ) → Values → ℕ → Type 0
FoundTo alive i rows found n = (a : ℤ) → IsTrue (members found a) ↔ FoundBelow alive i a rows n

module _ (alive : Values) (i : ℕ) (rows : List (List ℤ)) where
  pub none_found : (found : Values) → ((a : ℤ) → members found a ≡ false) → FoundTo alive i rows found 0
  none_found found none a = (λ e. absurd (true≢false (sym e ∙ none a)), λ f. absurd (let less = f.below in omega (arith, less)))

  pub all_found : (found : Values) (n : ℕ) → drop n rows ≡ [] → FoundTo alive i rows found n → (a : ℤ) → IsTrue (members found a) ↔ FoundWith alive i a rows
  all_found found n end so_far a = (λ e. ((so_far a).0 e).of, λ f. (so_far a).1 (record { of = f; below = drop_end rows n f.number f.row end f.stands }))

  module _ (n : ℕ) (row : List ℤ) (here : slice_get rows n ≡ Some row) where
    same_found : (r : ℕ) (other : List ℤ) → r ≡ n → slice_get rows r ≡ Some other → other ≡ row
    same_found r other same stands = some_same other row (sym stands ∙ (ap (slice_get rows) same ∙ here))

    below_more : (a : ℤ) → FoundBelow alive i a rows n → FoundBelow alive i a rows (n + 1)
    below_more a f = record { of = f.of; below = (let less = f.below in omega (arith, less)) }

    pub one_found : (old new : Values) (b : ℤ) → FoundTo alive i rows old n → IsTrue (members alive (pos n)) → b ≡ at row i → ((a : ℤ) → members new a ≡ (int_eq a b || members old a)) → FoundTo alive i rows new (n + 1)
    one_found old new b so_far is_alive is more a = (λ e. to (or_told (int_eq a b) (members old a) (sym (more a) ∙ e)), λ f. more a ∙ from f (less_or_same f.of.number n f.below))
      where
        to : (int_eq a b ≡ true) ⊎ (members old a ≡ true) → FoundBelow alive i a rows (n + 1)
        to (inl same) = record { of = record { number = n; row = row; stands = here; is_alive = is_alive; given = sym (eq_so a b same ∙ is) }; below = omega arith }
        to (inr was) = below_more a ((so_far a).0 was)

        from : (f : FoundBelow alive i a rows (n + 1)) → (f.of.number < n) ⊎ (f.of.number ≡ n) → (int_eq a b || members old a) ≡ true
        from f (inl less) = or_right (int_eq a b) (members old a) ((so_far a).1 (record { of = f.of; below = less }))
        from f (inr same) = or_left (int_eq a b) (members old a) (eq_true a b (sym f.of.given ∙ (ap (λ (r : List ℤ). at r i) (same_found f.of.number f.of.row same f.of.stands) ∙ sym is)))

    pub not_found : (found : Values) → FoundTo alive i rows found n → (IsTrue (members alive (pos n)) → ⊥) → FoundTo alive i rows found (n + 1)
    not_found found so_far not a = (λ e. below_more a ((so_far a).0 e), λ f. from f (less_or_same f.of.number n f.below))
      where
        from : (f : FoundBelow alive i a rows (n + 1)) → (f.of.number < n) ⊎ (f.of.number ≡ n) → members found a ≡ true
        from f (inl less) = (so_far a).1 (record { of = f.of; below = less })
        from f (inr same) = absurd (not (subst (λ (r : ℕ). IsTrue (members alive (pos r))) same f.of.is_alive))
