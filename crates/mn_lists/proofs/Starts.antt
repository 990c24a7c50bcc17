-- The nodes as they stand at the beginning.
use Rattle.std.proofs.Common.{◌≡◌, ◌≢◌, ℕ, zero, suc, ◌+◌, ◌-◌, ◌*◌, ◌^◌, ◌≤◌, ◌<◌, cond, nat_eq, nat_lt, List, [], None, length, get_or, refl, sym, ap, subst, ◌∙◌, arith}
use Rattle.std.specs.Prelude.{All, drop, replicate}
use Rattle.std.specs.List.{range_with_len, refill}
use Rattle.std.proofs.lemmas.Bool.Decides.{nat_tests}
use Rattle.std.proofs.lemmas.List.{get_or-replicate, length-replicate, take_at}
use Rattle.std.proofs.lemmas.List.Elements.{All-cons, All-nil, All-from_get_or, All-replicate}
use Rattle.std.proofs.lemmas.List.Folds.{sum_by-replicate}
use Rattle.std.proofs.lemmas.List.FromFn.{get_or-range_with_len, length-range_with_len}
use Rattle.std.proofs.lemmas.List.Sums.{sum_by-cons}
use Rattle.mn_lists.specs.Circles.{circles, Follow, Mutual, IsLinked}
use Rattle.mn_lists.specs.Links.{AreLinks, lists_of}
use Rattle.mn_lists.specs.Row.{HasNode, StandsAtFirst, first_next, next_node, prev_node, joined}
use Rattle.mn_lists.specs.Standing.{EachOnOneList, all_on_first, count_of}
use Rattle.mn_lists.proofs.Cases.{by_same, cond_same, cond_other}
use Rattle.mn_lists.proofs.Chains.{circles_is}
use Rattle.mn_lists.proofs.Counts.{count_of-cons_other, count_of-cons_same}
use Rattle.mn_lists.proofs.Rows.{next-joined, prev-joined}

-- ---- the permutation
first_next_less : (n k : ℕ) → k < n → first_next n k ≡ k + 1
first_next_less n k h = grind (arith, nat_tests)

first_next_head : (n k : ℕ) → k ≡ n → first_next n k ≡ 0
first_next_head n k h = grind (arith, nat_tests)

first_next_other : (n k : ℕ) → n < k → first_next n k ≡ k
first_next_other n k h = grind (arith, nat_tests)

-- the node before k
first_prev : ℕ → ℕ → ℕ
first_prev n k = cond (nat_eq k 0) n (cond (nat_lt n k) k (k - 1))

pub first_next-below : (n m k : ℕ) → n < m → k < m → first_next n k < m
first_next-below n m k h below = grind (arith, nat_tests)

pub first_next-one : (n j k : ℕ) → first_next n j ≡ first_next n k → j ≡ k
first_next-one n j k e = grind (arith, nat_tests)

first_next-first_prev : (n k : ℕ) → first_next n (first_prev n k) ≡ k
unfolding first_prev
first_next-first_prev n k = grind (arith, nat_tests)

first_prev-below : (n m k : ℕ) → n < m → k < m → first_prev n k < m
unfolding first_prev
first_prev-below n m k h below = grind (arith, nat_tests)

-- ---- the loop
pub record LinkedBelow (row : List ℕ) (n i : ℕ) : Type 0 where
  pub nexts : (k : ℕ) → k < i → next_node row k ≡ first_next n k
  pub prevs : (k : ℕ) → k < i → prev_node row (first_next n k) ≡ k

pub linked_more : (row : List ℕ) (n i : ℕ) → HasNode row i → HasNode row (first_next n i) → LinkedBelow row n i → LinkedBelow (joined row i (first_next n i)) n (i + 1)
linked_more row n i here there so_far = record {
  nexts = λ k h. next-joined row i (first_next n i) k here ∙
      by_same k i (λ same _. cond_same k i _ _ same ∙ ap (first_next n) (sym same)) (λ other _. cond_other k i _ _ other ∙ so_far.nexts k (omega arith));
  prevs = λ k h. prev-joined row i (first_next n i) (first_next n k) there ∙
      by_same (first_next n k) (first_next n i) (λ same _. cond_same (first_next n k) (first_next n i) _ _ same ∙ sym (first_next-one n k i same))
      (λ other _. cond_other (first_next n k) (first_next n i) _ _ other ∙ so_far.prevs k (let apart : k ≢ i = λ e. other (ap (first_next n) e) in omega arith));
}

pub linked_none : (row : List ℕ) (n : ℕ) → LinkedBelow row n 0
linked_none row n = record { nexts = λ k h. absurd (omega arith); prevs = λ k h. absurd (omega arith) }

pub stands : (row : List ℕ) (n i : ℕ) → ((k : ℕ) → HasNode row k → k < i) → LinkedBelow row n i → StandsAtFirst row n
stands row n i all linked k has = (linked.nexts k (all k has), linked.prevs k (all k has))

-- ---- the lists
follow_range : (f : ℕ → ℕ) (k a e : ℕ) → a + k ≡ e → ((j : ℕ) → j < e → f j ≡ j + 1) → Follow f a (range_with_len a k) e
follow_range f zero a e is next = omega arith
follow_range f (suc k) a e is next = (refl, subst (λ (z : ℕ). Follow f z (range_with_len (a + 1) k) e) (sym (next a (omega arith))) (follow_range f k (a + 1) e (omega arith) next))

count_of-range_before : (t k a : ℕ) → t < a → count_of t (range_with_len a k) ≡ 0
count_of-range_before t zero a h = refl
count_of-range_before t (suc k) a h =
    by_same a t (λ same _. absurd (omega arith)) (λ _ test. count_of-cons_other t a (range_with_len (a + 1) k) test ∙ count_of-range_before t k (a + 1) (omega arith))

count_of-range : (t k a : ℕ) → a ≤ t → t < a + k → count_of t (range_with_len a k) ≡ 1
count_of-range t zero a low high = absurd (omega arith)
count_of-range t (suc k) a low high =
    by_same a t (λ same test. omega (arith, count_of-cons_same t a (range_with_len (a + 1) k) test, count_of-range_before t k (a + 1) (omega arith)))
    (λ other test. count_of-cons_other t a (range_with_len (a + 1) k) test ∙ count_of-range t k (a + 1) (let apart : a ≢ t = other in omega arith) (omega arith))

each_first : (n heads : ℕ) → EachOnOneList n (all_on_first n heads)
each_first n heads = record {
  once = λ t h. sum_by-cons (count_of t) (range_with_len 0 n) (replicate (heads - 1) []) ∙ omega (arith, count_of-range t n 0 (omega arith) (omega arith), sum_by-replicate (count_of t) (heads - 1) []);
  only = All-cons (All (λ t. t < n)) (range_with_len 0 n) (replicate (heads - 1) []) (All-from_get_or (λ t. t < n) (range_with_len 0 n) 0 (λ i h. omega (arith, length-range_with_len 0 n, get_or-range_with_len 0 n i 0 (omega (arith, length-range_with_len 0 n)))))
      (All-replicate (All (λ t. t < n)) (heads - 1) [] (All-nil (λ t. t < n)));
}

module _ (row : List ℕ) (n heads : ℕ) (nodes : length row ≡ 2 * (n + heads)) (some : 0 < heads) (fits : n + heads < 2 ^ 60) (starts : StandsAtFirst row n) where
  abbrev f : ℕ → ℕ
  f = next_node row

  abbrev g : ℕ → ℕ
  g = prev_node row

  next_is : (k : ℕ) → k < n + heads → f k ≡ first_next n k
  next_is k h = (starts k (omega arith)).0

  prev_is : (k : ℕ) → k < n + heads → g (first_next n k) ≡ k
  prev_is k h = (starts k (omega arith)).1

  prev_was : (k : ℕ) → k < n + heads → g k ≡ first_prev n k
  prev_was k h = ap g (sym (first_next-first_prev n k)) ∙ prev_is (first_prev n k) (first_prev-below n (n + heads) k (omega arith) h)

  mutual_first : Mutual f g (n + heads)
  mutual_first = record {
    next_below = λ k h. subst (λ (x : ℕ). x < n + heads) (sym (next_is k h)) (first_next-below n (n + heads) k (omega arith) h);
    prev_below = λ k h. subst (λ (x : ℕ). x < n + heads) (sym (prev_was k h)) (first_prev-below n (n + heads) k (omega arith) h);
    back = λ k h. ap g (next_is k h) ∙ prev_is k h;
    forth = λ k h. ap f (prev_was k h) ∙ next_is (first_prev n k) (first_prev-below n (n + heads) k (omega arith) h) ∙ first_next-first_prev n k;
  }

  long : length (all_on_first n heads) ≡ heads
  long = let one : suc (heads - 1) ≡ heads = omega arith in ap suc (length-replicate (heads - 1) []) ∙ one

  loops_first : (l : ℕ) → l < length (all_on_first n heads) → Follow f (f (n + l)) (get_or (all_on_first n heads) l []) (n + l)
  loops_first zero h =
      let head : n + 0 ≡ n = omega arith in
      let front : f (n + 0) ≡ 0 = ap f head ∙ next_is n (omega arith) ∙ first_next_head n n refl in
      subst (λ (z : ℕ). Follow f z (range_with_len 0 n) (n + 0)) (sym front) (follow_range f n 0 (n + 0) (omega arith) (λ j below. next_is j (omega arith) ∙ first_next_less n j (omega arith)))
  loops_first (suc l) h =
      let alone : f (n + suc l) ≡ n + suc l = next_is (n + suc l) (omega (arith, long)) ∙ first_next_other n (n + suc l) (omega arith) in
      subst (λ (xs : List ℕ). Follow f (f (n + suc l)) xs (n + suc l)) (sym (get_or-replicate (heads - 1) l [] [] (omega (arith, long)))) alone

  linked_first : IsLinked f g n (all_on_first n heads)
  linked_first = record {
    mutual_nodes = subst (λ (k : ℕ). Mutual f g (n + k)) (sym long) mutual_first;
    loops = loops_first;
    each = each_first n heads;
  }

  pub lists_first : lists_of row n heads ≡ all_on_first n heads
  lists_first = subst (λ (k : ℕ). circles f n k ≡ all_on_first n heads) long (circles_is f g n (all_on_first n heads) linked_first)

  pub links_first : AreLinks row n heads None
  links_first = record { nodes = nodes; fits = fits; linked = subst (IsLinked f g n) (sym lists_first) linked_first; walking = tt }

  pub each_listed : EachOnOneList n (lists_of row n heads)
  each_listed = links_first.linked.each

-- ---- what `Links::new` makes, from what its calls ensure
pub record Begun (row : List ℕ) (n heads : ℕ) : Type 0 where
  pub links : AreLinks row n heads None
  pub lists_are : lists_of row n heads ≡ all_on_first n heads
  pub each : EachOnOneList n (lists_of row n heads)

pub begun : (row read ws : List ℕ) (n heads : ℕ) → row ≡ replicate (2 * (n + heads)) 0 → read ≡ row → length ws ≡ length read → 0 < heads → n + heads < 2 ^ 60 → StandsAtFirst ws n → Begun (refill (length row) row ws) n heads
begun row read ws n heads zeros read_is long some fits starts =
    let same : length ws ≡ length row = long ∙ ap length read_is in
    let nodes : length ws ≡ 2 * (n + heads) = same ∙ ap length zeros ∙ length-replicate (2 * (n + heads)) 0 in
    subst (λ (r : List ℕ). Begun r n heads) (sym (take_at ws (drop (length ws) row) (length row) same)) (record {
      links = links_first ws n heads nodes some fits starts;
      lists_are = lists_first ws n heads nodes some fits starts;
      each = each_listed ws n heads nodes some fits starts;
    })
