-- A queue from its first number on, and what `push` and `pop` make of it.
use Rattle.std.proofs.Common.{◌≡◌, ◌≢◌, ℕ, suc, ◌+◌, ◌-◌, ◌^◌, ◌≤◌, ◌<◌, Bool, true, false, cond, nat_eq, List, [], ◌∷◌, ◌++◌, length, get_or, set, refl, sym, ap, subst, ◌∙◌, arith}
use Rattle.std.specs.Prelude.{All, drop, replicate}
use Rattle.std.proofs.lemmas.List.{get_or-append-add, get_or-replicate, get_or-set_other, get_or-set_same, length-append, length-replicate, length-set}
use Rattle.std.proofs.lemmas.List.Elements.{All-cons, All-get_or, All-head, All-nil, All-push, All-tail, All-weaker}
use Rattle.std.proofs.lemmas.List.Sums.{sum_by-append}
use Rattle.mn_lists.specs.Circles.{Follow}
use Rattle.mn_lists.specs.Queue.{IsQueue, NumberQueue, follower, items_of, number_queue}
use Rattle.mn_lists.specs.Standing.{count_of, pushed}
use Rattle.mn_lists.proofs.Cases.{by_same, cond_same, cond_other}
use Rattle.mn_lists.proofs.Chains.{chain_is}
use Rattle.mn_lists.proofs.Counts.{count_of-cons_other, count_of-cons_same, few, none_stands}

-- ---- along a queue
-- the last number leads to the end
last_leads : (f : ℕ → ℕ) (x : ℕ) (xs : List ℕ) (s e d : ℕ) → Follow f s (x ∷ xs) e → f (get_or (x ∷ xs) (length xs) d) ≡ e
last_leads f x [] s e d is = is.1
last_leads f x (y ∷ ys) s e d is = last_leads f y ys (f x) e d is.1

-- a queue is followed as before where no word of its numbers was written
follow_same : (f F : ℕ → ℕ) (xs : List ℕ) (s e : ℕ) → All (λ x. F x ≡ f x) xs → Follow f s xs e → Follow F s xs e
follow_same f F [] s e same is = is
follow_same f F (x ∷ xs) s e same is =
    (is.0, subst (λ (z : ℕ). Follow F z xs e) (sym (All-head (λ y. F y ≡ f y) x xs same)) (follow_same f F xs (f x) e (All-tail (λ y. F y ≡ f y) x xs same) is.1))

-- c stands behind the last number m
follow_pushed : (f F : ℕ → ℕ) (n c m : ℕ) → f m ≡ n → ((x : ℕ) → x ≢ m → x ≢ c → F x ≡ f x) → F m ≡ c → F c ≡ n
    → (x : ℕ) (xs : List ℕ) (s : ℕ) → All (λ y. y < n) (x ∷ xs) → All (λ y. y ≢ c) (x ∷ xs) → get_or (x ∷ xs) (length xs) m ≡ m → Follow f s (x ∷ xs) n → Follow F s ((x ∷ xs) ++ c ∷ []) n
follow_pushed f F n c m leads same last end x [] s only none is_last is = (is.0, (ap F is_last ∙ last, end))
follow_pushed f F n c m leads same last end x (y ∷ ys) s only none is_last is =
    let others = All-tail (λ z. z < n) x (y ∷ ys) only in
    let before : x ≢ m = λ e. let stops : f x ≡ n = ap f e ∙ leads in let next : f x ≡ y = is.1.0 in omega (arith, All-head (λ z. z < n) y ys others) in
    let stays : F x ≡ f x = same x before (All-head (λ z. z ≢ c) x (y ∷ ys) none) in
    (is.0, subst (λ (z : ℕ). Follow F z ((y ∷ ys) ++ c ∷ []) n) (sym stays) (follow_pushed f F n c m leads same last end y ys (f x) others (All-tail (λ z. z ≢ c) x (y ∷ ys) none) is_last is.1))

-- ---- the items
mark_at_most : (b : Bool) → cond b 0 1 ≤ 1
mark_at_most true = omega arith
mark_at_most false = omega arith

module _ (row : List ℕ) (n first last_one : ℕ) (xs : List ℕ) (q : IsQueue row n first last_one xs) where
  at_most_one : (k : ℕ) → k < n → count_of k xs ≤ 1
  at_most_one k h = omega (arith, q.marks k h, mark_at_most (nat_eq (get_or row k 0) 0))

  pub items_are : items_of row n first ≡ xs
  items_are = let here : n ≤ n = omega arith in chain_is (follower row) n n here xs first n q.follows q.only (few n xs q.only at_most_one)

  -- a number whose word is 0 does not stand in the queue, and any other does
  pub absent : (k : ℕ) → k < n → get_or row k 0 ≡ 0 → count_of k xs ≡ 0
  absent k h zero_word = q.marks k h ∙ cond_same (get_or row k 0) 0 0 1 zero_word

  pub present : (k : ℕ) → k < n → get_or row k 0 ≢ 0 → count_of k xs ≡ 1
  present k h word = q.marks k h ∙ cond_other (get_or row k 0) 0 0 1 word

-- ---- the empty queue
pub empty_queue : (n : ℕ) → n < 2 ^ 60 → IsQueue (replicate n 0) n n n []
empty_queue n fits = record {
  nodes = length-replicate n 0;
  fits = fits;
  follows = refl;
  only = All-nil (λ x. x < n);
  marks = λ k h. sym (cond_same (get_or (replicate n 0) k 0) 0 0 1 (get_or-replicate n k 0 0 h));
  ends = refl;
}

none_ahead : (f : ℕ → ℕ) (n : ℕ) (xs : List ℕ) (s : ℕ) → Follow f s xs n → All (λ x. x < n) xs → s ≡ n → xs ≡ []
none_ahead f n [] s is only at_end = refl
none_ahead f n (x ∷ xs) s is only at_end = absurd (let here : s ≡ x = is.0 in omega (arith, All-head (λ y. y < n) x xs only))

-- ---- `push`
module _ (row : List ℕ) (n first last_one : ℕ) (xs : List ℕ) (q : IsQueue row n first last_one xs) (c : ℕ) (here : c < n) where
  pub stays : get_or row c 0 ≢ 0 → xs ≡ pushed c xs
  stays word = sym (cond_other (count_of c xs) 0 (xs ++ c ∷ []) xs (λ e. omega (arith, present row n first last_one xs q c here word)))

  pub joins : get_or row c 0 ≡ 0 → xs ++ c ∷ [] ≡ pushed c xs
  joins free = sym (cond_same (count_of c xs) 0 (xs ++ c ∷ []) xs (absent row n first last_one xs q c here free))

  pub pushed_first : first ≡ n → IsQueue (set row c (n + 1)) n c c (xs ++ c ∷ [])
  pushed_first at_end =
      let none = none_ahead (follower row) n xs first q.follows q.only at_end in
      let written : get_or (set row c (n + 1)) c 0 ≡ n + 1 = get_or-set_same row c (n + 1) 0 (omega (arith, q.nodes)) in
      let this : IsQueue (set row c (n + 1)) n c c (c ∷ []) = record {
        nodes = length-set row c (n + 1) ∙ q.nodes;
        fits = q.fits;
        follows = (refl, ap (λ (w : ℕ). w - 1) written ∙ omega arith);
        only = All-cons (λ x. x < n) c [] here (All-nil (λ x. x < n));
        marks = λ k h. by_same c k
            (λ same test. count_of-cons_same k c [] test ∙ sym (cond_other (get_or (set row c (n + 1)) k 0) 0 0 1 (λ e. let z : get_or (set row c (n + 1)) c 0 ≡ 0 = ap (λ (j : ℕ). get_or (set row c (n + 1)) j 0) same ∙ e in omega (arith, written, z))))
            (λ other test. count_of-cons_other k c [] test ∙ ap (count_of k) (sym none) ∙ q.marks k h ∙ ap (λ (w : ℕ). cond (nat_eq w 0) 0 1) (sym (get_or-set_other row c k (n + 1) 0 (λ e. other (sym e)))));
        ends = refl;
      } in
      subst (λ (ys : List ℕ). IsQueue (set row c (n + 1)) n c c (ys ++ c ∷ [])) (sym none) this

pub pushed_behind : (row : List ℕ) (n first last_one : ℕ) (xs : List ℕ) → IsQueue row n first last_one xs → (c : ℕ) → c < n → get_or row c 0 ≡ 0 → first ≢ n
    → IsQueue (set (set row c (n + 1)) last_one (c + 1)) n first c (xs ++ c ∷ [])
pushed_behind row n first last_one [] q c here free some = absurd (some q.follows)
pushed_behind row n first last_one (x ∷ xs) q c here free some =
    let row₁ : List ℕ = set row c (n + 1) in
    let row₂ : List ℕ = set row₁ last_one (c + 1) in
    let tail_at : length (x ∷ xs) - 1 ≡ length xs = omega arith in
    let ends : get_or (x ∷ xs) (length xs) last_one ≡ last_one = ap (λ (i : ℕ). get_or (x ∷ xs) i last_one) (sym tail_at) ∙ q.ends in
    let leads : follower row last_one ≡ n = ap (follower row) (sym ends) ∙ last_leads (follower row) x xs first n last_one q.follows in
    let none = none_stands c (x ∷ xs) (absent row n first last_one (x ∷ xs) q c here free) in
    let last_in : length xs < length (x ∷ xs) = omega arith in
    let last_below : last_one < n = subst (λ (z : ℕ). z < n) ends (All-get_or (λ y. y < n) (x ∷ xs) (length xs) last_one last_in q.only) in
    let last_other : last_one ≢ c = subst (λ (z : ℕ). z ≢ c) ends (All-get_or (λ y. y ≢ c) (x ∷ xs) (length xs) last_one last_in none) in
    let long₁ : length row₁ ≡ n = length-set row c (n + 1) ∙ q.nodes in
    let at_last : get_or row₂ last_one 0 ≡ c + 1 = get_or-set_same row₁ last_one (c + 1) 0 (omega arith) in
    let at_new : get_or row₂ c 0 ≡ n + 1 = get_or-set_other row₁ last_one c (c + 1) 0 (λ e. last_other (sym e)) ∙ get_or-set_same row c (n + 1) 0 (omega (arith, q.nodes)) in
    let at_other : (k : ℕ) → k ≢ last_one → k ≢ c → get_or row₂ k 0 ≡ get_or row k 0 = λ k far other. get_or-set_other row₁ last_one k (c + 1) 0 far ∙ get_or-set_other row c k (n + 1) 0 other in
    let more : (k : ℕ) → count_of k ((x ∷ xs) ++ c ∷ []) ≡ count_of k (x ∷ xs) + count_of k (c ∷ []) = λ k. sum_by-append (λ y. cond (nat_eq y k) 1 0) (x ∷ xs) (c ∷ []) in
    let end_at : length ((x ∷ xs) ++ c ∷ []) - 1 ≡ length (x ∷ xs) + 0 = omega (arith, length-append (x ∷ xs) (c ∷ [])) in
    record {
      nodes = length-set row₁ last_one (c + 1) ∙ long₁;
      fits = q.fits;
      follows = follow_pushed (follower row) (follower row₂) n c last_one leads (λ y far other. ap (λ (w : ℕ). w - 1) (at_other y far other)) (ap (λ (w : ℕ). w - 1) at_last ∙ omega arith) (ap (λ (w : ℕ). w - 1) at_new ∙ omega arith) x xs first q.only none ends q.follows;
      only = All-push (λ y. y < n) (x ∷ xs) c q.only here;
      marks = λ k h. by_same c k
          (λ same test. let new : count_of k ((x ∷ xs) ++ c ∷ []) ≡ 1 = omega (arith, more k, count_of-cons_same k c [] test, ap (λ (j : ℕ). count_of j (x ∷ xs)) (sym same), absent row n first last_one (x ∷ xs) q c here free) in
          new ∙ sym (cond_other (get_or row₂ k 0) 0 0 1 (λ e. let z : get_or row₂ c 0 ≡ 0 = ap (λ (j : ℕ). get_or row₂ j 0) same ∙ e in omega (arith, at_new, z))))
          (λ other test. let old : count_of k ((x ∷ xs) ++ c ∷ []) ≡ count_of k (x ∷ xs) = omega (arith, more k, count_of-cons_other k c [] test) in
          old ∙ by_same k last_one
          (λ same _. let word : get_or row k 0 ≢ 0 = λ e. let z : get_or row last_one 0 ≡ 0 = ap (λ (j : ℕ). get_or row j 0) (sym same) ∙ e in omega (arith, leads, z) in
          present row n first last_one (x ∷ xs) q k h word ∙ sym (cond_other (get_or row₂ k 0) 0 0 1 (λ e. let z : get_or row₂ last_one 0 ≡ 0 = ap (λ (j : ℕ). get_or row₂ j 0) (sym same) ∙ e in omega (arith, at_last, z))))
          (λ far _. q.marks k h ∙ ap (λ (w : ℕ). cond (nat_eq w 0) 0 1) (sym (at_other k far (λ e. other (sym e))))));
      ends = ap (λ (i : ℕ). get_or ((x ∷ xs) ++ c ∷ []) i c) end_at ∙ get_or-append-add (x ∷ xs) (c ∷ []) 0 c;
    }

-- ---- `pop`
ends_tail : (x : ℕ) (xs : List ℕ) (l : ℕ) → get_or (x ∷ xs) (length (x ∷ xs) - 1) l ≡ l → get_or xs (length xs - 1) l ≡ l
ends_tail x [] l e = refl
ends_tail x (y ∷ ys) l e =
    let here : length (y ∷ ys) - 1 ≡ length ys = omega arith in let there : suc (length ys) ≡ length (x ∷ y ∷ ys) - 1 = omega arith in
    ap (λ (i : ℕ). get_or (y ∷ ys) i l) here ∙ ap (λ (i : ℕ). get_or (x ∷ y ∷ ys) i l) there ∙ e

-- the first number of a queue that is not empty, and the queue without it
pub record Pops (row : List ℕ) (n first last_one : ℕ) (xs : List ℕ) : Type 0 where
  pub word : 1 ≤ get_or row first 0
  pub front : xs ≡ first ∷ drop 1 xs
  pub below : first < n
  pub rest : IsQueue (set row first 0) n (get_or row first 0 - 1) last_one (drop 1 xs)

pub pops : (row : List ℕ) (n first last_one : ℕ) (xs : List ℕ) → IsQueue row n first last_one xs → first ≢ n → Pops row n first last_one xs
pops row n first last_one [] q some = absurd (some q.follows)
pops row n first last_one (x ∷ xs) q some =
    let below : x < n = All-head (λ y. y < n) x xs q.only in
    let at_most = at_most_one row n first last_one (x ∷ xs) q x below in
    let gone : count_of x xs ≡ 0 = by_same x x (λ _ test. omega (arith, count_of-cons_same x x xs test, at_most)) (λ other _. absurd (other refl)) in
    let word : get_or row x 0 ≢ 0 = λ e. by_same x x (λ _ test. omega (arith, count_of-cons_same x x xs test, absent row n first last_one (x ∷ xs) q x below e)) (λ other _. other refl) in
    let row' : List ℕ = set row x 0 in
    subst (λ (z : ℕ). Pops row n z last_one (x ∷ xs)) (sym q.follows.0) (record {
      word = omega arith;
      front = refl;
      below = below;
      rest = record {
        nodes = length-set row x 0 ∙ q.nodes;
        fits = q.fits;
        follows = follow_same (follower row) (follower row') xs (follower row x) n (All-weaker (λ y. y ≢ x) (λ y. follower row' y ≡ follower row y) (λ y far. ap (λ (w : ℕ). w - 1) (get_or-set_other row x y 0 0 far)) xs (none_stands x xs gone)) q.follows.1;
        only = All-tail (λ y. y < n) x xs q.only;
        marks = λ k h. by_same x k
            (λ same _. ap (λ (j : ℕ). count_of j xs) (sym same) ∙ gone ∙ sym (cond_same (get_or row' k 0) 0 0 1 (ap (λ (j : ℕ). get_or row' j 0) (sym same) ∙ get_or-set_same row x 0 0 (omega (arith, q.nodes)))))
            (λ other test. sym (count_of-cons_other k x xs test) ∙ q.marks k h ∙ ap (λ (w : ℕ). cond (nat_eq w 0) 0 1) (sym (get_or-set_other row x k 0 0 (λ e. other (sym e)))));
        ends = ends_tail x xs last_one q.ends;
      };
    })

-- ---- what the calls leave, from what their calls ensure
pub record Holds (row : List ℕ) (n first last_one : ℕ) (xs : List ℕ) : Type 0 where
  pub queue : IsQueue row n first last_one (items_of row n first)
  pub items : items_of row n first ≡ xs

pub holds : (row : List ℕ) (n first last_one : ℕ) (xs : List ℕ) → IsQueue row n first last_one xs → Holds row n first last_one xs
holds row n first last_one xs q =
    let e = items_are row n first last_one xs q in record { queue = subst (IsQueue row n first last_one) (sym e) q; items = e }

module _ (row : List ℕ) (n first last_one : ℕ) (old : NumberQueue) (q : IsQueue row n first last_one (items_of row n first)) (view : number_queue row n first ≡ old) where
  abbrev items_were : items_of row n first ≡ old.items
  items_were = ap (λ (v : NumberQueue). v.items) view

  pub left_by_pop : (row' : List ℕ) (word : ℕ) → first ≢ n → row' ≡ set row first 0 → word ≡ get_or row first 0 → Holds row' n (word - 1) last_one (drop 1 old.items)
  left_by_pop row' word some row_is word_is =
      let P : List ℕ × ℕ × List ℕ → Type 0 = λ u. Holds u.0 n (u.1 - 1) last_one (drop 1 u.2) in
      subst P (λ i. (sym row_is i, sym word_is i, items_were i)) (holds (set row first 0) n (get_or row first 0 - 1) last_one (drop 1 (items_of row n first)) (pops row n first last_one (items_of row n first) q some).rest)

  module _ (c : ℕ) (here : c < n) (word : ℕ) (word_is : word ≡ get_or row c 0) where
    pub left_by_push : word ≢ 0 → items_of row n first ≡ pushed c old.items
    left_by_push taken = stays row n first last_one (items_of row n first) q c here (λ e. taken (word_is ∙ e)) ∙ ap (pushed c) items_were

    pub left_by_push_first : (row' : List ℕ) → word ≡ 0 → first ≡ n → row' ≡ set row c (n + 1) → Holds row' n c c (pushed c old.items)
    left_by_push_first row' free at_end row_is =
        let xs : List ℕ = items_of row n first in
        let P : List ℕ × List ℕ → Type 0 = λ u. Holds u.0 n c c u.1 in
        subst P (λ i. (sym row_is i, (joins row n first last_one xs q c here (sym word_is ∙ free) ∙ ap (pushed c) items_were) i)) (holds (set row c (n + 1)) n c c (xs ++ c ∷ []) (pushed_first row n first last_one xs q c here at_end))

    pub left_by_push_behind : (row' row'' : List ℕ) → word ≡ 0 → first ≢ n → row' ≡ set row c (n + 1) → row'' ≡ set row' last_one (c + 1) → Holds row'' n first c (pushed c old.items)
    left_by_push_behind row' row'' free some row_is then_is =
        let xs : List ℕ = items_of row n first in
        let whole : row'' ≡ set (set row c (n + 1)) last_one (c + 1) = then_is ∙ ap (λ (r : List ℕ). set r last_one (c + 1)) row_is in
        let P : List ℕ × List ℕ → Type 0 = λ u. Holds u.0 n first c u.1 in
        subst P (λ i. (sym whole i, (joins row n first last_one xs q c here (sym word_is ∙ free) ∙ ap (pushed c) items_were) i)) (holds (set (set row c (n + 1)) last_one (c + 1)) n first c (xs ++ c ∷ []) (pushed_behind row n first last_one xs q c here (sym word_is ∙ free) some))
