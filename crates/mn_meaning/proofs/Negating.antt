-- A negation holds exactly where the constraint doesn't.
use Rattle.std.proofs.Common.{◌≡◌, ℕ, ℤ, pos, negsuc, neg_ℤ, ◌+ℤ◌, ◌-ℤ◌, ◌<ℤ◌, ◌≤ℤ◌, ◌⊎◌, inl, inr, Bool, true, false, int_le, int_lt, ⊎_elim, ◌↔◌, List, [], ◌∷◌, ◌++◌, length, map, refl, sym, ap, subst, ◌∙◌, arith}
use Rattle.std.proofs.lemmas.Int.{ints}
use Rattle.std.proofs.lemmas.List.{length-map, map-append, length-replicate}
use Rattle.std.specs.List.{AllByRecursion}
use Rattle.mn_model.specs.Decided.{Decided, decide_int}
use Rattle.mn_model.specs.Negation.{negation, negations, other, ones}
use Rattle.mn_model.specs.Parts.{places, places_of, bits, bits_of, IsShaped, AreShaped}
use Rattle.mn_model.specs.declared.constraint.Con.{Con}
use Rattle.mn_model.specs.declared.constraint.Cons.{Cons}
use Rattle.mn_model.specs.declared.constraint.Con.TheVariants as con
use Rattle.mn_model.specs.declared.constraint.Con.TheBlock.{more_of-Con, more_of-Cons}
use Rattle.mn_model.specs.declared.constraint.Term.{Term}
use Rattle.mn_model.specs.declared.constraint.Term.TheVariants.{Var, Const, Not}
use Rattle.mn_model.specs.declared.declaration.Tuples.{Tuples}
use Rattle.mn_model.proofs.Lists.{all_back, all_front}
use Rattle.mn_meaning.specs.Families.{occurrences, sum_of, weighted_sum, IsBelow}
use Rattle.mn_meaning.specs.Laws.{IsZeroOrOne, BitsAreBits}
use Rattle.mn_meaning.specs.Meaning.{front, behind, rest, value_of, SomeMeet, EachMeets, HoldsOver, decide_meets}

-- the values at the parts of the places
pub front_is : (f : Term → ℤ) (v w : List Term) → front v (map f (v ++ w)) ≡ map f v
front_is f [] w = refl
front_is f (t ∷ v) w = ap (λ a. f t ∷ a) (front_is f v w)

pub rest_is : (f : Term → ℤ) (v w : List Term) → rest v (map f (v ++ w)) ≡ map f w
rest_is f [] w = refl
rest_is f (t ∷ v) w = rest_is f v w

pub behind_is : (f : Term → ℤ) (v : List Term) (x : Term) (w : List Term) → behind v (map f (v ++ x ∷ w)) ≡ f x
behind_is f [] x w = refl
behind_is f (t ∷ v) x w = behind_is f v x w

-- what can be decided holds where it isn't so that it doesn't
pub not_not : {P : Type 0} → Decided P → P ↔ ((P → ⊥) → ⊥)
not_not (inl p) = (λ q not. not q, λ n. p)
not_not (inr not) = (λ q n. n q, λ n. absurd (n not))

-- two numbers are in order exactly where two others aren't
pub at_most_flips : (a b c d : ℤ) → c +ℤ a ≡ d +ℤ b +ℤ pos 1 → (c ≤ℤ d) ↔ ((a ≤ℤ b) → ⊥)
at_most_flips a b c d sums = (λ le other. omega (arith, ints, sums, le, other), by (int_le a b) refl)
  where
    by : (t : Bool) → int_le a b ≡ t → ((a ≤ℤ b) → ⊥) → c ≤ℤ d
    by true e not = absurd (not (omega (arith, ints, e)))
    by false e not = omega (arith, ints, sums, e)

pub below_flips : (a b c d : ℤ) → c +ℤ a ≡ d +ℤ b → (c ≤ℤ d) ↔ ((a <ℤ b) → ⊥)
below_flips a b c d sums = (λ le other. omega (arith, ints, sums, le, other), by (int_lt a b) refl)
  where
    by : (t : Bool) → int_lt a b ≡ t → ((a <ℤ b) → ⊥) → c ≤ℤ d
    by true e not = absurd (not (omega (arith, ints, e)))
    by false e not = omega (arith, ints, sums, e)

-- sums with weights
weighted_ones : (f : Term → ℤ) (v : List Term) → weighted_sum (ones v) (map f v) ≡ sum_of (map f v)
weighted_ones f [] = refl
weighted_ones f (t ∷ v) = omega (arith, ints, weighted_ones f v)

weighted_less : (ks values : List ℤ) (a : ℤ) → length ks ≡ length values → weighted_sum (ks ++ negsuc 0 ∷ []) (values ++ a ∷ []) ≡ weighted_sum ks values -ℤ a
weighted_less [] [] a same = omega (arith, ints)
weighted_less [] (b ∷ values) a same = absurd (omega (arith, same))
weighted_less (k ∷ ks) [] a same = absurd (omega (arith, same))
weighted_less (k ∷ ks) (b ∷ values) a same = omega (arith, ints, weighted_less ks values a (omega (arith, same)))

-- lists in lexicographic order
not_below_itself : (xs : List ℤ) → IsBelow xs xs → ⊥
not_below_itself [] below = below
not_below_itself (a ∷ xs) (inl less) = omega (arith, ints, less)
not_below_itself (a ∷ xs) (inr both) = not_below_itself xs both.1

not_both_below : (xs ys : List ℤ) → IsBelow xs ys → IsBelow ys xs → ⊥
not_both_below [] ys below above = below
not_both_below (a ∷ xs) [] below above = below
not_both_below (a ∷ xs) (b ∷ ys) (inl less) (inl more) = omega (arith, ints, less, more)
not_both_below (a ∷ xs) (b ∷ ys) (inl less) (inr more) = omega (arith, ints, less, more.0)
not_both_below (a ∷ xs) (b ∷ ys) (inr less) (inl more) = omega (arith, ints, less.0, more)
not_both_below (a ∷ xs) (b ∷ ys) (inr less) (inr more) = not_both_below xs ys less.1 more.1

one_of_three : (xs ys : List ℤ) → length xs ≡ length ys → (IsBelow xs ys ⊎ (xs ≡ ys)) ⊎ IsBelow ys xs
one_of_three [] [] same = inl (inr refl)
one_of_three [] (b ∷ ys) same = absurd (omega (arith, same))
one_of_three (a ∷ xs) [] same = absurd (omega (arith, same))
one_of_three (a ∷ xs) (b ∷ ys) same = by (int_lt a b) refl (decide_int a b) (one_of_three xs ys (omega (arith, same)))
  where
    by : (t : Bool) → int_lt a b ≡ t → Decided (a ≡ b) → (IsBelow xs ys ⊎ (xs ≡ ys)) ⊎ IsBelow ys xs → (IsBelow (a ∷ xs) (b ∷ ys) ⊎ (a ∷ xs ≡ b ∷ ys)) ⊎ IsBelow (b ∷ ys) (a ∷ xs)
    by true e d others = inl (inl (inl (omega (arith, ints, e))))
    by false e (inl alike) (inl (inl below)) = inl (inl (inr (alike, below)))
    by false e (inl alike) (inl (inr all)) = inl (inr (λ i. alike i ∷ all i))
    by false e (inl alike) (inr above) = inr (inr (sym alike, above))
    by false e (inr differs) others = inr (inl (omega (arith, ints, e, differs)))

below_unless : (xs ys : List ℤ) → length xs ≡ length ys → IsBelow ys xs ↔ ((IsBelow xs ys ⊎ (xs ≡ ys)) → ⊥)
below_unless xs ys same = (to, by (one_of_three xs ys same))
  where
    to : IsBelow ys xs → (IsBelow xs ys ⊎ (xs ≡ ys)) → ⊥
    to above (inl below) = not_both_below xs ys below above
    to above (inr alike) = not_below_itself ys (subst (IsBelow ys) alike above)

    by : (IsBelow xs ys ⊎ (xs ≡ ys)) ⊎ IsBelow ys xs → ((IsBelow xs ys ⊎ (xs ≡ ys)) → ⊥) → IsBelow ys xs
    by (inl either) not = absurd (not either)
    by (inr above) not = above

below_or_same_unless : (xs ys : List ℤ) → length xs ≡ length ys → (IsBelow ys xs ⊎ (ys ≡ xs)) ↔ (IsBelow xs ys → ⊥)
below_or_same_unless xs ys same = (to, by (one_of_three xs ys same))
  where
    to : IsBelow ys xs ⊎ (ys ≡ xs) → IsBelow xs ys → ⊥
    to (inl above) below = not_both_below xs ys below above
    to (inr alike) below = not_below_itself xs (subst (IsBelow xs) alike below)

    by : (IsBelow xs ys ⊎ (xs ≡ ys)) ⊎ IsBelow ys xs → (IsBelow xs ys → ⊥) → IsBelow ys xs ⊎ (ys ≡ xs)
    by (inl (inl below)) not = absurd (not below)
    by (inl (inr alike)) not = inr (sym alike)
    by (inr above) not = inl above

-- a 0/1 term and its other
other_is : (values : ℕ → ℤ) (r : Term) → value_of values (other r) ≡ pos 1 -ℤ value_of values r
other_is values (Var v) = refl
other_is values (Const k) = refl
other_is values (Not v) = omega (arith, ints)

-- a test that is turned round
turned : {P : Type 0} (a b : ℤ) → IsZeroOrOne a → b ≡ pos 1 -ℤ a → Decided P → ((b ≡ pos 1) ↔ P) ↔ (((a ≡ pos 1) ↔ P) → ⊥)
turned {P} a b bit is decided = (to, from decided)
  where
    differ : a ≡ pos 1 → b ≡ pos 1 → ⊥
    differ e f = omega (arith, ints, is, e, f)

    one_is : (a ≡ pos 1) ⊎ (b ≡ pos 1)
    one_is = by bit
      where
        by : IsZeroOrOne a → (a ≡ pos 1) ⊎ (b ≡ pos 1)
        by (inl none) = inr (omega (arith, ints, is, none))
        by (inr one) = inl one

    to : (b ≡ pos 1) ↔ P → ((a ≡ pos 1) ↔ P) → ⊥
    to there here = by one_is
      where
        by : (a ≡ pos 1) ⊎ (b ≡ pos 1) → ⊥
        by (inl one) = differ one (there.1 (here.0 one))
        by (inr one) = differ (here.1 (there.0 one)) one

    from : Decided P → (((a ≡ pos 1) ↔ P) → ⊥) → (b ≡ pos 1) ↔ P
    from (inl p) not = (λ one. p, λ q. by one_is)
      where
        by : (a ≡ pos 1) ⊎ (b ≡ pos 1) → b ≡ pos 1
        by (inl one) = absurd (not (λ e. p, λ q. one))
        by (inr one) = one
    from (inr never) not = (λ one. absurd (not (λ e. absurd (differ e one), λ q. absurd (never q))), λ q. absurd (never q))

-- either, and both
neither : {P Q R S : Type 0} → P ↔ (R → ⊥) → Q ↔ (S → ⊥) → (P × Q) ↔ (R ⊎ S → ⊥)
neither first second = (λ both either. ⊎_elim (first.0 both.0) (second.0 both.1) either, λ none. (first.1 (λ r. none (inl r)), second.1 (λ s. none (inr s))))

not_both : {P Q R S : Type 0} → Decided R → P ↔ (R → ⊥) → Q ↔ (S → ⊥) → (P ⊎ Q) ↔ (R × S → ⊥)
not_both {P} {Q} {R} {S} decided first second = (λ either both. ⊎_elim (λ p. first.0 p both.0) (λ q. second.0 q both.1) either, by decided)
  where
    by : Decided R → (R × S → ⊥) → P ⊎ Q
    by (inl r) not = inr (second.1 (λ s. not (r, s)))
    by (inr nor) not = inl (first.1 nor)

-- the sum of a vector less x, as a negation has it
sum_above : (values : ℕ → ℤ) (ks : List ℤ) (v : List Term) (x k : Term) → length ks ≡ length v
    → weighted_sum (ks ++ negsuc 0 ∷ []) (front (v ++ x ∷ []) (map (value_of values) ((v ++ x ∷ []) ++ k ∷ []))) ≡ weighted_sum ks (map (value_of values) v) -ℤ value_of values x
sum_above values ks v x k same =
    ap (weighted_sum (ks ++ negsuc 0 ∷ [])) (front_is (value_of values) (v ++ x ∷ []) (k ∷ []) ∙ map-append (value_of values) v (x ∷ []))
    ∙ weighted_less ks (map (value_of values) v) (value_of values x) (same ∙ sym (length-map v (value_of values)))

-- sums that are turned round
above_flips : (values : ℕ → ℤ) (ks : List ℤ) (v : List Term) (x : Term) (s b : ℤ) → length ks ≡ length v → s ≡ weighted_sum ks (map (value_of values) v) → b ≡ value_of values x
    → (behind (v ++ x ∷ []) (map (value_of values) ((v ++ x ∷ []) ++ Const (pos 1) ∷ [])) ≤ℤ weighted_sum (ks ++ negsuc 0 ∷ []) (front (v ++ x ∷ []) (map (value_of values) ((v ++ x ∷ []) ++ Const (pos 1) ∷ [])))) ↔ ((s ≤ℤ b) → ⊥)
above_flips values ks v x s b same sum above =
    at_most_flips s b (behind (v ++ x ∷ []) (map (value_of values) ((v ++ x ∷ []) ++ Const (pos 1) ∷ []))) (weighted_sum (ks ++ negsuc 0 ∷ []) (front (v ++ x ∷ []) (map (value_of values) ((v ++ x ∷ []) ++ Const (pos 1) ∷ []))))
    (omega (arith, ints, behind_is (value_of values) (v ++ x ∷ []) (Const (pos 1)) [], sum_above values ks v x (Const (pos 1)) same, sum, above))

below_flips_sum : (values : ℕ → ℤ) (ks : List ℤ) (v : List Term) (x : Term) (s b : ℤ) → length ks ≡ length v → s ≡ weighted_sum ks (map (value_of values) v) → b ≡ value_of values x
    → (weighted_sum (ks ++ negsuc 0 ∷ []) (front (v ++ x ∷ []) (map (value_of values) ((v ++ x ∷ []) ++ Const (negsuc 0) ∷ []))) ≤ℤ behind (v ++ x ∷ []) (map (value_of values) ((v ++ x ∷ []) ++ Const (negsuc 0) ∷ []))) ↔ ((b ≤ℤ s) → ⊥)
below_flips_sum values ks v x s b same sum above =
    at_most_flips b s (weighted_sum (ks ++ negsuc 0 ∷ []) (front (v ++ x ∷ []) (map (value_of values) ((v ++ x ∷ []) ++ Const (negsuc 0) ∷ [])))) (behind (v ++ x ∷ []) (map (value_of values) ((v ++ x ∷ []) ++ Const (negsuc 0) ∷ [])))
    (omega (arith, ints, behind_is (value_of values) (v ++ x ∷ []) (Const (negsuc 0)) [], sum_above values ks v x (Const (negsuc 0)) same, sum, above))

sum_is : (values : ℕ → ℤ) (v : List Term) (x : Term) → sum_of (front v (map (value_of values) (v ++ x ∷ []))) ≡ weighted_sum (ones v) (map (value_of values) v)
sum_is values v x = ap sum_of (front_is (value_of values) v (x ∷ [])) ∙ sym (weighted_ones (value_of values) v)

as_many_ones : (v : List Term) → length (ones v) ≡ length v
as_many_ones v = length-replicate (length v) (pos 1)

-- what is implied
implied : {B P N : Type 0} → Decided B → Decided P → N ↔ (P → ⊥) → (B × (N × Unit {0})) ↔ ((B → P) → ⊥)
implied {B} {P} {N} b p flips = (λ both imply. flips.0 both.1.0 (imply both.0), by b p)
  where
    by : Decided B → Decided P → ((B → P) → ⊥) → B × (N × Unit {0})
    by (inl one) (inl p) not = absurd (not (λ o. p))
    by (inl one) (inr never) not = (one, (flips.1 never, tt))
    by (inr none) p not = absurd (not (λ o. absurd (none o)))

-- of each constraint, and of the children of a form
mutual
  pub negation_holds : (lists : List Tuples) (values : ℕ → ℤ) (c : Con) → IsShaped c → BitsAreBits values c → HoldsOver lists values (negation c) ↔ (HoldsOver lists values c → ⊥)
  negation_holds lists values (con.Eq x y) shaped zeros = (λ h. h, λ h. h)
  negation_holds lists values (con.Diseq x y) shaped zeros = not_not (decide_int (value_of values x) (value_of values y))
  negation_holds lists values (con.Ineq x y k) shaped zeros = at_most_flips (value_of values x) (value_of values y +ℤ k) (value_of values y) (value_of values x +ℤ (neg_ℤ k -ℤ pos 1)) (omega (arith, ints))
  negation_holds lists values (con.Watchless x y) shaped zeros = below_flips (value_of values x) (value_of values y) (value_of values y) (value_of values x +ℤ pos 0) (omega (arith, ints))
  negation_holds lists values (con.Sumleq v x) shaped zeros = above_flips values (ones v) v x (sum_of (front v (map (value_of values) (v ++ x ∷ [])))) (behind v (map (value_of values) (v ++ x ∷ []))) (as_many_ones v) (sum_is values v x) (behind_is (value_of values) v x [])
  negation_holds lists values (con.Sumgeq v x) shaped zeros = below_flips_sum values (ones v) v x (sum_of (front v (map (value_of values) (v ++ x ∷ [])))) (behind v (map (value_of values) (v ++ x ∷ []))) (as_many_ones v) (sum_is values v x) (behind_is (value_of values) v x [])
  negation_holds lists values (con.Weightedsumleq ks v x) shaped zeros = above_flips values ks v x (weighted_sum ks (front v (map (value_of values) (v ++ x ∷ [])))) (behind v (map (value_of values) (v ++ x ∷ []))) shaped (ap (weighted_sum ks) (front_is (value_of values) v (x ∷ []))) (behind_is (value_of values) v x [])
  negation_holds lists values (con.Weightedsumgeq ks v x) shaped zeros = below_flips_sum values ks v x (weighted_sum ks (front v (map (value_of values) (v ++ x ∷ [])))) (behind v (map (value_of values) (v ++ x ∷ []))) shaped (ap (weighted_sum ks) (front_is (value_of values) v (x ∷ []))) (behind_is (value_of values) v x [])
  negation_holds lists values (con.Watchsumleq v k) shaped zeros = at_most_flips (sum_of (map (value_of values) v)) k (k +ℤ pos 1) (sum_of (map (value_of values) v)) (omega (arith, ints))
  negation_holds lists values (con.Watchsumgeq v k) shaped zeros = at_most_flips k (sum_of (map (value_of values) v)) (sum_of (map (value_of values) v)) (k -ℤ pos 1) (omega (arith, ints))
  negation_holds lists values (con.Occurrenceleq v k k2) shaped zeros = at_most_flips (pos (occurrences k (map (value_of values) v))) k2 (k2 +ℤ pos 1) (pos (occurrences k (map (value_of values) v))) (omega (arith, ints))
  negation_holds lists values (con.Occurrencegeq v k k2) shaped zeros = at_most_flips k2 (pos (occurrences k (map (value_of values) v))) (pos (occurrences k (map (value_of values) v))) (k2 -ℤ pos 1) (omega (arith, ints))
  negation_holds lists values (con.Table v tab) shaped zeros = (λ h. h, λ h. h)
  negation_holds lists values (con.Negativetable v tab) shaped zeros = not_not (decide_meets lists (con.Table v tab) (map (value_of values) v))
  negation_holds lists values (con.Lexleq v w) shaped zeros =
      rw (front_is (value_of values) w v, rest_is (value_of values) w v, front_is (value_of values) v w, rest_is (value_of values) v w)
      (below_unless (map (value_of values) v) (map (value_of values) w) (length-map v (value_of values) ∙ sym shaped ∙ sym (length-map w (value_of values))))
  negation_holds lists values (con.Lexless v w) shaped zeros =
      rw (front_is (value_of values) w v, rest_is (value_of values) w v, front_is (value_of values) v w, rest_is (value_of values) v w)
      (below_or_same_unless (map (value_of values) v) (map (value_of values) w) (length-map v (value_of values) ∙ sym shaped ∙ sym (length-map w (value_of values))))
  negation_holds lists values (con.WLiteral x k) shaped zeros = (λ h. h, λ h. h)
  negation_holds lists values (con.WNotliteral x k) shaped zeros = not_not (decide_int (value_of values x) k)
  negation_holds lists values (con.WInset x ks) shaped zeros = (λ h. h, λ h. h)
  negation_holds lists values (con.WNotinset x ks) shaped zeros = not_not (decide_meets lists (con.WInset x ks) (value_of values x ∷ []))
  negation_holds lists values (con.WInrange x k k2) shaped zeros = (λ h. h, λ h. h)
  negation_holds lists values (con.WNotinrange x k k2) shaped zeros = not_not (decide_meets lists (con.WInrange x k k2) (value_of values x ∷ []))
  negation_holds lists values con.Always shaped zeros = (λ never all. never, λ not. not tt)
  negation_holds lists values con.Never shaped zeros = (λ all never. never, λ not. tt)
  negation_holds lists values (con.WatchedOr cs) shaped zeros = none_holds lists values cs shaped zeros
  negation_holds lists values (con.WatchedAnd cs) shaped zeros = some_fails lists values cs shaped zeros
  negation_holds lists values (con.Reify' p (more_of-Con c none) r) shaped zeros =
      rw (front_is (value_of values) (places c) (other r ∷ []), behind_is (value_of values) (places c) (other r) [], front_is (value_of values) (places c) (r ∷ []), behind_is (value_of values) (places c) r [])
      (turned (value_of values r) (value_of values (other r)) (all_back (λ t. IsZeroOrOne (value_of values t)) (bits c) (r ∷ []) zeros).0 (other_is values r) (decide_meets lists c (map (value_of values) (places c))))
  negation_holds lists values (con.Reifyimply' p (more_of-Con c none) r) shaped zeros =
      rw (front_is (value_of values) (places (negation c)) [], front_is (value_of values) (places c) (r ∷ []), behind_is (value_of values) (places c) r [])
      (implied (decide_int (value_of values r) (pos 1)) (decide_meets lists c (map (value_of values) (places c)))
      (negation_holds lists values c shaped (all_front (λ t. IsZeroOrOne (value_of values t)) (bits c) (r ∷ []) zeros)))
  negation_holds lists values (con.Negated' p (more_of-Con c none)) shaped zeros = not_not (decide_meets lists c (map (value_of values) (places c)))
  negation_holds lists values c shaped zeros = (λ h. h, λ h. h)

  none_holds : (lists : List Tuples) (values : ℕ → ℤ) (cs : Cons) → AreShaped cs → AllByRecursion (λ t. IsZeroOrOne (value_of values t)) (bits_of cs)
      → EachMeets lists (negations cs) (map (value_of values) (places_of (negations cs))) ↔ (SomeMeet lists cs (map (value_of values) (places_of cs)) → ⊥)
  none_holds lists values con.End shaped zeros = (λ all never. never, λ not. tt)
  none_holds lists values (con.More' p (more_of-Con c none) q (more_of-Cons cs nothing)) shaped zeros =
      rw (front_is (value_of values) (places (negation c)) (places_of (negations cs)), rest_is (value_of values) (places (negation c)) (places_of (negations cs)), front_is (value_of values) (places c) (places_of cs), rest_is (value_of values) (places c) (places_of cs))
      (neither (negation_holds lists values c shaped.0 (all_front (λ t. IsZeroOrOne (value_of values t)) (bits c) (bits_of cs) zeros))
      (none_holds lists values cs shaped.1 (all_back (λ t. IsZeroOrOne (value_of values t)) (bits c) (bits_of cs) zeros)))

  some_fails : (lists : List Tuples) (values : ℕ → ℤ) (cs : Cons) → AreShaped cs → AllByRecursion (λ t. IsZeroOrOne (value_of values t)) (bits_of cs)
      → SomeMeet lists (negations cs) (map (value_of values) (places_of (negations cs))) ↔ (EachMeets lists cs (map (value_of values) (places_of cs)) → ⊥)
  some_fails lists values con.End shaped zeros = (λ never all. never, λ not. not tt)
  some_fails lists values (con.More' p (more_of-Con c none) q (more_of-Cons cs nothing)) shaped zeros =
      rw (front_is (value_of values) (places (negation c)) (places_of (negations cs)), rest_is (value_of values) (places (negation c)) (places_of (negations cs)), front_is (value_of values) (places c) (places_of cs), rest_is (value_of values) (places c) (places_of cs))
      (not_both (decide_meets lists c (map (value_of values) (places c))) (negation_holds lists values c shaped.0 (all_front (λ t. IsZeroOrOne (value_of values t)) (bits c) (bits_of cs) zeros))
      (some_fails lists values cs shaped.1 (all_back (λ t. IsZeroOrOne (value_of values t)) (bits c) (bits_of cs) zeros)))
