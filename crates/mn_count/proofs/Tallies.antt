-- How often a value stands whatever is chosen, and how often it can.
use Rattle.std.proofs.Common.{◌≡◌, ◌≢◌, ℕ, ◌+◌, ◌<◌, ◌≤◌, ℤ, pos, ◌+ℤ◌, ◌⊎◌, inl, inr, List, [], ◌∷◌, drop, length, slice_get, slice_set, Some, refl, sym, subst, ap, ◌∙◌, arith}
use Rattle.std.proofs.lemmas.Int.{ints}
use Rattle.mn_model.specs.Decided.{Decided, decide_int}
use Rattle.mn_model.specs.declared.constraint.Term.{Term}
use Rattle.mn_boxes.specs.Boxes.{IsBox}
use Rattle.mn_boxes.specs.Places.{PlaceHas}
use Rattle.mn_boxes.specs.Sets.{Variable}
use Rattle.mn_meaning.specs.Families.{occurrences}
use Rattle.mn_meaning.specs.Meaning.{at}
use Rattle.mn_closure.specs.Closed.{IsAlone}
use Rattle.mn_closure.specs.Supports.{Choice, IsOpen}
use Rattle.mn_prop.specs.Contexts.{IsNamed}
use Rattle.mn_prop.proofs.Boxing.{some_value}
use Rattle.mn_count.specs.Occurrences.{AllKept, IsFewest, IsMost, IsTally}
use Rattle.mn_count.proofs.Counting.{between, one_at_most, one_other, one_same, set_count}
use Rattle.mn_count.proofs.Entries.{at_there, chosen_there, chosen_with, left_next, none_left}

-- the place has another value than k
pub record HasOther (box : List (List ℤ)) (t : Term) (k : ℤ) : Type 0 where
  pub value : ℤ
  pub there : PlaceHas box t value
  pub differs : value ≢ k

-- an open place has
pub open_other : (box : List (List ℤ)) (t : Term) (k : ℤ) → IsOpen box t → HasOther box t k
open_other box t k two = by (decide_int two.one k)
  where
    by : Decided (two.one ≡ k) → HasOther box t k
    by (inl same) = record { value = two.another; there = two.has_another; differs = λ too. two.differ (same ∙ sym too) }
    by (inr differs) = record { value = two.one; there = two.has_one; differs = differs }

module _ (box : List (List ℤ)) (k : ℤ) where
  fewest_none : IsFewest box k [] 0
  fewest_none = record { values = []; chosen = tt; is = refl; fewest = λ s chosen. omega arith }

  most_none : IsMost box k [] 0
  most_none = record { values = []; chosen = tt; is = refl; most = most }
    where
      most : (s : List ℤ) → Choice box [] s → occurrences k s ≤ 0
      most [] chosen = omega arith
      most (a ∷ s) chosen = absurd chosen

  -- a place that has k alone
  fewest_alone : (t : Term) (v : List Term) (n : ℕ) → PlaceHas box t k → IsAlone box t k → IsFewest box k v n → IsFewest box k (t ∷ v) (1 + n)
  fewest_alone t v n there alone f = record {
    values = k ∷ f.values;
    chosen = (there, f.chosen);
    is = (let one = one_same k k refl in let is = f.is in omega (arith, one, is));
    fewest = fewest;
  }
    where
      fewest : (s : List ℤ) → Choice box (t ∷ v) s → 1 + n ≤ occurrences k s
      fewest [] chosen = absurd chosen
      fewest (a ∷ s) chosen = let one = one_same k a (alone a chosen.0) in let later = f.fewest s chosen.1 in omega (arith, one, later)

  -- one that has another value
  fewest_other : (t : Term) (v : List Term) (n : ℕ) → HasOther box t k → IsFewest box k v n → IsFewest box k (t ∷ v) n
  fewest_other t v n other f = record {
    values = other.value ∷ f.values;
    chosen = (other.there, f.chosen);
    is = (let none = one_other k other.value other.differs in let is = f.is in omega (arith, none, is));
    fewest = fewest;
  }
    where
      fewest : (s : List ℤ) → Choice box (t ∷ v) s → n ≤ occurrences k s
      fewest [] chosen = absurd chosen
      fewest (a ∷ s) chosen = let later = f.fewest s chosen.1 in omega (arith, later)

  -- one that has k
  most_has : (t : Term) (v : List Term) (n : ℕ) → PlaceHas box t k → IsMost box k v n → IsMost box k (t ∷ v) (1 + n)
  most_has t v n there m = record {
    values = k ∷ m.values;
    chosen = (there, m.chosen);
    is = (let one = one_same k k refl in let is = m.is in omega (arith, one, is));
    most = most;
  }
    where
      most : (s : List ℤ) → Choice box (t ∷ v) s → occurrences k s ≤ 1 + n
      most [] chosen = absurd chosen
      most (a ∷ s) chosen = let one = one_at_most k a in let later = m.most s chosen.1 in omega (arith, one, later)

  -- one that hasn't
  most_not : (t : Term) (v : List Term) (n : ℕ) → HasOther box t k → (PlaceHas box t k → ⊥) → IsMost box k v n → IsMost box k (t ∷ v) n
  most_not t v n other none m = record {
    values = other.value ∷ m.values;
    chosen = (other.there, m.chosen);
    is = (let zero = one_other k other.value other.differs in let is = m.is in omega (arith, zero, is));
    most = most;
  }
    where
      most : (s : List ℤ) → Choice box (t ∷ v) s → occurrences k s ≤ n
      most [] chosen = absurd chosen
      most (a ∷ s) chosen = let zero = one_other k a (λ same. none (subst (PlaceHas box t) same chosen.0)) in let later = m.most s chosen.1 in omega (arith, zero, later)

  -- ---- counting

  -- those counted and those among the places that are left are all
  pub record TalliedTo (v : List Term) (i : ℕ) (must may : ℤ) : Type 0 where
    pub low : ℕ
    pub high : ℕ
    pub must_is : must ≡ pos low
    pub may_is : may ≡ pos high
    pub few_low : low ≤ i
    pub few_high : high ≤ i
    pub fewest : (n : ℕ) → IsFewest box k (drop i v) n → IsFewest box k v (low + n)
    pub most : (n : ℕ) → IsMost box k (drop i v) n → IsMost box k v (high + n)

  pub none_tallied : (v : List Term) → TalliedTo v 0 (pos 0) (pos 0)
  none_tallied v = record { low = 0; high = 0; must_is = refl; may_is = refl; few_low = omega arith; few_high = omega arith; fewest = λ n f. subst (IsFewest box k v) (omega arith) f; most = λ n m. subst (IsMost box k v) (omega arith) m }

  pub alone_tallied : (v : List Term) (i : ℕ) (t : Term) (b must may must_next may_next : ℤ) → slice_get v i ≡ Some t → PlaceHas box t k → IsAlone box t b → must_next ≡ must +ℤ pos 1 → may_next ≡ may +ℤ pos 1 → TalliedTo v i must may → TalliedTo v (i + 1) must_next may_next
  alone_tallied v i t b must may must_next may_next stands there alone one_must one_may so = record {
    low = so.low + 1;
    high = so.high + 1;
    must_is = (let is = so.must_is in omega (arith, ints, is, one_must));
    may_is = (let is = so.may_is in omega (arith, ints, is, one_may));
    few_low = (let few = so.few_low in omega (arith, few));
    few_high = (let few = so.few_high in omega (arith, few));
    fewest = λ n f. subst (IsFewest box k v) (omega arith) (so.fewest (1 + n) (subst (λ l. IsFewest box k l (1 + n)) (sym (left_next v i t stands)) (fewest_alone t (drop (i + 1) v) n there (λ a has. alone a has ∙ sym (alone k there)) f)));
    most = λ n m. subst (IsMost box k v) (omega arith) (so.most (1 + n) (subst (λ l. IsMost box k l (1 + n)) (sym (left_next v i t stands)) (most_has t (drop (i + 1) v) n there m)));
  }

  pub open_tallied : (v : List Term) (i : ℕ) (t : Term) (must may must_next may_next : ℤ) → slice_get v i ≡ Some t → PlaceHas box t k → IsOpen box t → must_next ≡ must → may_next ≡ may +ℤ pos 1 → TalliedTo v i must may → TalliedTo v (i + 1) must_next may_next
  open_tallied v i t must may must_next may_next stands there two same_must one_may so = record {
    low = so.low;
    high = so.high + 1;
    must_is = same_must ∙ so.must_is;
    may_is = (let is = so.may_is in omega (arith, ints, is, one_may));
    few_low = (let few = so.few_low in omega (arith, few));
    few_high = (let few = so.few_high in omega (arith, few));
    fewest = λ n f. so.fewest n (subst (λ l. IsFewest box k l n) (sym (left_next v i t stands)) (fewest_other t (drop (i + 1) v) n (open_other box t k two) f));
    most = λ n m. subst (IsMost box k v) (omega arith) (so.most (1 + n) (subst (λ l. IsMost box k l (1 + n)) (sym (left_next v i t stands)) (most_has t (drop (i + 1) v) n there m)));
  }

  pub other_tallied : (vars : List Variable) (v : List Term) (i : ℕ) (t : Term) (must may : ℤ) → IsBox vars box → IsNamed vars t → slice_get v i ≡ Some t → (PlaceHas box t k → ⊥) → TalliedTo v i must may → TalliedTo v (i + 1) must may
  other_tallied vars v i t must may lawful named stands none so =
      let some = some_value vars box t lawful named in
      let other : HasOther box t k = record { value = some.0; there = some.1; differs = λ same. none (subst (PlaceHas box t) same some.1) } in
      record {
        low = so.low;
        high = so.high;
        must_is = so.must_is;
        may_is = so.may_is;
        few_low = (let few = so.few_low in omega (arith, few));
        few_high = (let few = so.few_high in omega (arith, few));
        fewest = λ n f. so.fewest n (subst (λ l. IsFewest box k l n) (sym (left_next v i t stands)) (fewest_other t (drop (i + 1) v) n other f));
        most = λ n m. so.most n (subst (λ l. IsMost box k l n) (sym (left_next v i t stands)) (most_not t (drop (i + 1) v) n other none m));
      }

  pub all_tallied : (v : List Term) (i : ℕ) (must may : ℤ) → length v ≤ i → TalliedTo v i must may → IsTally box k v must may
  all_tallied v i must may whole so = record {
    low = so.low;
    high = so.high;
    must_is = so.must_is;
    may_is = so.may_is;
    fewest = subst (IsFewest box k v) (omega arith) (so.fewest 0 (subst (λ l. IsFewest box k l 0) (sym (none_left v i whole)) fewest_none));
    most = subst (IsMost box k v) (omega arith) (so.most 0 (subst (λ l. IsMost box k l 0) (sym (none_left v i whole)) most_none));
  }

  -- ---- what is between

  module _ (v : List Term) (m n : ℕ) (f : IsFewest box k v m) (g : IsMost box k v n) where
    pub few_many : m ≤ n
    few_many = let least = f.fewest g.values g.chosen in let is = g.is in omega (arith, least, is)

    -- each number is reached
    pub reached : (l : ℕ) → m ≤ l → l ≤ n → (s : List ℤ) × Choice box v s × (occurrences k s ≡ l)
    reached l from to =
        let some = between (PlaceHas box) k v f.values g.values l f.chosen g.chosen (let is = f.is in omega (arith, is, from)) (let is = g.is in omega (arith, is, to)) in
        (some.values, some.chosen, some.is)

    -- with a value at a place
    pub record IsReachedWith (i : ℕ) (a : ℤ) (l : ℕ) : Type 0 where
      pub values : List ℤ
      pub chosen : Choice box v values
      pub given : at values i ≡ a
      pub is : occurrences k values ≡ l

    reached_with : (i : ℕ) (t : Term) (a : ℤ) (l : ℕ) → slice_get v i ≡ Some t → PlaceHas box t a → occurrences k (slice_set f.values i a) ≤ l → l ≤ occurrences k (slice_set g.values i a) → IsReachedWith i a l
    reached_with i t a l stands has from to =
        let some =
        between (PlaceHas box) k v (slice_set f.values i a) (slice_set g.values i a) l (chosen_with (PlaceHas box) v f.values i t a f.chosen stands has) (chosen_with (PlaceHas box) v g.values i t a g.chosen stands has) from to in
        record {
          values = some.values;
          chosen = some.chosen;
          given = some.common i a (at_there (PlaceHas box) v f.values i t a f.chosen stands) (at_there (PlaceHas box) v g.values i t a g.chosen stands);
          is = some.is;
        }

    -- k itself: alone, or with one more than what stands whatever is chosen
    pub with_itself : (i : ℕ) (t : Term) (l : ℕ) → slice_get v i ≡ Some t → PlaceHas box t k → m ≤ l → l ≤ n → (l ≡ m → IsAlone box t k) → IsReachedWith i k l
    with_itself i t l stands has from to alone = reached_with i t k l stands has low high
      where
        high : l ≤ occurrences k (slice_set g.values i k)
        high =
            let set = set_count (PlaceHas box) v k g.values i t k g.chosen stands in
            let one = one_same k k refl in
            let less = one_at_most k (at g.values i) in
            let is = g.is in
            omega (arith, set, one, less, is, to)

        low : occurrences k (slice_set f.values i k) ≤ l
        low = by (same_or (decide_int (pos l) (pos m)))
          where
            same_or : Decided (pos l ≡ pos m) → (l ≡ m) ⊎ (m < l)
            same_or (inl same) = inl (omega (arith, ints, same))
            same_or (inr differs) = inr (more (λ same. differs (ap pos same)))
              where
                more : (l ≡ m → ⊥) → m < l
                more not = omega (arith, from, not)

            by : (l ≡ m) ⊎ (m < l) → occurrences k (slice_set f.values i k) ≤ l
            by (inl same) =
                let set = set_count (PlaceHas box) v k f.values i t k f.chosen stands in
                let one = one_same k k refl in
                let was = one_same k (at f.values i) (alone same (at f.values i) (chosen_there (PlaceHas box) v f.values i t f.chosen stands)) in
                let is = f.is in
                omega (arith, set, one, was, is, same)
            by (inr less) =
                let set = set_count (PlaceHas box) v k f.values i t k f.chosen stands in
                let one = one_same k k refl in
                let is = f.is in
                omega (arith, set, one, is, less)

    -- another value: where the place hasn't k, or with one less than what can stand
    pub with_another : (i : ℕ) (t : Term) (a : ℤ) (l : ℕ) → slice_get v i ≡ Some t → PlaceHas box t a → a ≢ k → m ≤ l → l ≤ n → (l ≡ n → PlaceHas box t k → ⊥) → IsReachedWith i a l
    with_another i t a l stands has differs from to none = reached_with i t a l stands has low high
      where
        low : occurrences k (slice_set f.values i a) ≤ l
        low =
            let set = set_count (PlaceHas box) v k f.values i t a f.chosen stands in
            let zero = one_other k a differs in
            let is = f.is in
            omega (arith, set, zero, is, from)

        high : l ≤ occurrences k (slice_set g.values i a)
        high = by (same_or (decide_int (pos l) (pos n)))
          where
            same_or : Decided (pos l ≡ pos n) → (l ≡ n) ⊎ (l < n)
            same_or (inl same) = inl (omega (arith, ints, same))
            same_or (inr other) = inr (less (λ same. other (ap pos same)))
              where
                less : (l ≡ n → ⊥) → l < n
                less not = omega (arith, to, not)

            by : (l ≡ n) ⊎ (l < n) → l ≤ occurrences k (slice_set g.values i a)
            by (inl same) =
                let set = set_count (PlaceHas box) v k g.values i t a g.chosen stands in
                let zero = one_other k a differs in
                let was = one_other k (at g.values i) (λ is. none same (subst (PlaceHas box t) is (chosen_there (PlaceHas box) v g.values i t g.chosen stands))) in
                let is = g.is in
                omega (arith, set, zero, was, is, same)
            by (inr less) =
                let set = set_count (PlaceHas box) v k g.values i t a g.chosen stands in
                let zero = one_other k a differs in
                let most = one_at_most k (at g.values i) in
                let is = g.is in
                omega (arith, set, zero, most, is, less)

    -- where all choices have k as often, no place has it beside another value
    pub flat : m ≡ n → AllKept k v box
    flat same i within t stands has b there = by (decide_int b k)
      where
        by : Decided (b ≡ k) → b ≡ k
        by (inl is) = is
        by (inr differs) =
            let one = set_count (PlaceHas box) v k f.values i t k f.chosen stands in
            let other = set_count (PlaceHas box) v k f.values i t b f.chosen stands in
            let most = g.most (slice_set f.values i k) (chosen_with (PlaceHas box) v f.values i t k f.chosen stands has) in
            let least = f.fewest (slice_set f.values i b) (chosen_with (PlaceHas box) v f.values i t b f.chosen stands there) in
            let is = one_same k k refl in
            let zero = one_other k b differs in
            absurd (omega (arith, one, other, most, least, is, zero, same))
