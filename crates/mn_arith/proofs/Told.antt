-- Which values of a greatest or a least, and of its places, are supported.
use Rattle.std.proofs.Common.{◌≡◌, ◌≢◌, ◌↔◌, ℕ, suc, ◌<◌, ℤ, ◌⊎◌, inl, inr, Bool, true, false, IsTrue, List, [], ◌∷◌, ◌++◌, length, take, slice_get, Some, refl, sym, subst, ap, ◌∙◌, arith}
use Rattle.std.proofs.lemmas.Int.{ints}
use Rattle.std.proofs.lemmas.Option.{slice_get_within}
use Rattle.mn_model.specs.Decided.{Decided, decide_nat}
use Rattle.mn_model.specs.Domain.{Has}
use Rattle.mn_model.specs.Parts.{places}
use Rattle.mn_model.specs.declared.constraint.Term.{Term}
use Rattle.mn_model.specs.declared.declaration.Tuples.{Tuples}
use Rattle.mn_model.proofs.Lists.{some_there}
use Rattle.mn_boxes.specs.Places.{PlaceHas}
use Rattle.mn_meaning.specs.Families.{IsExtreme, IsWithin}
use Rattle.mn_meaning.specs.Meaning.{Meets, at}
use Rattle.mn_closure.specs.Levels.{Arc, level}
use Rattle.mn_closure.specs.Supports.{Choice, ChoiceWith, StandsAt, Supported, SupportedAt}
use Rattle.mn_prop.specs.Posts.{HasAt}
use Rattle.mn_arith.specs.Extremes.{OtherHas, OthersReach, Reaches, SomeExtreme, extreme_con}
use Rattle.mn_arith.proofs.Choosing.{Chosen, StandsFirst, ValueOf, all_first, behind_is, behind_long, behind_stands, choice_long, choose, first_all, first_has, front_stands, has_first, stands_front, value_there}

module _ (greatest : Bool) (v : List Term) (x : Term) where
  pub is_arc : level (extreme_con greatest v x) ≡ Arc
  is_arc = by greatest
    where
      by : (g : Bool) → level (extreme_con g v x) ≡ Arc
      by true = refl
      by false = refl

  pub its_places : places (extreme_con greatest v x) ≡ v ++ x ∷ []
  its_places = by greatest
    where
      by : (g : Bool) → places (extreme_con g v x) ≡ v ++ x ∷ []
      by true = refl
      by false = refl

  met_so : (lists : List Tuples) (a : List ℤ) → Meets lists (extreme_con greatest v x) a → IsExtreme greatest (take (length v) a) (at a (length v))
  met_so lists a = by greatest
    where
      by : (g : Bool) → Meets lists (extreme_con g v x) a → IsExtreme g (take (length v) a) (at a (length v))
      by true meets = meets
      by false meets = meets

  so_met : (lists : List Tuples) (a : List ℤ) → IsExtreme greatest (take (length v) a) (at a (length v)) → Meets lists (extreme_con greatest v x) a
  so_met lists a = by greatest
    where
      by : (g : Bool) → IsExtreme g (take (length v) a) (at a (length v)) → Meets lists (extreme_con g v x) a
      by true is = is
      by false is = is

-- a number is within itself
pub itself : (greatest : Bool) (a : ℤ) → IsWithin greatest a a
itself true a = omega (arith, ints)
itself false a = omega (arith, ints)

same_entry : (v : List Term) (i : ℕ) (t u : Term) → slice_get v i ≡ Some t → slice_get v i ≡ Some u → t ≡ u
same_entry v i t u one another = cc (one, another)

-- the values that are chosen for support: each of the first n is within m, that at i is a, that at k is m, and so is the last
record Suits (greatest : Bool) (n i k : ℕ) (a m : ℤ) (j : ℕ) (b : ℤ) : Type 0 where
  pub within : j < n → IsWithin greatest m b
  pub given : j ≡ i → b ≡ a
  pub found : j ≡ k → b ≡ m
  pub last : j ≡ n → b ≡ m

module _ (greatest : Bool) (v : List Term) (x : Term) (lists : List Tuples) (box : List (List ℤ)) where
  -- by such values it is supported
  by_chosen : (i k : ℕ) (a m : ℤ) → i < suc (length v) → k < length v → Chosen box (v ++ x ∷ []) (Suits greatest (length v) i k a m) → Supported lists (extreme_con greatest v x) i a box
  by_chosen i k a m below some all = subst (λ l. SupportedAt l lists (extreme_con greatest v x) i a box) (sym (is_arc greatest v x)) (record {
    values = all.values;
    chosen = subst (λ ts. Choice box ts all.values) (sym (its_places greatest v x)) all.chosen;
    given = (all.has i (omega (arith, longer, below))).given refl;
    meets = so_met greatest v x lists all.values (subst (IsExtreme greatest (take (length v) all.values)) (sym last_is) (subst (Has (take (length v) all.values)) found_is (first_has (length v) all.values k some (omega (arith, longer, as_long, some))), all_first (IsWithin greatest m) (length v) all.values (λ j at_j. (all.has j (omega (arith, longer, at_j))).within at_j)));
  })
    where
      longer : length (v ++ x ∷ []) ≡ suc (length v)
      longer = behind_long v x

      as_long : length all.values ≡ length (v ++ x ∷ [])
      as_long = choice_long box (v ++ x ∷ []) all.values all.chosen

      last_is : at all.values (length v) ≡ m
      last_is = (all.has (length v) (omega (arith, longer))).last refl

      found_is : at all.values k ≡ m
      found_is = (all.has k (omega (arith, longer, some))).found refl

  module _ (i k : ℕ) (a m : ℤ) (at_i : (t : Term) → slice_get (v ++ x ∷ []) i ≡ Some t → PlaceHas box t a) (given : i < length v → IsWithin greatest m a) (at_last : PlaceHas box x m)
      (at_k : (t : Term) → slice_get v k ≡ Some t → PlaceHas box t m) (some : k < length v) (others : OthersReach v i greatest m box) (own_found : i ≡ k → a ≡ m) (own_last : i ≡ length v → a ≡ m) where
    -- there are such values
    each_value : (j : ℕ) (t : Term) → slice_get (v ++ x ∷ []) j ≡ Some t → ValueOf box t (Suits greatest (length v) i k a m j)
    each_value j t stands = own (decide_nat j i)
      where
        other : j ≢ i → j ≢ k → Decided (j ≡ length v) → ValueOf box t (Suits greatest (length v) i k a m j)
        other differs apart (inl same) = record {
          value = m;
          there = subst (λ u. PlaceHas box u m) (behind_is v x j t stands (λ below. omega (arith, below, same))).1 at_last;
          has = record { within = λ below. itself greatest m; given = λ e. absurd (differs e); found = λ e. refl; last = λ e. refl };
        }
        other differs apart (inr inner) =
            let within = slice_get_within (v ++ x ∷ []) j t stands in
            let longer = behind_long v x in
            let below : j < length v = omega (arith, within, longer, inner) in
            let reached = others j t (stands_front v x j t below stands) differs in
            record { value = reached.value; there = reached.there; has = record { within = λ at_j. reached.within; given = λ e. absurd (differs e); found = λ e. absurd (apart e); last = λ e. absurd (inner e) } }

        found : j ≢ i → Decided (j ≡ k) → ValueOf box t (Suits greatest (length v) i k a m j)
        found differs (inl same) =
            let below : j < length v = omega (arith, same, some) in
            record {
              value = m;
              there = at_k t (subst (λ n. slice_get v n ≡ Some t) same (stands_front v x j t below stands));
              has = record { within = λ at_j. itself greatest m; given = λ e. absurd (differs e); found = λ e. refl; last = λ e. refl };
            }
        found differs (inr apart) = other differs apart (decide_nat j (length v))

        own : Decided (j ≡ i) → ValueOf box t (Suits greatest (length v) i k a m j)
        own (inl same) = record {
          value = a;
          there = at_i t (subst (λ n. slice_get (v ++ x ∷ []) n ≡ Some t) same stands);
          has = record { within = λ below. given (subst (λ n. n < length v) same below); given = λ e. refl; found = λ e. own_found (sym same ∙ e); last = λ e. own_last (sym same ∙ e) };
        }
        own (inr differs) = found differs (decide_nat j k)

    suited : i < suc (length v) → Supported lists (extreme_con greatest v x) i a box
    suited below = by_chosen i k a m below some (choose box (v ++ x ∷ []) (Suits greatest (length v) i k a m) each_value)

  -- ---- what a supported value has beside it

  pub record Beside (i : ℕ) (a : ℤ) : Type 0 where
    pub last : ℤ
    pub there : PlaceHas box x last
    pub within : i < length v → IsWithin greatest last a
    pub each : (j : ℕ) (t : Term) → slice_get v j ≡ Some t → Reaches greatest last box t
    pub place : ℕ
    pub term : Term
    pub stands : slice_get v place ≡ Some term
    pub found : PlaceHas box term last
    pub own : place ≡ i → last ≡ a
    pub is_last : i ≡ length v → last ≡ a

  pub beside_it : (i : ℕ) (a : ℤ) → Supported lists (extreme_con greatest v x) i a box → Beside i a
  beside_it i a supported = record {
    last = at xs n;
    there = value_there box (v ++ x ∷ []) xs n x chosen (behind_stands v x);
    within = λ below. subst (IsWithin greatest (at xs n)) choice.given (first_all (IsWithin greatest (at xs n)) n xs extreme.1 i below (omega (arith, longer, as_long, below)));
    each = λ j t stands.
        (let below : j < n = slice_get_within v j t stands in
        record { value = at xs j; there = value_there box (v ++ x ∷ []) xs j t chosen (front_stands v x j t stands); within = first_all (IsWithin greatest (at xs n)) n xs extreme.1 j below (omega (arith, longer, as_long, below)) });
    place = some.place;
    term = there.0;
    stands = there.1;
    found = subst (PlaceHas box there.0) some.is (value_there box (v ++ x ∷ []) xs some.place there.0 chosen (front_stands v x some.place there.0 there.1));
    own = λ e. sym some.is ∙ (ap (at xs) e ∙ choice.given);
    is_last = λ e. ap (at xs) (sym e) ∙ choice.given;
  }
    where
      choice : ChoiceWith lists (extreme_con greatest v x) i a box
      choice = subst (λ l. SupportedAt l lists (extreme_con greatest v x) i a box) (is_arc greatest v x) supported

      xs : List ℤ
      xs = choice.values

      n : ℕ
      n = length v

      chosen : Choice box (v ++ x ∷ []) xs
      chosen = subst (λ ts. Choice box ts xs) (its_places greatest v x) choice.chosen

      longer : length (v ++ x ∷ []) ≡ suc n
      longer = behind_long v x

      as_long : length xs ≡ length (v ++ x ∷ [])
      as_long = choice_long box (v ++ x ∷ []) xs chosen

      extreme : IsExtreme greatest (take n xs) (at xs n)
      extreme = met_so greatest v x lists xs choice.meets

      some : StandsFirst n xs (at xs n)
      some = has_first n xs (at xs n) extreme.0

      there : (t : Term) × (slice_get v some.place ≡ Some t)
      there = some_there v some.place some.below

  -- ---- told

  pub stands_at : (i : ℕ) (t : Term) → slice_get (v ++ x ∷ []) i ≡ Some t → StandsAt (extreme_con greatest v x) i t
  stands_at i t stands = subst (λ ts. slice_get ts i ≡ Some t) (sym (its_places greatest v x)) stands

  -- a value of one of the places is supported exactly where some value of x can be the extreme with it
  pub front_told : (i : ℕ) (a : ℤ) (m : Bool) → i < length v → HasAt (extreme_con greatest v x) i a box → IsTrue m ↔ SomeExtreme v x i a greatest box → IsTrue m ↔ Supported lists (extreme_con greatest v x) i a box
  front_told i a m below there tells = (λ e. so (tells.0 e), λ supported. tells.1 (back (beside_it i a supported)))
    where
      so : SomeExtreme v x i a greatest box → Supported lists (extreme_con greatest v x) i a box
      so some = by some.can.some
        where
          by : (some.value ≡ a) ⊎ OtherHas v i some.value box → Supported lists (extreme_con greatest v x) i a box
          by (inl same) = suited i i a some.value (λ t stands. there t (stands_at i t stands)) (λ at_i. some.can.given) some.there (λ t stands. subst (PlaceHas box t) (sym same) (there t (stands_at i t (front_stands v x i t stands)))) below some.can.others (λ e. sym same) (λ e. sym same) (omega (arith, below))
          by (inr other) =
              let within = slice_get_within v other.place other.term other.stands in
              suited i other.place a some.value (λ t stands. there t (stands_at i t stands)) (λ at_i. some.can.given) some.there (λ t stands. (let same : other.term ≡ t = same_entry v other.place other.term t other.stands stands in subst (λ u. PlaceHas box u some.value) same other.there)) within some.can.others (λ e. absurd (other.other (sym e))) (λ e. absurd (omega (arith, below, e))) (omega (arith, below))

      back : Beside i a → SomeExtreme v x i a greatest box
      back b = record { value = b.last; there = b.there; can = record { given = b.within below; others = λ j t stands differs. b.each j t stands; some = by (decide_nat b.place i) } }
        where
          by : Decided (b.place ≡ i) → (b.last ≡ a) ⊎ OtherHas v i b.last box
          by (inl same) = inl (b.own same)
          by (inr differs) = inr (record { place = b.place; term = b.term; stands = b.stands; other = differs; there = b.found })

  -- and one of x exactly where one of the places has it, and none has to go past it
  pub behind_told : (i : ℕ) (a : ℤ) (m : Bool) → (i < length v → ⊥) → i < length (places (extreme_con greatest v x)) → HasAt (extreme_con greatest v x) i a box → IsTrue m ↔ (OtherHas v i a box × OthersReach v i greatest a box) → IsTrue m ↔ Supported lists (extreme_con greatest v x) i a box
  behind_told i a m past within there tells = (λ e. so (tells.0 e), λ supported. tells.1 (back (beside_it i a supported)))
    where
      long : length (places (extreme_con greatest v x)) ≡ suc (length v)
      long = ap length (its_places greatest v x) ∙ behind_long v x

      last : i ≡ length v
      last = omega (arith, long, past, within)

      so : OtherHas v i a box × OthersReach v i greatest a box → Supported lists (extreme_con greatest v x) i a box
      so both =
          let other = both.0 in
          let below = slice_get_within v other.place other.term other.stands in
          suited i other.place a a (λ t stands. there t (stands_at i t stands)) (λ at_i. absurd (past at_i)) (there x (stands_at i x (subst (λ n. slice_get (v ++ x ∷ []) n ≡ Some x) (sym last) (behind_stands v x))))
          (λ t stands. (let same : other.term ≡ t = same_entry v other.place other.term t other.stands stands in subst (λ u. PlaceHas box u a) same other.there)) below both.1 (λ e. refl) (λ e. refl) (omega (arith, last))

      back : Beside i a → OtherHas v i a box × OthersReach v i greatest a box
      back b =
          let below = slice_get_within v b.place b.term b.stands in
          let is = b.is_last last in
          (record { place = b.place; term = b.term; stands = b.stands; other = λ e. omega (arith, below, last, e); there = subst (PlaceHas box b.term) is b.found }, λ j t stands differs. subst (λ m. Reaches greatest m box t) is (b.each j t stands))
