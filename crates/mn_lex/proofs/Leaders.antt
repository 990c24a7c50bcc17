-- The least values of one vector and the greatest of another, in lexicographic order.
use Rattle.std.proofs.Common.{◌≡◌, ◌↔◌, ℕ, zero, suc, ◌+◌, ◌<◌, ◌≤◌, ℤ, pos, ◌<ℤ◌, ◌≤ℤ◌, ◌⊎◌, inl, inr, int_lt, Bool, true, false, IsTrue, List, [], ◌∷◌, length, drop, slice_get, slice_set, slice_index_or, Some, refl, sym, subst, ap, ◌∙◌, arith}
use Rattle.std.proofs.lemmas.Int.{ints}
use Rattle.std.specs.List.{AllByRecursion, AllZip}
use Rattle.mn_model.specs.Decided.{Decided, decide_nat}
use Rattle.mn_model.specs.declared.constraint.Term.{Term}
use Rattle.mn_boxes.specs.Places.{PlaceHas}
use Rattle.mn_prop.specs.Contexts.{place_hi, place_lo}
use Rattle.mn_lex.specs.Leading.{Leads}
use Rattle.mn_lex.specs.Orders.{AreOne, AreOneWhere, AreOrdered, greatest_values, least_values}

-- one number is less than another, or they are equal, where it is at most that
pub below_or_same : (a b : ℤ) → a ≤ℤ b → (a <ℤ b) ⊎ (a ≡ b)
below_or_same a b le = by (int_lt a b) refl
  where
    by : (t : Bool) → int_lt a b ≡ t → (a <ℤ b) ⊎ (a ≡ b)
    by true e = inl (omega (arith, ints, e))
    by false e = inr (omega (arith, ints, e, le))

-- a lesser first value leads all the more, and so does a greater one of the other list
pub leads_sooner : (e : Bool) (a b c d : ℤ) (xs ys : List ℤ) → c ≤ℤ a → b ≤ℤ d → Leads e (a ∷ xs) (b ∷ ys) → Leads e (c ∷ xs) (d ∷ ys)
leads_sooner e a b c d xs ys low high (inl less) = inl (omega (arith, ints, low, high, less))
leads_sooner e a b c d xs ys low high (inr both) = by (below_or_same c d (let same = both.0 in omega (arith, ints, low, high, same)))
  where
    by : (c <ℤ d) ⊎ (c ≡ d) → Leads e (c ∷ xs) (d ∷ ys)
    by (inl less) = inl less
    by (inr same) = inr (same, both.1)

-- what stands behind may lead all the more
pub leads_behind : (e : Bool) (a b : ℤ) (xs ys us ws : List ℤ) → (Leads e xs ys → Leads e us ws) → Leads e (a ∷ xs) (b ∷ ys) → Leads e (a ∷ us) (b ∷ ws)
leads_behind e a b xs ys us ws so (inl less) = inl less
leads_behind e a b xs ys us ws so (inr both) = inr (both.0, so both.1)

pub some_is : {T : Type 0} {a b : T} → Some a ≡ Some b → a ≡ b
some_is e = cc

-- the least value of a place and the greatest are there, and all others are between them
pub record HasEnds (box : List (List ℤ)) (t : Term) : Type 0 where
  pub has_lo : PlaceHas box t (place_lo box t)
  pub has_hi : PlaceHas box t (place_hi box t)
  pub low : (a : ℤ) → PlaceHas box t a → place_lo box t ≤ℤ a
  pub high : (a : ℤ) → PlaceHas box t a → a ≤ℤ place_hi box t

module _ (box : List (List ℤ)) where
  abbrev pub AllEnds : List Term → Type 0
  AllEnds ts = AllByRecursion (HasEnds box) ts

  abbrev pub Chosen : List Term → List ℤ → Type 0
  Chosen ts values = AllZip (PlaceHas box) ts values

  pub least_chosen : (v : List Term) → AllEnds v → Chosen v (least_values box v)
  least_chosen [] ends = tt
  least_chosen (t ∷ v) ends = (ends.0.has_lo, least_chosen v ends.1)

  pub greatest_chosen : (v : List Term) → AllEnds v → Chosen v (greatest_values box v)
  greatest_chosen [] ends = tt
  greatest_chosen (t ∷ v) ends = (ends.0.has_hi, greatest_chosen v ends.1)

  -- where some values that are chosen lead, the least ones of the first vector lead the greatest ones of the second
  pub best_leads : (e : Bool) (v w : List Term) (xs ys : List ℤ) → AllEnds v → AllEnds w → Chosen v xs → Chosen w ys → Leads e xs ys → Leads e (least_values box v) (greatest_values box w)
  best_leads e [] [] [] [] first second one two leads = leads
  best_leads e [] [] [] (b ∷ ys) first second one two leads = absurd two
  best_leads e [] (y ∷ w) [] [] first second one two leads = absurd two
  best_leads e [] (y ∷ w) [] (b ∷ ys) first second one two leads = absurd leads
  best_leads e [] w (a ∷ xs) ys first second one two leads = absurd one
  best_leads e (x ∷ v) w [] ys first second one two leads = absurd one
  best_leads e (x ∷ v) [] (a ∷ xs) [] first second one two leads = absurd leads
  best_leads e (x ∷ v) [] (a ∷ xs) (b ∷ ys) first second one two leads = absurd two
  best_leads e (x ∷ v) (y ∷ w) (a ∷ xs) [] first second one two leads = absurd two
  best_leads e (x ∷ v) (y ∷ w) (a ∷ xs) (b ∷ ys) first second one two leads =
      leads_sooner e a b (place_lo box x) (place_hi box y) (least_values box v) (greatest_values box w) (first.0.low a one.0) (second.0.high b two.0)
      (leads_behind e a b xs ys (least_values box v) (greatest_values box w) (best_leads e v w xs ys first.1 second.1 one.1 two.1) leads)

  -- the same from a pair on before which all pairs have one value, with the values of that pair
  pub pair_leads : (e : Bool) (i : ℕ) (v w : List Term) (xs ys : List ℤ) (x y : Term) → AllEnds v → AllEnds w → Chosen v xs → Chosen w ys → AreOneWhere (λ j. j < i) box v w → slice_get v i ≡ Some x → slice_get w i ≡ Some y → Leads e xs ys
      → Leads e (slice_index_or xs i (pos 0) ∷ least_values box (drop (suc i) v)) (slice_index_or ys i (pos 0) ∷ greatest_values box (drop (suc i) w))
  pair_leads e i [] w xs ys x y first second one two same stands other leads = cc
  pair_leads e i (u ∷ v) [] xs ys x y first second one two same stands other leads = cc
  pair_leads e i (u ∷ v) (z ∷ w) [] ys x y first second one two same stands other leads = absurd one
  pair_leads e i (u ∷ v) (z ∷ w) (a ∷ xs) [] x y first second one two same stands other leads = absurd two
  pair_leads e zero (u ∷ v) (z ∷ w) (a ∷ xs) (b ∷ ys) x y first second one two same stands other leads =
      leads_behind e a b xs ys (least_values box v) (greatest_values box w) (best_leads e v w xs ys first.1 second.1 one.1 two.1) leads
  pair_leads e (suc i) (u ∷ v) (z ∷ w) (a ∷ xs) (b ∷ ys) x y first second one two same stands other leads =
      pair_leads e i v w xs ys x y first.1 second.1 one.1 two.1 (λ j t s less at_t at_s. same (suc j) t s (omega (arith, less)) at_t at_s) stands other (past leads)
    where
      past : Leads e (a ∷ xs) (b ∷ ys) → Leads e xs ys
      past (inl less) = absurd (let is = same 0 u z (omega arith) refl refl a b one.0 two.0 in omega (arith, ints, is, less))
      past (inr both) = both.1

  -- in a box that is ordered the best values lead, with any value of the first vector at its place, and any of the second
  pub ordered_leads : (e : Bool) (v w : List Term) → AllEnds v → AllEnds w → AreOrdered e box v w → Leads e (least_values box v) (greatest_values box w)
  ordered_leads e [] [] first second is = is
  ordered_leads e [] (y ∷ w) first second is = absurd is
  ordered_leads e (x ∷ v) [] first second is = absurd is
  ordered_leads e (x ∷ v) (y ∷ w) first second (inl can) = inl can.less
  ordered_leads e (x ∷ v) (y ∷ w) first second (inr both) = inr (both.0 (place_lo box x) (place_hi box y) first.0.has_lo second.0.has_hi, ordered_leads e v w first.1 second.1 both.1)

  pub first_leads : (e : Bool) (v w : List Term) (k : ℕ) (t : Term) (a : ℤ) → AllEnds v → AllEnds w → AreOrdered e box v w → slice_get v k ≡ Some t → PlaceHas box t a → Leads e (slice_set (least_values box v) k a) (greatest_values box w)
  first_leads e [] w k t a first second is stands has = cc
  first_leads e (x ∷ v) [] k t a first second is stands has = absurd is
  first_leads e (x ∷ v) (y ∷ w) zero t a first second (inl can) stands has = let same : x ≡ t = cc in can.first a (subst (λ u. PlaceHas box u a) (sym same) has)
  first_leads e (x ∷ v) (y ∷ w) zero t a first second (inr both) stands has =
      let same : x ≡ t = cc in
      inr (both.0 a (place_hi box y) (subst (λ u. PlaceHas box u a) (sym same) has) second.0.has_hi, ordered_leads e v w first.1 second.1 both.1)
  first_leads e (x ∷ v) (y ∷ w) (suc k) t a first second (inl can) stands has = inl can.less
  first_leads e (x ∷ v) (y ∷ w) (suc k) t a first second (inr both) stands has = inr (both.0 (place_lo box x) (place_hi box y) first.0.has_lo second.0.has_hi, first_leads e v w k t a first.1 second.1 both.1 stands has)

  pub second_leads : (e : Bool) (v w : List Term) (k : ℕ) (t : Term) (b : ℤ) → AllEnds v → AllEnds w → AreOrdered e box v w → slice_get w k ≡ Some t → PlaceHas box t b → Leads e (least_values box v) (slice_set (greatest_values box w) k b)
  second_leads e v [] k t b first second is stands has = cc
  second_leads e [] (y ∷ w) k t b first second is stands has = absurd is
  second_leads e (x ∷ v) (y ∷ w) zero t b first second (inl can) stands has = let same : y ≡ t = cc in can.second b (subst (λ u. PlaceHas box u b) (sym same) has)
  second_leads e (x ∷ v) (y ∷ w) zero t b first second (inr both) stands has =
      let same : y ≡ t = cc in
      inr (both.0 (place_lo box x) b first.0.has_lo (subst (λ u. PlaceHas box u b) (sym same) has), ordered_leads e v w first.1 second.1 both.1)
  second_leads e (x ∷ v) (y ∷ w) (suc k) t b first second (inl can) stands has = inl can.less
  second_leads e (x ∷ v) (y ∷ w) (suc k) t b first second (inr both) stands has = inr (both.0 (place_lo box x) (place_hi box y) first.0.has_lo second.0.has_hi, second_leads e v w k t b first.1 second.1 both.1 stands has)

  -- behind pairs that have one value each
  pub ordered_from : (e : Bool) (i : ℕ) (v w : List Term) → length w ≡ length v → AreOneWhere (λ j. j < i) box v w → AreOrdered e box (drop i v) (drop i w) → AreOrdered e box v w
  ordered_from e zero v w long same is = is
  ordered_from e (suc i) [] [] long same is = is
  ordered_from e (suc i) [] (y ∷ w) long same is = absurd (omega (arith, long))
  ordered_from e (suc i) (x ∷ v) [] long same is = absurd (omega (arith, long))
  ordered_from e (suc i) (x ∷ v) (y ∷ w) long same is = inr (same 0 x y (omega arith) refl refl, ordered_from e i v w (omega (arith, long)) (λ j t s less at_t at_s. same (suc j) t s (omega (arith, less)) at_t at_s) is)

-- a pair as what a list has from there on
pub drop_is : {T : Type 0} (i : ℕ) (v : List T) (x : T) → slice_get v i ≡ Some x → drop i v ≡ x ∷ drop (suc i) v
drop_is i [] x stands = cc
drop_is zero (u ∷ v) x stands = let is : u ≡ x = cc in ap (λ t. t ∷ v) is
drop_is (suc i) (u ∷ v) x stands = drop_is i v x stands

pub drop_all : {T : Type 0} (i : ℕ) (v : List T) → length v ≤ i → drop i v ≡ []
drop_all zero [] past = refl
drop_all (suc i) [] past = refl
drop_all zero (u ∷ v) past = absurd (omega (arith, past))
drop_all (suc i) (u ∷ v) past = drop_all i v (omega (arith, past))

-- one more pair has one value
pub one_more : (box : List (List ℤ)) (i : ℕ) (v w : List Term) (x y : Term) → AreOneWhere (λ j. j < i) box v w → slice_get v i ≡ Some x → slice_get w i ≡ Some y → AreOne box x y → AreOneWhere (λ j. j < i + 1) box v w
one_more box i v w x y same stands other one j t s less at_t at_s = by (decide_nat j i)
  where
    by : Decided (j ≡ i) → AreOne box t s
    by (inl here) =
        let its : t ≡ x = some_is (sym at_t ∙ (ap (slice_get v) here ∙ stands)) in
        let theirs : s ≡ y = some_is (sym at_s ∙ (ap (slice_get w) here ∙ other)) in
        λ a b has had. one a b (subst (λ u. PlaceHas box u a) its has) (subst (λ u. PlaceHas box u b) theirs had)
    by (inr before) = same j t s (omega (arith, less, before)) at_t at_s

-- what two vectors have from a pair on, by that pair
module _ (e : Bool) (box : List (List ℤ)) (i : ℕ) (v w : List Term) (x y : Term) (at_x : slice_get v i ≡ Some x) (at_y : slice_get w i ≡ Some y) where
  whole : Leads e (place_lo box x ∷ least_values box (drop (suc i) v)) (place_hi box y ∷ greatest_values box (drop (suc i) w)) ≡ Leads e (least_values box (drop i v)) (greatest_values box (drop i w))
  whole = λ k. Leads e (least_values box (sym (drop_is i v x at_x) k)) (greatest_values box (sym (drop_is i w y at_y) k))

  into : Leads e (place_lo box x ∷ least_values box (drop (suc i) v)) (place_hi box y ∷ greatest_values box (drop (suc i) w)) → Leads e (least_values box (drop i v)) (greatest_values box (drop i w))
  into leads = subst (λ (P : Type 0). P) whole leads

  out : Leads e (least_values box (drop i v)) (greatest_values box (drop i w)) → Leads e (place_lo box x ∷ least_values box (drop (suc i) v)) (place_hi box y ∷ greatest_values box (drop (suc i) w))
  out leads = subst (λ (P : Type 0). P) (sym whole) leads

  -- different values decide, and behind equal ones the others do
  pub rest_differs : (lo hi : ℤ) → lo ≡ place_lo box x → hi ≡ place_hi box y → (lo ≡ hi → ⊥) → lo <ℤ hi ↔ Leads e (least_values box (drop i v)) (greatest_values box (drop i w))
  rest_differs lo hi is_lo is_hi differ = (λ less. into (inl (omega (arith, ints, less, is_lo, is_hi))), λ leads. by (out leads))
    where
      by : Leads e (place_lo box x ∷ least_values box (drop (suc i) v)) (place_hi box y ∷ greatest_values box (drop (suc i) w)) → lo <ℤ hi
      by (inl less) = omega (arith, ints, less, is_lo, is_hi)
      by (inr both) = absurd (differ (is_lo ∙ (both.0 ∙ sym is_hi)))

  pub rest_same : (lo hi : ℤ) → lo ≡ place_lo box x → hi ≡ place_hi box y → lo ≡ hi → Leads e (least_values box (drop (i + 1) v)) (greatest_values box (drop (i + 1) w)) ↔ Leads e (least_values box (drop i v)) (greatest_values box (drop i w))
  rest_same lo hi is_lo is_hi same = (λ leads. into (inr (sym is_lo ∙ (same ∙ is_hi), subst Rest next leads)), λ leads. subst Rest (sym next) (by (out leads)))
    where
      next : i + 1 ≡ suc i
      next = omega arith

      Rest : ℕ → Type 0
      Rest n = Leads e (least_values box (drop n v)) (greatest_values box (drop n w))

      by : Leads e (place_lo box x ∷ least_values box (drop (suc i) v)) (place_hi box y ∷ greatest_values box (drop (suc i) w)) → Leads e (least_values box (drop (suc i) v)) (greatest_values box (drop (suc i) w))
      by (inl less) = absurd (omega (arith, ints, less, same, is_lo, is_hi))
      by (inr both) = both.1

-- where nothing is left equal vectors decide
pub rest_ends : (e : Bool) (box : List (List ℤ)) (i : ℕ) (v w : List Term) → length w ≡ length v → length v ≤ i → IsTrue e ↔ Leads e (least_values box (drop i v)) (greatest_values box (drop i w))
rest_ends e box i v w long past = (
  λ is. subst (λ us. Leads e (least_values box us) (greatest_values box (drop i w))) (sym (drop_all i v past)) (subst (λ us. Leads e [] (greatest_values box us)) (sym (drop_all i w (omega (arith, long, past)))) is),
  λ leads. (let first : Leads e [] (greatest_values box (drop i w)) = subst (λ us. Leads e (least_values box us) (greatest_values box (drop i w))) (drop_all i v past) leads in subst (λ us. Leads e [] (greatest_values box us)) (drop_all i w (omega (arith, long, past))) first),
)
