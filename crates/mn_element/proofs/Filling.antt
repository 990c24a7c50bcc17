-- How the values of a place are put into a set of a stretch.
use Rattle.std.proofs.Common.{◌≡◌, ◌↔◌, ℤ, pos, ◌+ℤ◌, ◌-ℤ◌, ◌<ℤ◌, ◌≤ℤ◌, ◌⊎◌, inl, inr, Bool, true, false, ◌||◌, IsTrue, List, Some, None, refl, sym, subst, ◌∙◌, arith, true≢false, [], ◌∷◌, filter, int_le, not, ◌&&◌, ap}
use Rattle.std.proofs.lemmas.Int.{ints}
use Rattle.mn_model.specs.Domain.{Has}
use Rattle.mn_model.proofs.Filtered.{filter_has}
use Rattle.mn_model.proofs.Ordered.{le_true}
use Rattle.mn_boxes.specs.Sets.{least}
use Rattle.std.specs.Ordering.{int_eq}
use Rattle.mn_model.specs.declared.constraint.Term.{Term}
use Rattle.mn_model.proofs.Stretches.{plus-int_gap}
use Rattle.mn_boxes.specs.Places.{PlaceHas}
use Rattle.mn_boxes.specs.Values.{IsCovered, Values, members}
use Rattle.mn_domains.proofs.Filtered.{eq_so, eq_true}
use Rattle.mn_prop.specs.Contexts.{IsGreatestAt, IsLeastAt}
use Rattle.mn_element.specs.Gathers.{HasEndsOf, HasValuesOf}
use Rattle.mn_element.specs.Stretches.{HasAllOf, IsBetween, IsNextBefore, Spans}
use Rattle.mn_element.specs.declared.stretch.Stretch.{Stretch}

-- a set that may have both ends may have all between them
pub covered_between : (s : Values) (lo hi a : ℤ) → IsCovered s lo → IsCovered s hi → IsBetween lo hi a → IsCovered s a
covered_between s lo hi a low high at =
    let from : s.low ≤ℤ a = (let first = low.low in let more = at.0 in omega (arith, ints, first, more)) in
    let here = plus-int_gap s.low a from in
    let there = plus-int_gap s.low hi high.low in
    let few = high.high in
    let le = at.1 in
    record { low = from; high = omega (arith, ints, here, there, few, le) }

-- a place is between the ends where its own are
pub spans_so : (box : List (List ℤ)) (t : Term) (lo hi least greatest : ℤ) → IsLeastAt box t least → IsGreatestAt box t greatest → lo ≤ℤ least → greatest ≤ℤ hi → Spans box lo hi t
spans_so box t lo hi least greatest low high from to a has = let le = low.least a has in let ge = high.greatest a has in (omega (arith, ints, le, from), omega (arith, ints, ge, to))

pub or_told : (p q : Bool) → IsTrue (p || q) ↔ (IsTrue p ⊎ IsTrue q)
or_told true q = (λ e. inl refl, λ either. refl)
or_told false q = (λ e. inr e, back)
  where
    back : IsTrue false ⊎ IsTrue q → IsTrue q
    back (inl none) = absurd (true≢false (sym none))
    back (inr other) = other

eq_told : (a b : ℤ) → int_eq a b ≡ true → a ≡ b
eq_told a b e = eq_so a b e

eq_here : (a b : ℤ) → a ≡ b → int_eq a b ≡ true
eq_here a b e = eq_true a b e

-- what is in a set with one more value
pub more_told : (a b : ℤ) (new old : Bool) → new ≡ (int_eq b a || old) → IsTrue new ↔ ((b ≡ a) ⊎ IsTrue old)
more_told a b new old is = (λ e. to ((or_told (int_eq b a) old).0 (sym is ∙ e)), λ either. is ∙ (or_told (int_eq b a) old).1 (from either))
  where
    to : IsTrue (int_eq b a) ⊎ IsTrue old → (b ≡ a) ⊎ IsTrue old
    to (inl same) = inl (eq_told b a same)
    to (inr was) = inr was

    from : (b ≡ a) ⊎ IsTrue old → IsTrue (int_eq b a) ⊎ IsTrue old
    from (inl same) = inl (eq_here b a same)
    from (inr was) = inr was

-- ---- value by value

-- the values up to a were put into the set
pub record FilledTo (box : List (List ℤ)) (t : Term) (old now : Stretch) (a : ℤ) : Type 0 where
  pub ends : HasEndsOf old now
  pub from : old.lo ≤ℤ (a +ℤ pos 1)
  pub to : a ≤ℤ old.hi
  pub values : (b : ℤ) → IsBetween old.lo old.hi b → IsTrue (members now.set b) ↔ (IsTrue (members old.set b) ⊎ (PlaceHas box t b × (b ≤ℤ a)))
  pub only : (b : ℤ) → IsTrue (members now.set b) → IsTrue (members old.set b) ⊎ PlaceHas box t b

module _ (box : List (List ℤ)) (t : Term) (old : Stretch) where
  pub begins_filling : (a : ℤ) → a ≡ old.lo -ℤ pos 1 → old.lo ≤ℤ old.hi → FilledTo box t old old a
  begins_filling a is order = record {
    ends = (refl, refl);
    from = omega (arith, ints, is);
    to = omega (arith, ints, is, order);
    values = λ b at. (λ e. inl e, λ either. by b at either);
    only = λ b e. inl e;
  }
    where
      by : (b : ℤ) → IsBetween old.lo old.hi b → IsTrue (members old.set b) ⊎ (PlaceHas box t b × (b ≤ℤ a)) → IsTrue (members old.set b)
      by b at (inl was) = was
      by b at (inr here) = absurd (let from = at.0 in let to = here.1 in omega (arith, ints, from, to, is))

  pub goes_on_to : (now new : Stretch) (a next : ℤ) → FilledTo box t old now a → IsNextBefore box t now.hi a (Some next) → HasEndsOf now new → ((b : ℤ) → members new.set b ≡ (int_eq b next || members now.set b)) → FilledTo box t old new next
  goes_on_to now new a next so_far is ends more = record {
    ends = (ends.0 ∙ so_far.ends.0, ends.1 ∙ so_far.ends.1);
    from = (let from = so_far.from in let less = is.1 in omega (arith, ints, from, less));
    to = subst (λ hi. next ≤ℤ hi) so_far.ends.1 is.2;
    values = λ b at. (λ e. to b ((more_told next b (members new.set b) (members now.set b) (more b)).0 e) (λ was. (so_far.values b at).0 was), λ either. (more_told next b (members new.set b) (members now.set b) (more b)).1 (from b either (λ was. (so_far.values b at).1 was)));
    only = λ b e. only_so b ((more_told next b (members new.set b) (members now.set b) (more b)).0 e);
  }
    where
      only_so : (b : ℤ) → (b ≡ next) ⊎ IsTrue (members now.set b) → IsTrue (members old.set b) ⊎ PlaceHas box t b
      only_so b (inl same) = inr (subst (PlaceHas box t) (sym same) is.0)
      only_so b (inr was) = so_far.only b was

      to : (b : ℤ) → (b ≡ next) ⊎ IsTrue (members now.set b) → (IsTrue (members now.set b) → IsTrue (members old.set b) ⊎ (PlaceHas box t b × (b ≤ℤ a))) → IsTrue (members old.set b) ⊎ (PlaceHas box t b × (b ≤ℤ next))
      to b (inl same) so = inr (subst (PlaceHas box t) (sym same) is.0, omega (arith, ints, same))
      to b (inr was) so = wider (so was)
        where
          wider : IsTrue (members old.set b) ⊎ (PlaceHas box t b × (b ≤ℤ a)) → IsTrue (members old.set b) ⊎ (PlaceHas box t b × (b ≤ℤ next))
          wider (inl first) = inl first
          wider (inr here) = inr (here.0, let le = here.1 in let less = is.1 in omega (arith, ints, le, less))

      from : (b : ℤ) → IsTrue (members old.set b) ⊎ (PlaceHas box t b × (b ≤ℤ next)) → (IsTrue (members old.set b) ⊎ (PlaceHas box t b × (b ≤ℤ a)) → IsTrue (members now.set b)) → (b ≡ next) ⊎ IsTrue (members now.set b)
      from b (inl first) so = inr (so (inl first))
      from b (inr here) so = by (is.3 b here.0)
        where
          by : (b ≤ℤ a) ⊎ (next ≤ℤ b) → (b ≡ next) ⊎ IsTrue (members now.set b)
          by (inl le) = inr (so (inr (here.0, le)))
          by (inr ge) = inl (let le = here.1 in omega (arith, ints, le, ge))

  pub all_filled : (now : Stretch) (a b : ℤ) → FilledTo box t old now a → IsNextBefore box t now.hi a None → IsBetween old.lo old.hi b → IsTrue (members now.set b) ↔ (IsTrue (members old.set b) ⊎ PlaceHas box t b)
  all_filled now a b so_far none at = (λ e. to ((so_far.values b at).0 e), λ either. (so_far.values b at).1 (from either))
    where
      to : IsTrue (members old.set b) ⊎ (PlaceHas box t b × (b ≤ℤ a)) → IsTrue (members old.set b) ⊎ PlaceHas box t b
      to (inl was) = inl was
      to (inr here) = inr here.0

      above_or : (b ≤ℤ a) ⊎ (a <ℤ b)
      above_or = grind (arith, ints)

      from : IsTrue (members old.set b) ⊎ PlaceHas box t b → IsTrue (members old.set b) ⊎ (PlaceHas box t b × (b ≤ℤ a))
      from (inl was) = inl was
      from (inr has) = by above_or
        where
          by : (b ≤ℤ a) ⊎ (a <ℤ b) → IsTrue (members old.set b) ⊎ (PlaceHas box t b × (b ≤ℤ a))
          by (inl le) = inr (has, le)
          by (inr above) = absurd (none b has above (subst (λ hi. b ≤ℤ hi) (sym so_far.ends.1) at.1))

  -- the next value is between the ends
  pub next_between : (now : Stretch) (a next : ℤ) → FilledTo box t old now a → IsNextBefore box t now.hi a (Some next) → IsBetween now.lo now.hi next
  next_between now a next so_far is =
      let from = so_far.from in
      let less = is.1 in
      (subst (λ lo. lo ≤ℤ next) (sym so_far.ends.0) (omega (arith, ints, from, less)), is.2)

-- a set that was empty has the values of a place that is between its ends
pub has_values : (box : List (List ℤ)) (y : Term) (old cleared new : Stretch) → HasEndsOf old cleared → ((a : ℤ) → members cleared.set a ≡ false) → ((b : ℤ) → IsBetween cleared.lo cleared.hi b → IsTrue (members new.set b) ↔ (IsTrue (members cleared.set b) ⊎ PlaceHas box y b))
    → ((b : ℤ) → IsTrue (members new.set b) → IsTrue (members cleared.set b) ⊎ PlaceHas box y b) → Spans box old.lo old.hi y → HasValuesOf box y new.set
has_values box y old cleared new ends none members_of only spans a = (λ e. to (only a e), λ has. (members_of a (between has)).1 (inr has))
  where
    to : IsTrue (members cleared.set a) ⊎ PlaceHas box y a → PlaceHas box y a
    to (inl was) = absurd (true≢false (sym was ∙ none a))
    to (inr has) = has

    between : PlaceHas box y a → IsBetween cleared.lo cleared.hi a
    between has = let at = spans a has in (subst (λ lo. lo ≤ℤ a) (sym ends.0) at.0, subst (λ hi. a ≤ℤ hi) (sym ends.1) at.1)

-- where nothing is outside, all is in the set
pub none_outside : (xs : List ℤ) (values : Values) (lo : ℤ) → None ≡ least (filter (λ x. int_le lo x && not (members values x)) xs) → ((a : ℤ) → Has xs a → lo ≤ℤ a) → (a : ℤ) → Has xs a → IsTrue (members values a)
none_outside xs values lo none above a has = by (members values a) refl
  where
    p : ℤ → Bool
    p x = int_le lo x && not (members values x)

    empty : (ys : List ℤ) → None ≡ least ys → Has ys a → ⊥
    empty [] e at = at
    empty (y ∷ ys) e at = cc

    passes : (b : Bool) → members values a ≡ b → b ≡ false → p a ≡ true
    passes true is e = absurd (true≢false e)
    passes false is e = ap (λ s. s && not (members values a)) (le_true lo a (above a has)) ∙ ap not is

    by : (b : Bool) → members values a ≡ b → members values a ≡ true
    by true is = is
    by false is = absurd (empty (filter p xs) none (filter_has p xs a has (passes false is refl)))

pub nothing_more : (box : List (List ℤ)) (t : Term) (old : Stretch) → HasAllOf box t old.set → (b : ℤ) → IsTrue (members old.set b) ↔ (IsTrue (members old.set b) ⊎ PlaceHas box t b)
nothing_more box t old all b = (λ e. inl e, λ either. by either)
  where
    by : IsTrue (members old.set b) ⊎ PlaceHas box t b → IsTrue (members old.set b)
    by (inl was) = was
    by (inr has) = all b has
