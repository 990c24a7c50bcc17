-- What is gathered index by index.
use Rattle.std.proofs.Common.{◌≡◌, ◌↔◌, ℕ, ℤ, ◌≤ℤ◌, ◌⊎◌, inl, inr, false, ◌||◌, IsTrue, List, slice_get, Some, None, refl, sym, subst, ap, ◌∙◌, arith, true≢false}
use Rattle.std.proofs.lemmas.Int.{ints}
use Rattle.std.proofs.lemmas.Option.{slice_get_within}
use Rattle.std.specs.Ordering.{int_eq}
use Rattle.mn_model.specs.declared.constraint.Term.{Term}
use Rattle.mn_boxes.specs.Places.{PlaceHas}
use Rattle.mn_boxes.specs.Values.{Values, members}
use Rattle.mn_prop.specs.Contexts.{IsLeastAt, IsNextAt, SomePasses}
use Rattle.mn_element.specs.Gathers.{GathersAt, HasRoom, HasValuesOf, IsGathered, PicksAmong}
use Rattle.mn_element.specs.Picks.{IsEntryAt, IsWanted, PicksAt}
use Rattle.mn_element.specs.declared.gathered.Picked.{Picked}
use Rattle.mn_element.specs.declared.picking.Wanted.{Wanted}
use Rattle.mn_element.specs.declared.picking.Wanted.TheVariants.{Anything, OfResult}
use Rattle.mn_element.proofs.Filling.{more_told}

-- the indices up to i were looked at
pub record LookedTo (box : List (List ℤ)) (first : ℤ) (v : List Term) (x y : Term) (i : ℤ) (p : Picked) : Type 0 where
  pub there : PlaceHas box x i
  pub room : HasRoom box x y p
  pub gathered : IsGathered box first v x y (λ j. j ≤ℤ i) p

module _ (box : List (List ℤ)) (first : ℤ) (v : List Term) (x y : Term) where
  -- the same by another property of the indices of x
  as_gathered : (P Q : ℤ → Type 0) (p : Picked) → ((i : ℤ) → PlaceHas box x i → P i → Q i) → ((i : ℤ) → PlaceHas box x i → Q i → P i) → IsGathered box first v x y P p → IsGathered box first v x y Q p
  as_gathered P Q p to from g = record {
    indices = λ i. (λ e. (let s = (g.indices i).0 e in (s.0, to i s.0 s.1, s.2)), λ s. (g.indices i).1 (s.0, from i s.0 s.1, s.2));
    found = λ b has. (
      λ e. (let s = (g.found b has).0 e in record { index = s.index; there = s.there; among = to s.index s.there s.among; picks = s.picks }),
      λ s. (g.found b has).1 (record { index = s.index; there = s.there; among = from s.index s.there s.among; picks = s.picks }),
    );
  }

  nothing_gathered : (p : Picked) → ((j : ℤ) → members p.indices.set j ≡ false) → ((b : ℤ) → members p.found.set b ≡ false) → IsGathered box first v x y (λ j. ⊥) p
  nothing_gathered p no_index no_value = record {
    indices = λ j. (λ e. absurd (true≢false (sym e ∙ no_index j)), λ s. absurd s.1);
    found = λ b has. (λ e. absurd (true≢false (sym e ∙ no_value b)), λ s. absurd s.among);
  }

  -- with index i too
  one_more : (P : ℤ → Type 0) (i : ℤ) (old new : Picked) → PlaceHas box x i → IsGathered box first v x y P old → GathersAt box first v y i old new → IsGathered box first v x y (λ j. P j ⊎ (j ≡ i)) new
  one_more P i old new there so_far more = record {
    indices = λ j. (λ e. to j ((more.indices j).0 e), λ s. (more.indices j).1 (from j s.0 s.1 s.2));
    found = λ b has. (λ e. to_found b has ((more.found b has).0 e), λ s. (more.found b has).1 (from_found b has s s.among));
  }
    where
      to : (j : ℤ) → IsTrue (members old.indices.set j) ⊎ ((j ≡ i) × PicksAt box first v y Anything i) → PlaceHas box x j × (P j ⊎ (j ≡ i)) × PicksAt box first v y Anything j
      to j (inl was) = let s = (so_far.indices j).0 was in (s.0, inl s.1, s.2)
      to j (inr now) = let same = now.0 in (subst (PlaceHas box x) (sym same) there, inr same, subst (PicksAt box first v y Anything) (sym same) now.1)

      from : (j : ℤ) → PlaceHas box x j → P j ⊎ (j ≡ i) → PicksAt box first v y Anything j → IsTrue (members old.indices.set j) ⊎ ((j ≡ i) × PicksAt box first v y Anything i)
      from j has (inl before) picks = inl ((so_far.indices j).1 (has, before, picks))
      from j has (inr same) picks = inr (same, subst (PicksAt box first v y Anything) same picks)

      to_found : (b : ℤ) → PlaceHas box y b → IsTrue (members old.found.set b) ⊎ PicksAt box first v y (OfResult b) i → PicksAmong box first v x y (λ j. P j ⊎ (j ≡ i)) b
      to_found b has (inl was) = let s = (so_far.found b has).0 was in record { index = s.index; there = s.there; among = inl s.among; picks = s.picks }
      to_found b has (inr now) = record { index = i; there = there; among = inr refl; picks = now }

      from_found : (b : ℤ) → PlaceHas box y b → (s : PicksAmong box first v x y (λ j. P j ⊎ (j ≡ i)) b) → P s.index ⊎ (s.index ≡ i) → IsTrue (members old.found.set b) ⊎ PicksAt box first v y (OfResult b) i
      from_found b has s (inl before) = inl ((so_far.found b has).1 (record { index = s.index; there = s.there; among = before; picks = s.picks }))
      from_found b has s (inr same) = inr (subst (PicksAt box first v y (OfResult b)) same s.picks)

  pub looks_first : (i : ℤ) (old new : Picked) → IsLeastAt box x i → ((j : ℤ) → members old.indices.set j ≡ false) → ((b : ℤ) → members old.found.set b ≡ false) → HasRoom box x y new → GathersAt box first v y i old new → LookedTo box first v x y i new
  looks_first i old new least no_index no_value room more = record {
    there = least.there;
    room = room;
    gathered = as_gathered (λ j. ⊥ ⊎ (j ≡ i)) (λ j. j ≤ℤ i) new (λ j has either. to j either) (λ j has le. inr (let from = least.least j has in omega (arith, ints, le, from)))
        (one_more (λ j. ⊥) i old new least.there (nothing_gathered old no_index no_value) more);
  }
    where
      to : (j : ℤ) → ⊥ ⊎ (j ≡ i) → j ≤ℤ i
      to j (inl none) = absurd none
      to j (inr same) = omega (arith, ints, same)

  pub looks_on : (i next : ℤ) (old new : Picked) → LookedTo box first v x y i old → IsNextAt box x i (Some next) → HasRoom box x y new → GathersAt box first v y next old new → LookedTo box first v x y next new
  looks_on i next old new so_far is room more = record {
    there = is.0;
    room = room;
    gathered = as_gathered (λ j. (j ≤ℤ i) ⊎ (j ≡ next)) (λ j. j ≤ℤ next) new (λ j has either. to j either) (λ j has le. from j le (is.2 j has)) (one_more (λ j. j ≤ℤ i) next old new is.0 so_far.gathered more);
  }
    where
      to : (j : ℤ) → (j ≤ℤ i) ⊎ (j ≡ next) → j ≤ℤ next
      to j (inl le) = let less = is.1 in omega (arith, ints, le, less)
      to j (inr same) = omega (arith, ints, same)

      from : (j : ℤ) → j ≤ℤ next → (j ≤ℤ i) ⊎ (next ≤ℤ j) → (j ≤ℤ i) ⊎ (j ≡ next)
      from j le (inl before) = inl before
      from j le (inr ge) = inr (omega (arith, ints, le, ge))

  pub looked_at_all : (i : ℤ) (p : Picked) → LookedTo box first v x y i p → IsNextAt box x i None → IsGathered box first v x y (λ j. Unit {0}) p
  looked_at_all i p so_far none = as_gathered (λ j. j ≤ℤ i) (λ j. Unit {0}) p (λ j has le. tt) (λ j has t. none j has) so_far.gathered

-- ---- one index

some_same : (t u : Term) → Some t ≡ Some u → t ≡ u
some_same t u e = cc

module _ (box : List (List ℤ)) (first : ℤ) (v : List Term) (y : Term) (i : ℤ) (wanted : Values) (has_wanted : HasValuesOf box y wanted) where
  module _ (k : ℕ) (t : Term) (is : IsEntryAt first v i (Some k)) (stands : slice_get v k ≡ Some t) where
    -- the value that is picked there is one of the entry
    entry_has : (w : Wanted) (p : PicksAt box first v y w i) → PlaceHas box t p.picks.value
    entry_has w p = subst (λ u. PlaceHas box u p.picks.value) (some_same p.picks.term t (sym p.picks.stands ∙ (ap (slice_get v) same ∙ stands))) p.picks.has_entry
      where
        same : p.entry ≡ k
        same = let one = is.1 in let other = p.is in omega (arith, ints, one, other)

    -- and a value of the entry and the result is picked
    picked_there : (w : Wanted) (b : ℤ) → IsWanted w k b → PlaceHas box t b → PlaceHas box y b → PicksAt box first v y w i
    picked_there w b so has_entry has_result = record { entry = k; is = is.1; picks = record { term = t; value = b; stands = stands; has_entry = has_entry; has_result = has_result; so = so } }

    meets_picked : (w : Wanted) → PicksAt box first v y w i → SomePasses (members wanted) t box
    meets_picked w p = record { value = p.picks.value; there = entry_has w p; passes = (has_wanted p.picks.value).1 p.picks.has_result }

    pub gathers_entry : (old new : Picked) → SomePasses (members wanted) t box → ((j : ℤ) → members new.indices.set j ≡ (int_eq j i || members old.indices.set j))
        → ((b : ℤ) → PlaceHas box y b → IsTrue (members new.found.set b) ↔ (IsTrue (members old.found.set b) ⊎ PlaceHas box t b)) → GathersAt box first v y i old new
    gathers_entry old new meets indices found = record {
      indices = λ j. (λ e. to j ((more_told i j (members new.indices.set j) (members old.indices.set j) (indices j)).0 e), λ either. (more_told i j (members new.indices.set j) (members old.indices.set j) (indices j)).1 (from j either));
      found = λ b has. (λ e. to_found b has ((found b has).0 e), λ either. (found b has).1 (from_found b either));
    }
      where
        to : (j : ℤ) → (j ≡ i) ⊎ IsTrue (members old.indices.set j) → IsTrue (members old.indices.set j) ⊎ ((j ≡ i) × PicksAt box first v y Anything i)
        to j (inl same) = inr (same, picked_there Anything meets.value tt meets.there ((has_wanted meets.value).0 meets.passes))
        to j (inr was) = inl was

        from : (j : ℤ) → IsTrue (members old.indices.set j) ⊎ ((j ≡ i) × PicksAt box first v y Anything i) → (j ≡ i) ⊎ IsTrue (members old.indices.set j)
        from j (inl was) = inr was
        from j (inr now) = inl now.0

        to_found : (b : ℤ) → PlaceHas box y b → IsTrue (members old.found.set b) ⊎ PlaceHas box t b → IsTrue (members old.found.set b) ⊎ PicksAt box first v y (OfResult b) i
        to_found b has (inl was) = inl was
        to_found b has (inr here) = inr (picked_there (OfResult b) b refl here has)

        from_found : (b : ℤ) → IsTrue (members old.found.set b) ⊎ PicksAt box first v y (OfResult b) i → IsTrue (members old.found.set b) ⊎ PlaceHas box t b
        from_found b (inl was) = inl was
        from_found b (inr p) = inr (subst (PlaceHas box t) p.picks.so (entry_has (OfResult b) p))

    pub gathers_none : (p : Picked) → (SomePasses (members wanted) t box → ⊥) → GathersAt box first v y i p p
    gathers_none p not = record {
      indices = λ j. (λ e. inl e, λ either. indices j either);
      found = λ b has. (λ e. inl e, λ either. found b either);
    }
      where
        indices : (j : ℤ) → IsTrue (members p.indices.set j) ⊎ ((j ≡ i) × PicksAt box first v y Anything i) → IsTrue (members p.indices.set j)
        indices j (inl was) = was
        indices j (inr now) = absurd (not (meets_picked Anything now.1))

        found : (b : ℤ) → IsTrue (members p.found.set b) ⊎ PicksAt box first v y (OfResult b) i → IsTrue (members p.found.set b)
        found b (inl was) = was
        found b (inr picks) = absurd (not (meets_picked (OfResult b) picks))

  pub gathers_nothing : (p : Picked) → IsEntryAt first v i None → GathersAt box first v y i p p
  gathers_nothing p none = record {
    indices = λ j. (λ e. inl e, λ either. indices j either);
    found = λ b has. (λ e. inl e, λ either. found b either);
  }
    where
      not : (w : Wanted) → PicksAt box first v y w i → ⊥
      not w p = none p.entry (slice_get_within v p.entry p.picks.term p.picks.stands) p.is

      indices : (j : ℤ) → IsTrue (members p.indices.set j) ⊎ ((j ≡ i) × PicksAt box first v y Anything i) → IsTrue (members p.indices.set j)
      indices j (inl was) = was
      indices j (inr now) = absurd (not Anything now.1)

      found : (b : ℤ) → IsTrue (members p.found.set b) ⊎ PicksAt box first v y (OfResult b) i → IsTrue (members p.found.set b)
      found b (inl was) = was
      found b (inr picks) = absurd (not (OfResult b) picks)
