-- What is looked for among the values of a place, from the least one on.
use Rattle.std.proofs.Common.{◌≡◌, ◌↔◌, ℕ, ℤ, pos, ◌+ℤ◌, ◌<ℤ◌, ◌≤ℤ◌, ◌⊎◌, inl, inr, Bool, true, false, IsTrue, List, slice_get, Some, None, refl, sym, subst, ◌∙◌, arith, true≢false}
use Rattle.std.proofs.lemmas.Int.{ints}
use Rattle.std.proofs.lemmas.Option.{slice_get_within}
use Rattle.mn_model.specs.declared.constraint.Term.{Term}
use Rattle.mn_boxes.specs.Places.{PlaceHas}
use Rattle.mn_prop.specs.Contexts.{IsLeastAt, IsNextAt}
use Rattle.mn_element.specs.Picks.{IsEntryAt, IsWanted, Picks, PicksAt, PicksEntry, Share}
use Rattle.mn_element.specs.declared.picking.Wanted.{Wanted}

-- a is a value of the place, and no lesser one there has Q
pub record NoneBelow (box : List (List ℤ)) (t : Term) (Q : ℤ → Type 0) (a : ℤ) : Type 0 where
  pub there : PlaceHas box t a
  pub below : (b : ℤ) → PlaceHas box t b → b <ℤ a → Q b → ⊥

-- a number is at most another: it is less, or the same
less_or_same : (a b : ℤ) → b ≤ℤ a → (b <ℤ a) ⊎ (b ≡ a)
less_or_same a b le = grind (arith, ints)

module _ (box : List (List ℤ)) (t : Term) (Q : ℤ → Type 0) where
  pub begins_below : (lo : ℤ) → IsLeastAt box t lo → NoneBelow box t Q lo
  begins_below lo least = record { there = least.there; below = λ b has less q. (let le = least.least b has in omega (arith, ints, le, less)) }

  -- none up to a has Q, if a hasn't
  up_to : (a b : ℤ) → NoneBelow box t Q a → (Q a → ⊥) → PlaceHas box t b → b ≤ℤ a → Q b → ⊥
  up_to a b none not has le q = by (less_or_same a b le)
    where
      by : (b <ℤ a) ⊎ (b ≡ a) → ⊥
      by (inl less) = none.below b has less q
      by (inr same) = not (subst Q same q)

  pub goes_below : (a next : ℤ) → NoneBelow box t Q a → (Q a → ⊥) → IsNextAt box t a (Some next) → NoneBelow box t Q next
  goes_below a next none not is = record { there = is.0; below = λ b has less q. by b has less q (is.2 b has) }
    where
      by : (b : ℤ) → PlaceHas box t b → b <ℤ next → Q b → (b ≤ℤ a) ⊎ (next ≤ℤ b) → ⊥
      by b has less q (inl le) = up_to a b none not has le q
      by b has less q (inr ge) = omega (arith, ints, ge, less)

  pub none_left : (a b : ℤ) → NoneBelow box t Q a → (Q a → ⊥) → IsNextAt box t a None → PlaceHas box t b → Q b → ⊥
  none_left a b none not is has q = up_to a b none not has (is b has) q

-- ---- a value in common

pub share_found : (box : List (List ℤ)) (t u : Term) (a : ℤ) → PlaceHas box t a → PlaceHas box u a → IsTrue true ↔ Share box t u
share_found box t u a first second = (λ e. record { value = a; first = first; second = second }, λ s. refl)

pub share_none : (box : List (List ℤ)) (t u : Term) (a : ℤ) → NoneBelow box t (PlaceHas box u) a → (PlaceHas box u a → ⊥) → IsNextAt box t a None → IsTrue false ↔ Share box t u
share_none box t u a none not is = (λ e. absurd (true≢false (sym e)), λ s. absurd (none_left box t (PlaceHas box u) a s.value none not is s.first s.second))

-- ---- an entry

module _ (box : List (List ℤ)) (v : List Term) (y t : Term) (w : Wanted) (k : ℕ) (stands : slice_get v k ≡ Some t) (m : Bool) where
  same_term : (u : Term) → slice_get v k ≡ Some u → u ≡ t
  same_term u at = some_so u (sym at ∙ stands)
    where
      some_so : (u : Term) → Some u ≡ Some t → u ≡ t
      some_so u e = cc

  pub any_told : ((b : ℤ) → IsWanted w k b) → IsTrue m ↔ Share box t y → IsTrue m ↔ PicksEntry box v y w k
  any_told so tells = (
    λ e. (let s = tells.0 e in record { term = t; value = s.value; stands = stands; has_entry = s.first; has_result = s.second; so = so s.value }),
    λ p. tells.1 (record { value = p.value; first = subst (λ u. PlaceHas box u p.value) (same_term p.term p.stands) p.has_entry; second = p.has_result }),
  )

  pub one_told : (a : ℤ) → IsWanted w k a → ((b : ℤ) → IsWanted w k b → b ≡ a) → IsTrue m ↔ (PlaceHas box t a × PlaceHas box y a) → IsTrue m ↔ PicksEntry box v y w k
  one_told a so only tells = (
    λ e. (let s = tells.0 e in record { term = t; value = a; stands = stands; has_entry = s.0; has_result = s.1; so = so }),
    λ p. (let same = only p.value p.so in tells.1 (subst (λ u. PlaceHas box u a) (same_term p.term p.stands) (subst (PlaceHas box p.term) same p.has_entry), subst (PlaceHas box y) same p.has_result)),
  )

module _ (box : List (List ℤ)) (first : ℤ) (v : List Term) (y : Term) (w : Wanted) (i : ℤ) where
  -- the entry at an index
  pub at_told : (k : ℕ) (m : Bool) → IsEntryAt first v i (Some k) → IsTrue m ↔ PicksEntry box v y w k → IsTrue m ↔ PicksAt box first v y w i
  at_told k m is tells = (
    λ e. record { entry = k; is = is.1; picks = tells.0 e },
    λ p. tells.1 (subst (PicksEntry box v y w) (same p.entry p.is) p.picks),
  )
    where
      same : (j : ℕ) → i ≡ pos j +ℤ first → j ≡ k
      same j other = let one = is.1 in omega (arith, ints, one, other)

  pub at_none : IsEntryAt first v i None → IsTrue false ↔ PicksAt box first v y w i
  at_none none = (λ e. absurd (true≢false (sym e)), λ p. absurd (none p.entry (slice_get_within v p.entry p.picks.term p.picks.stands) p.is))

module _ (box : List (List ℤ)) (first : ℤ) (v : List Term) (x y : Term) (w : Wanted) (i : ℤ) where
  pub picks_found : PlaceHas box x i → PicksAt box first v y w i → IsTrue true ↔ Picks box first v x y w
  picks_found there at_index = (λ e. record { index = i; there = there; at_index = at_index }, λ p. refl)

  pub picks_none : NoneBelow box x (PicksAt box first v y w) i → (PicksAt box first v y w i → ⊥) → IsNextAt box x i None → IsTrue false ↔ Picks box first v x y w
  picks_none none not is = (λ e. absurd (true≢false (sym e)), λ p. absurd (none_left box x (PicksAt box first v y w) i p.index none not is p.there p.at_index))
