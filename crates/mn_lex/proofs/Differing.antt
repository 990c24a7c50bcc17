-- Values of two vectors that differ at a pair of places.
use Rattle.std.proofs.Common.{◌≡◌, ◌≢◌, ℕ, zero, suc, ℤ, pos, inl, inr, List, [], ◌∷◌, slice_get, slice_set, slice_index_or, Some, refl, ap, ◌∙◌, arith}
use Rattle.std.proofs.lemmas.List.{get_or-set_other}
use Rattle.mn_model.specs.Decided.{Decided, decide_nat}
use Rattle.mn_model.specs.declared.constraint.Term.{Term}
use Rattle.mn_boxes.specs.Places.{PlaceHas}
use Rattle.mn_lex.specs.Leading.{Differ}
use Rattle.mn_lex.specs.Orders.{AreOneWhere, least_values}
use Rattle.mn_lex.proofs.Chosen.{at_there, chosen_with}
use Rattle.mn_lex.proofs.Leaders.{AllEnds, Chosen, least_chosen}

module _ (box : List (List ℤ)) where
  -- lists that are chosen differ where values at one pair of places do
  pub differ_at : (k : ℕ) (v w : List Term) (x y : Term) (xs ys : List ℤ) → Chosen box v xs → Chosen box w ys → slice_get v k ≡ Some x → slice_get w k ≡ Some y → slice_index_or xs k (pos 0) ≢ slice_index_or ys k (pos 0) → Differ xs ys
  differ_at k [] w x y xs ys one two stands other differ = cc
  differ_at k (u ∷ v) [] x y xs ys one two stands other differ = cc
  differ_at k (u ∷ v) (z ∷ w) x y [] ys one two stands other differ = absurd one
  differ_at k (u ∷ v) (z ∷ w) x y (a ∷ xs) [] one two stands other differ = absurd two
  differ_at zero (u ∷ v) (z ∷ w) x y (a ∷ xs) (b ∷ ys) one two stands other differ = inl differ
  differ_at (suc k) (u ∷ v) (z ∷ w) x y (a ∷ xs) (b ∷ ys) one two stands other differ = inr (differ_at k v w x y xs ys one.1 two.1 stands other differ)

  -- where all pairs have one value they don't differ
  pub none_differ : (v w : List Term) (xs ys : List ℤ) → Chosen box v xs → Chosen box w ys → AreOneWhere (λ j. Unit {0}) box v w → Differ xs ys → ⊥
  none_differ [] w [] ys one two same differ = differ
  none_differ [] w (a ∷ xs) ys one two same differ = one
  none_differ (u ∷ v) w [] ys one two same differ = one
  none_differ (u ∷ v) w (a ∷ xs) [] one two same differ = differ
  none_differ (u ∷ v) [] (a ∷ xs) (b ∷ ys) one two same differ = two
  none_differ (u ∷ v) (z ∷ w) (a ∷ xs) (b ∷ ys) one two same (inl differ) = differ (same 0 u z tt refl refl a b one.0 two.0)
  none_differ (u ∷ v) (z ∷ w) (a ∷ xs) (b ∷ ys) one two same (inr later) = none_differ v w xs ys one.1 two.1 (λ j t s all at_t at_s. same (suc j) t s tt at_t at_s) later

  -- where all other pairs do they differ at that one
  pub differ_there : (k : ℕ) (v w : List Term) (xs ys : List ℤ) → Chosen box v xs → Chosen box w ys → AreOneWhere (λ j. j ≢ k) box v w → Differ xs ys → slice_index_or xs k (pos 0) ≢ slice_index_or ys k (pos 0)
  differ_there k [] w [] ys one two same differ = absurd differ
  differ_there k [] w (a ∷ xs) ys one two same differ = absurd one
  differ_there k (u ∷ v) w [] ys one two same differ = absurd one
  differ_there k (u ∷ v) w (a ∷ xs) [] one two same differ = absurd differ
  differ_there k (u ∷ v) [] (a ∷ xs) (b ∷ ys) one two same differ = absurd two
  differ_there zero (u ∷ v) (z ∷ w) (a ∷ xs) (b ∷ ys) one two same (inl differ) = differ
  differ_there zero (u ∷ v) (z ∷ w) (a ∷ xs) (b ∷ ys) one two same (inr later) = absurd (none_differ v w xs ys one.1 two.1 (λ j t s all at_t at_s. same (suc j) t s (λ e. omega (arith, e)) at_t at_s) later)
  differ_there (suc k) (u ∷ v) (z ∷ w) (a ∷ xs) (b ∷ ys) one two same (inl differ) = absurd (differ (same 0 u z (λ e. omega (arith, e)) refl refl a b one.0 two.0))
  differ_there (suc k) (u ∷ v) (z ∷ w) (a ∷ xs) (b ∷ ys) one two same (inr later) = differ_there k v w xs ys one.1 two.1 (λ j t s other at_t at_s. same (suc j) t s (λ e. other (omega (arith, e))) at_t at_s) later

  -- values of a vector with a at place k, and c at place q
  pub record HasBoth (v : List Term) (k q : ℕ) (a c : ℤ) : Type 0 where
    pub values : List ℤ
    pub chosen : Chosen box v values
    pub one : slice_index_or values k (pos 0) ≡ a
    pub another : slice_index_or values q (pos 0) ≡ c

  pub with_both : (v : List Term) (k q : ℕ) (x t : Term) (a c : ℤ) → AllEnds box v → slice_get v k ≡ Some x → slice_get v q ≡ Some t → PlaceHas box x a → PlaceHas box t c → (q ≡ k → a ≡ c) → HasBoth v k q a c
  with_both v k q x t a c ends stands other has had same = record {
    values = slice_set first k a;
    chosen = chosen_with (PlaceHas box) v first k x a there stands has;
    one = at_there (PlaceHas box) v first k x a there stands;
    another = by (decide_nat q k);
  }
    where
      first : List ℤ
      first = slice_set (least_values box v) q c

      there : Chosen box v first
      there = chosen_with (PlaceHas box) v (least_values box v) q t c (least_chosen box v ends) other had

      by : Decided (q ≡ k) → slice_index_or (slice_set first k a) q (pos 0) ≡ c
      by (inl is) = ap (λ n. slice_index_or (slice_set first k a) n (pos 0)) is ∙ (at_there (PlaceHas box) v first k x a there stands ∙ same is)
      by (inr differs) = get_or-set_other first k q a (pos 0) differs ∙ at_there (PlaceHas box) v (least_values box v) q t c (least_chosen box v ends) other
