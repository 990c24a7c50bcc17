-- The places other than one, gone through in order, and the values of a place.
use Rattle.std.proofs.Common.{◌≡◌, ◌≢◌, ◌↔◌, ℕ, ◌+◌, ◌<◌, ◌≤◌, ℤ, inl, inr, Bool, false, IsTrue, List, [], length, get_or, slice_get, Some, sym, subst, ◌∙◌, arith, true≢false}
use Rattle.std.proofs.lemmas.Option.{get_or_from_slice_get, slice_get-get_or, slice_get_within}
use Rattle.mn_model.specs.Decided.{Decided, decide_nat}
use Rattle.mn_model.specs.declared.constraint.Term.{Term}
use Rattle.mn_model.specs.declared.declaration.Tuples.{Tuples}
use Rattle.mn_boxes.specs.Places.{PlaceHas}
use Rattle.mn_boxes.specs.Sets.{Variable}
use Rattle.mn_prop.specs.Contexts.{IsNamed}
use Rattle.mn_prop.specs.Posts.{IsReady, beside}
use Rattle.mn_prop.proofs.Ready.{ready_named}
use Rattle.mn_arith.specs.Extremes.{OtherHas, extreme_con}
use Rattle.mn_arith.proofs.Choosing.{behind_stands, front_stands}
use Rattle.mn_arith.proofs.Told.{stands_at}

-- the places of a vector and the one behind it are named
pub front_named : (greatest : Bool) (v : List Term) (x : Term) (lists : List Tuples) (vars : List Variable) (j : ℕ) (t : Term) → IsReady vars lists (extreme_con greatest v x) → slice_get v j ≡ Some t → IsNamed vars t
front_named greatest v x lists vars j t ready stands = ready_named (beside lists (extreme_con greatest v x)) j ready (stands_at greatest v x lists [] j t (front_stands v x j t stands))

pub behind_named : (greatest : Bool) (v : List Term) (x : Term) (lists : List Tuples) (vars : List Variable) → IsReady vars lists (extreme_con greatest v x) → IsNamed vars x
behind_named greatest v x lists vars ready = ready_named (beside lists (extreme_con greatest v x)) (length v) ready (stands_at greatest v x lists [] (length v) x (behind_stands v x))

-- the term at a place of the slice
pub stands_now : (us v : List Term) (j : ℕ) (d : Term) → us ≡ v → j < length us → slice_get v j ≡ Some (get_or us j d)
stands_now us v j d same below = subst (λ ts. slice_get ts j ≡ Some (get_or us j d)) same (slice_get-get_or us j d below)

-- each of the first places but i has P
abbrev pub OthersBefore : List Term → ℕ → ℕ → (Term → Type 0) → Type 0
OthersBefore v j i P = (k : ℕ) (t : Term) → slice_get v k ≡ Some t → k < j → k ≢ i → P t

pub one_more : (us v : List Term) (j i : ℕ) (d : Term) (P : Term → Type 0) → us ≡ v → j < length us → OthersBefore v j i P → (j ≢ i → P (get_or us j d)) → OthersBefore v (j + 1) i P
one_more us v j i d P same within before here k t at_k below differs = by (decide_nat k j)
  where
    by : Decided (k ≡ j) → P t
    by (inl is) = subst P (get_or_from_slice_get us j t d (subst (λ ts. slice_get ts j ≡ Some t) (sym same) (subst (λ n. slice_get v n ≡ Some t) is at_k))) (here (λ e. differs (is ∙ e)))
    by (inr other) = before k t at_k (omega (arith, below, other)) differs

pub all_others : (us v : List Term) (j i : ℕ) (P : Term → Type 0) → us ≡ v → length us ≤ j → OthersBefore v j i P → (k : ℕ) (t : Term) → slice_get v k ≡ Some t → k ≢ i → P t
all_others us v j i P same past before k t at_k differs =
    let below : k < length us = slice_get_within us k t (subst (λ ts. slice_get ts k ≡ Some t) (sym same) at_k) in
    before k t at_k (omega (arith, below, past)) differs

-- none of the first places but i has m, so none has at the end
pub none_has : (us v : List Term) (j i : ℕ) (m : ℤ) (box : List (List ℤ)) → us ≡ v → length us ≤ j → OthersBefore v j i (λ t. PlaceHas box t m → ⊥) → IsTrue false ↔ OtherHas v i m box
none_has us v j i m box same past before = (λ never. absurd (true≢false (sym never)), λ other. absurd (all_others us v j i (λ t. PlaceHas box t m → ⊥) same past before other.place other.term other.stands other.other other.there))
