-- The place of a tuple list is the first with its name, since no name stands twice.
use Rattle.std.proofs.Common.{◌≡◌, ◌==◌, ℕ, zero, suc, Bool, true, false, not, cond, List, [], ◌∷◌, ◌++◌, slice_get, Option, Some, None, refl, sym, ap, ◌∙◌, subst}
use Rattle.std.specs.Option.{option_and_then}
use Rattle.std.specs.Str.{bytes_eq}
use Rattle.std.proofs.lemmas.Bool.{eqb-true}
use Rattle.mn_model.specs.Lawful.{AreNewAfter}
use Rattle.mn_model.specs.Problem.{called, listed_as}
use Rattle.mn_model.specs.declared.declaration.Tuples.{Tuples}
use Rattle.mn_model.proofs.Named.{later_new, same_bytes}
use Rattle.mn_grammar.specs.Places.{when}
use Rattle.mn_grammar.specs.declared.Kind.TheVariants.{Shape}
use Rattle.mn_language.specs.Arguments.{at_list, list_place}

module _ {X : Type 0} (name_of : X → List ℕ) where
  -- an item that is found has the name
  found_named : (xs : List X) (name : List ℕ) (x : X) → called name_of xs name ≡ Some x → bytes_eq name (name_of x) ≡ true
  found_named [] name x e = cc
  found_named (y ∷ xs) name x e = by (bytes_eq name (name_of y)) refl e (found_named xs name x)
    where
      by : (b : Bool) → bytes_eq name (name_of y) ≡ b → cond b (Some y) (called name_of xs name) ≡ Some x → (called name_of xs name ≡ Some x → bytes_eq name (name_of x) ≡ true) → bytes_eq name (name_of x) ≡ true
      by true is e later = let same : y ≡ x = cc in subst (λ z. bytes_eq name (name_of z) ≡ true) same is
      by false is e later = later e

  last_is_called : (xs : List X) (x : X) → called name_of (xs ++ x ∷ []) (name_of x) ≡ None → ⊥
  last_is_called [] x e = by (bytes_eq (name_of x) (name_of x)) (same_bytes (name_of x)) e
    where
      by : (b : Bool) → b ≡ true → cond b (Some x) None ≡ None → ⊥
      by true is e = cc
      by false is e = cc
  last_is_called (y ∷ xs) x e = by (bytes_eq (name_of x) (name_of y)) e (last_is_called xs x)
    where
      by : (b : Bool) → cond b (Some y) (called name_of (xs ++ x ∷ []) (name_of x)) ≡ None → (called name_of (xs ++ x ∷ []) (name_of x) ≡ None → ⊥) → ⊥
      by true e later = cc
      by false e later = later e

place_by : (t x : Tuples) (ts earlier : List Tuples) (name : List ℕ) (i : ℕ) (b : Bool) → bytes_eq name t.name ≡ b → AreNewAfter (λ t. t.name) earlier (t ∷ ts) → slice_get (t ∷ ts) i ≡ Some x → cond b (Some t) (listed_as ts name) ≡ Some x
    → ((j : ℕ) → slice_get ts j ≡ Some x → listed_as ts name ≡ Some x → j ≡ list_place ts name) → i ≡ cond b 0 (suc (list_place ts name))
place_by t x ts earlier name zero true is new at found later = refl
place_by t x ts earlier name (suc i) true is new at found later =
    let same : t ≡ x = cc in
    absurd (last_is_called (λ (u : Tuples). u.name) earlier t (later_new (λ (u : Tuples). u.name) (earlier ++ t ∷ []) ts i t new.1 (at ∙ ap (λ u. Some u) (sym same))))
place_by t x ts earlier name zero false is new at found later =
    let same : t ≡ x = cc in
    let named = found_named (λ (u : Tuples). u.name) ts name x found in
    let here : bytes_eq name t.name ≡ true = subst (λ (u : Tuples). bytes_eq name u.name ≡ true) (sym same) named in
    absurd (clash (sym is ∙ here))
  where
    clash : false ≡ true → ⊥
    clash e = cc
place_by t x ts earlier name (suc i) false is new at found later = ap suc (later i at found)

list_place_of : (ts earlier : List Tuples) (name : List ℕ) (i : ℕ) (x : Tuples) → AreNewAfter (λ t. t.name) earlier ts → slice_get ts i ≡ Some x → listed_as ts name ≡ Some x → i ≡ list_place ts name
list_place_of [] earlier name i x new at found = cc
list_place_of (t ∷ ts) earlier name i x new at found =
    place_by t x ts earlier name i (bytes_eq name t.name) refl new at found (λ j at found. list_place_of ts (earlier ++ t ∷ []) name j x new.1 at found)

-- so a place at which the list of the name stands is its place
pub place_is : (ts : List Tuples) (name : List ℕ) (i : ℕ) (x : Tuples) → AreNewAfter (λ t. t.name) [] ts → slice_get ts i ≡ Some x → option_and_then (slice_get ts) (Some i) ≡ listed_as ts name → i ≡ list_place ts name
place_is ts name i x new at found = list_place_of ts [] name i x new at (sym found ∙ at)

-- one of another length is of the wrong shape
not_same : (m n : ℕ) → (m ≡ n → ⊥) → (m == n) ≡ false
not_same m n differ = by (m == n) refl
  where
    by : (b : Bool) → (m == n) ≡ b → b ≡ false
    by true e = absurd (differ (eqb-true m n e))
    by false e = refl

pub kind_of_other : (n : ℕ) (o : Option Tuples) (x : Tuples) → o ≡ Some x → (x.arity ≡ n → ⊥) → Some Shape ≡ at_list n o
kind_of_other n o x is other = sym (ap (at_list n) is ∙ ap (λ b. when (not b) Shape) (not_same x.arity n other))
