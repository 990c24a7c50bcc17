-- Values that are chosen one from each of several places: with another value at one place, and with a place behind them.
use Rattle.std.proofs.Common.{◌≡◌, ℕ, zero, suc, ◌+◌, ◌<◌, ◌≤◌, ℤ, List, [], ◌∷◌, ◌++◌, length, take, drop, slice_get, slice_set, ◌⊎◌, inl, inr, Some, refl, sym, subst, ap, ◌∙◌, arith}
use Rattle.std.specs.List.{AllZip}
use Rattle.mn_model.specs.declared.constraint.Term.{Term}
use Rattle.mn_boxes.specs.Boxes.{Inside}
use Rattle.mn_meaning.specs.Meaning.{at}
use Rattle.mn_closure.specs.Supports.{Choice}
use Rattle.mn_closure.proofs.Wider.{wider_place}

module _ {T : Type 0} (H : T → ℤ → Type 0) where
  -- what was chosen at a place is there
  pub chosen_there : (v : List T) (s : List ℤ) (i : ℕ) (t : T) → AllZip H v s → slice_get v i ≡ Some t → H t (at s i)
  chosen_there [] s i t chosen stands = cc
  chosen_there (u ∷ v) [] i t chosen stands = absurd chosen
  chosen_there (u ∷ v) (a ∷ s) zero t chosen stands = let same : u ≡ t = cc in subst (λ x. H x a) same chosen.0
  chosen_there (u ∷ v) (a ∷ s) (suc i) t chosen stands = chosen_there v s i t chosen.1 stands

  -- with another value at a place
  pub chosen_with : (v : List T) (s : List ℤ) (i : ℕ) (t : T) (a : ℤ) → AllZip H v s → slice_get v i ≡ Some t → H t a → AllZip H v (slice_set s i a)
  chosen_with [] s i t a chosen stands has = cc
  chosen_with (u ∷ v) [] i t a chosen stands has = absurd chosen
  chosen_with (u ∷ v) (b ∷ s) zero t a chosen stands has = let same : u ≡ t = cc in (subst (λ x. H x a) (sym same) has, chosen.1)
  chosen_with (u ∷ v) (b ∷ s) (suc i) t a chosen stands has = (chosen.0, chosen_with v s i t a chosen.1 stands has)

  -- it stands there
  pub at_there : (v : List T) (s : List ℤ) (i : ℕ) (t : T) (a : ℤ) → AllZip H v s → slice_get v i ≡ Some t → at (slice_set s i a) i ≡ a
  at_there [] s i t a chosen stands = cc
  at_there (u ∷ v) [] i t a chosen stands = absurd chosen
  at_there (u ∷ v) (b ∷ s) zero t a chosen stands = refl
  at_there (u ∷ v) (b ∷ s) (suc i) t a chosen stands = at_there v s i t a chosen.1 stands

  -- the entries, and the place behind them
  pub chosen_front : (v : List T) (x : T) (s : List ℤ) → AllZip H (v ++ x ∷ []) s → AllZip H v (take (length v) s)
  chosen_front [] x s chosen = tt
  chosen_front (t ∷ v) x [] chosen = absurd chosen
  chosen_front (t ∷ v) x (a ∷ s) chosen = (chosen.0, chosen_front v x s chosen.1)

  pub chosen_behind : (v : List T) (x : T) (s : List ℤ) → AllZip H (v ++ x ∷ []) s → H x (at s (length v))
  chosen_behind [] x [] chosen = absurd chosen
  chosen_behind [] x (a ∷ s) chosen = chosen.0
  chosen_behind (t ∷ v) x [] chosen = absurd chosen
  chosen_behind (t ∷ v) x (a ∷ s) chosen = chosen_behind v x s chosen.1

  pub chosen_both : (v : List T) (x : T) (s : List ℤ) (n : ℤ) → AllZip H v s → H x n → AllZip H (v ++ x ∷ []) (s ++ n ∷ [])
  chosen_both [] x [] n chosen has = (has, tt)
  chosen_both [] x (a ∷ s) n chosen has = absurd chosen
  chosen_both (t ∷ v) x [] n chosen has = absurd chosen
  chosen_both (t ∷ v) x (a ∷ s) n chosen has = (chosen.0, chosen_both v x s n chosen.1 has)

  pub front_is : (v : List T) (s : List ℤ) (n : ℤ) → AllZip H v s → take (length v) (s ++ n ∷ []) ≡ s
  front_is [] [] n chosen = refl
  front_is [] (a ∷ s) n chosen = absurd chosen
  front_is (t ∷ v) [] n chosen = absurd chosen
  front_is (t ∷ v) (a ∷ s) n chosen = ap (λ l. a ∷ l) (front_is v s n chosen.1)

  pub behind_is : (v : List T) (s : List ℤ) (n : ℤ) → AllZip H v s → at (s ++ n ∷ []) (length v) ≡ n
  behind_is [] [] n chosen = refl
  behind_is [] (a ∷ s) n chosen = absurd chosen
  behind_is (t ∷ v) [] n chosen = absurd chosen
  behind_is (t ∷ v) (a ∷ s) n chosen = behind_is v s n chosen.1

  -- the value at one of the entries
  pub at_front : (v : List T) (s : List ℤ) (n : ℤ) (i : ℕ) (t : T) → AllZip H v s → slice_get v i ≡ Some t → at (s ++ n ∷ []) i ≡ at s i
  at_front [] s n i t chosen stands = cc
  at_front (u ∷ v) [] n i t chosen stands = absurd chosen
  at_front (u ∷ v) (a ∷ s) n zero t chosen stands = refl
  at_front (u ∷ v) (a ∷ s) n (suc i) t chosen stands = at_front v s n i t chosen.1 stands

pub at_take : (n : ℕ) (s : List ℤ) (i : ℕ) → i < n → at (take n s) i ≡ at s i
at_take zero s i less = absurd (omega (arith, less))
at_take (suc n) [] i less = refl
at_take (suc n) (a ∷ s) zero less = refl
at_take (suc n) (a ∷ s) (suc i) less = at_take n s i (omega (arith, less))

-- a place is an entry or the one behind them
pub of_either : {T : Type 0} (v : List T) (x : T) (i : ℕ) (t : T) → slice_get (v ++ x ∷ []) i ≡ Some t → (slice_get v i ≡ Some t) ⊎ ((i ≡ length v) × (t ≡ x))
of_either [] x zero t stands = let same : t ≡ x = cc in inr (refl, same)
of_either [] x (suc i) t stands = cc
of_either (u ∷ v) x zero t stands = inl stands
of_either (u ∷ v) x (suc i) t stands = by (of_either v x i t stands)
  where
    by : (slice_get v i ≡ Some t) ⊎ ((i ≡ length v) × (t ≡ x)) → (slice_get (u ∷ v) (suc i) ≡ Some t) ⊎ ((suc i ≡ suc (length v)) × (t ≡ x))
    by (inl front) = inl front
    by (inr behind) = inr (ap suc behind.0, behind.1)

pub in_front : {T : Type 0} (v : List T) (x : T) (i : ℕ) (t : T) → slice_get v i ≡ Some t → slice_get (v ++ x ∷ []) i ≡ Some t
in_front [] x i t stands = cc
in_front (u ∷ v) x zero t stands = stands
in_front (u ∷ v) x (suc i) t stands = in_front v x i t stands

pub stands_behind : {T : Type 0} (v : List T) (x : T) → slice_get (v ++ x ∷ []) (length v) ≡ Some x
stands_behind [] x = refl
stands_behind (u ∷ v) x = stands_behind v x

pub never_empty : {T : Type 0} (v : List T) (x : T) → v ++ x ∷ [] ≡ [] → ⊥
never_empty [] x e = cc
never_empty (t ∷ v) x e = cc

-- the same place has the same term
pub same_entry : {T : Type 0} (v : List T) (i : ℕ) (t u : T) → slice_get v i ≡ Some t → slice_get v i ≡ Some u → t ≡ u
same_entry v i t u one another = cc (one, another)

-- what is left from a place on is the place and what is left behind it
left_at : {T : Type 0} (v : List T) (i : ℕ) (t : T) → slice_get v i ≡ Some t → drop i v ≡ t ∷ drop (suc i) v
left_at [] i t stands = cc
left_at (u ∷ v) zero t stands = let same : u ≡ t = cc in ap (λ x. x ∷ v) same
left_at (u ∷ v) (suc i) t stands = left_at v i t stands

pub left_next : {T : Type 0} (v : List T) (i : ℕ) (t : T) → slice_get v i ≡ Some t → drop i v ≡ t ∷ drop (i + 1) v
left_next v i t stands = left_at v i t stands ∙ (let next : suc i ≡ i + 1 = omega arith in ap (λ n. t ∷ drop n v) next)

pub none_left : {T : Type 0} (v : List T) (i : ℕ) → length v ≤ i → drop i v ≡ []
none_left [] zero whole = refl
none_left [] (suc i) whole = refl
none_left (u ∷ v) zero whole = absurd (omega (arith, whole))
none_left (u ∷ v) (suc i) whole = none_left v i (omega (arith, whole))

-- a list is empty or has a first place
pub no_place : {T : Type 0} (v : List T) → (v ≡ [] → ⊥) → ((t : T) → slice_get v 0 ≡ Some t → ⊥) → ⊥
no_place [] empty first = empty refl
no_place (t ∷ v) empty first = first t refl

-- what is chosen in a box is chosen in one around it
pub choice_inside : (box old : List (List ℤ)) (v : List Term) (s : List ℤ) → Inside box old → Choice box v s → Choice old v s
choice_inside box old [] [] inside chosen = tt
choice_inside box old [] (a ∷ s) inside chosen = absurd chosen
choice_inside box old (t ∷ v) [] inside chosen = absurd chosen
choice_inside box old (t ∷ v) (a ∷ s) inside chosen = (wider_place box old inside t a chosen.0, choice_inside box old v s inside chosen.1)
