-- Values that are chosen one from each of several places: parted, joined, and with another value at one place.
use Rattle.std.proofs.Common.{◌≡◌, ◌≢◌, ℕ, zero, suc, ◌+◌, ℤ, pos, List, [], ◌∷◌, ◌++◌, length, take, slice_get, slice_set, slice_index_or, ◌⊎◌, inl, inr, Some, refl, sym, subst, ap, ◌∙◌, arith}
use Rattle.std.specs.List.{AllZip}

-- values of a vector and of two places behind it
pub record Parted {T : Type 0} (H : T → ℤ → Type 0) (v : List T) (x y : T) (s : List ℤ) : Type 0 where
  pub front : List ℤ
  pub a : ℤ
  pub b : ℤ
  pub is : s ≡ front ++ a ∷ b ∷ []
  pub chosen : AllZip H v front
  pub has_x : H x a
  pub has_y : H y b

module _ {T : Type 0} (H : T → ℤ → Type 0) where
  pub parted : (v : List T) (x y : T) (s : List ℤ) → AllZip H (v ++ x ∷ y ∷ []) s → Parted H v x y s
  parted [] x y [] chosen = absurd chosen
  parted [] x y (a ∷ []) chosen = absurd chosen.1
  parted [] x y (a ∷ b ∷ []) chosen = record { front = []; a = a; b = b; is = refl; chosen = tt; has_x = chosen.0; has_y = chosen.1.0 }
  parted [] x y (a ∷ b ∷ d ∷ s) chosen = absurd chosen.1.1
  parted (t ∷ v) x y [] chosen = absurd chosen
  parted (t ∷ v) x y (a ∷ s) chosen =
      let p = parted v x y s chosen.1 in
      record { front = a ∷ p.front; a = p.a; b = p.b; is = ap (λ l. a ∷ l) p.is; chosen = (chosen.0, p.chosen); has_x = p.has_x; has_y = p.has_y }

  pub chosen_both : (v w : List T) (xs ys : List ℤ) → AllZip H v xs → AllZip H w ys → AllZip H (v ++ w) (xs ++ ys)
  chosen_both [] w [] ys one two = two
  chosen_both [] w (a ∷ xs) ys one two = absurd one
  chosen_both (t ∷ v) w [] ys one two = absurd one
  chosen_both (t ∷ v) w (a ∷ xs) ys one two = (one.0, chosen_both v w xs ys one.1 two)

  pub front_of : (v : List T) (xs ys : List ℤ) → AllZip H v xs → take (length v) (xs ++ ys) ≡ xs
  front_of [] [] ys one = refl
  front_of [] (a ∷ xs) ys one = absurd one
  front_of (t ∷ v) [] ys one = absurd one
  front_of (t ∷ v) (a ∷ xs) ys one = ap (λ l. a ∷ l) (front_of v xs ys one.1)

  -- what was chosen at a place is there
  pub chosen_there : (v : List T) (xs : List ℤ) (k : ℕ) (t : T) → AllZip H v xs → slice_get v k ≡ Some t → H t (slice_index_or xs k (pos 0))
  chosen_there [] xs k t one stands = cc
  chosen_there (u ∷ v) [] k t one stands = absurd one
  chosen_there (u ∷ v) (a ∷ xs) zero t one stands = let same : u ≡ t = cc in subst (λ x. H x a) same one.0
  chosen_there (u ∷ v) (a ∷ xs) (suc k) t one stands = chosen_there v xs k t one.1 stands

  -- with another value at a place
  pub chosen_with : (v : List T) (xs : List ℤ) (k : ℕ) (t : T) (a : ℤ) → AllZip H v xs → slice_get v k ≡ Some t → H t a → AllZip H v (slice_set xs k a)
  chosen_with [] xs k t a one stands has = cc
  chosen_with (u ∷ v) [] k t a one stands has = absurd one
  chosen_with (u ∷ v) (b ∷ xs) zero t a one stands has = let same : u ≡ t = cc in (subst (λ x. H x a) (sym same) has, one.1)
  chosen_with (u ∷ v) (b ∷ xs) (suc k) t a one stands has = (one.0, chosen_with v xs k t a one.1 stands has)

  -- it stands there, and all others stand where they stood
  pub at_there : (v : List T) (xs : List ℤ) (k : ℕ) (t : T) (a : ℤ) → AllZip H v xs → slice_get v k ≡ Some t → slice_index_or (slice_set xs k a) k (pos 0) ≡ a
  at_there [] xs k t a one stands = cc
  at_there (u ∷ v) [] k t a one stands = absurd one
  at_there (u ∷ v) (b ∷ xs) zero t a one stands = refl
  at_there (u ∷ v) (b ∷ xs) (suc k) t a one stands = at_there v xs k t a one.1 stands

  -- the value at a place of the first vector, and of the second
  pub at_front : (v : List T) (xs ys : List ℤ) (k : ℕ) (t : T) → AllZip H v xs → slice_get v k ≡ Some t → slice_index_or (xs ++ ys) k (pos 0) ≡ slice_index_or xs k (pos 0)
  at_front [] xs ys k t one stands = cc
  at_front (u ∷ v) [] ys k t one stands = absurd one
  at_front (u ∷ v) (a ∷ xs) ys zero t one stands = refl
  at_front (u ∷ v) (a ∷ xs) ys (suc k) t one stands = at_front v xs ys k t one.1 stands

  pub at_rest : (v : List T) (xs ys : List ℤ) (i k : ℕ) → AllZip H v xs → i ≡ length v + k → slice_index_or (xs ++ ys) i (pos 0) ≡ slice_index_or ys k (pos 0)
  at_rest [] [] ys i k one is = ap (λ n. slice_index_or ys n (pos 0)) (omega (arith, is))
  at_rest [] (a ∷ xs) ys i k one is = absurd one
  at_rest (t ∷ v) [] ys i k one is = absurd one
  at_rest (t ∷ v) (a ∷ xs) ys zero k one is = absurd (omega (arith, is))
  at_rest (t ∷ v) (a ∷ xs) ys (suc i) k one is = at_rest v xs ys i k one.1 (omega (arith, is))

  -- all others stand where they stood
  pub at_other : (v : List T) (xs : List ℤ) (k i : ℕ) (a : ℤ) → i ≢ k → slice_index_or (slice_set xs k a) i (pos 0) ≡ slice_index_or xs i (pos 0)
  at_other v [] k i a other = refl
  at_other v (b ∷ xs) zero zero a other = absurd (other refl)
  at_other v (b ∷ xs) zero (suc i) a other = refl
  at_other v (b ∷ xs) (suc k) zero a other = refl
  at_other v (b ∷ xs) (suc k) (suc i) a other = at_other v xs k i a (λ same. other (ap suc same))

  -- a value is chosen at each place, and each value at one
  pub got_there : (v : List T) (xs : List ℤ) (k : ℕ) (t : T) → AllZip H v xs → slice_get v k ≡ Some t → slice_get xs k ≡ Some (slice_index_or xs k (pos 0))
  got_there [] xs k t one stands = cc
  got_there (u ∷ v) [] k t one stands = absurd one
  got_there (u ∷ v) (a ∷ xs) zero t one stands = refl
  got_there (u ∷ v) (a ∷ xs) (suc k) t one stands = got_there v xs k t one.1 stands

  pub chosen_at : (v : List T) (xs : List ℤ) (k : ℕ) (a : ℤ) → AllZip H v xs → slice_get xs k ≡ Some a → (t : T) × (slice_get v k ≡ Some t) × H t a
  chosen_at [] [] k a one got = cc
  chosen_at [] (b ∷ xs) k a one got = absurd one
  chosen_at (u ∷ v) [] k a one got = absurd one
  chosen_at (u ∷ v) (b ∷ xs) zero a one got = let same : b ≡ a = cc in (u, refl, subst (H u) same one.0)
  chosen_at (u ∷ v) (b ∷ xs) (suc k) a one got = chosen_at v xs k a one.1 got

  -- where each place has a value, some are chosen
  pub some_chosen : (v : List T) → ((i : ℕ) (t : T) → slice_get v i ≡ Some t → (a : ℤ) × H t a) → (xs : List ℤ) × AllZip H v xs
  some_chosen [] some = ([], tt)
  some_chosen (t ∷ v) some =
      let here = some 0 t refl in
      let rest = some_chosen v (λ i u stands. some (suc i) u stands) in
      (here.0 ∷ rest.0, (here.1, rest.1))

-- a place of two vectors is one of the first or of the second
pub record InRest {T : Type 0} (v w : List T) (i : ℕ) (t : T) : Type 0 where
  pub place : ℕ
  pub is : i ≡ length v + place
  pub stands : slice_get w place ≡ Some t

pub of_either : {T : Type 0} (v w : List T) (i : ℕ) (t : T) → slice_get (v ++ w) i ≡ Some t → (slice_get v i ≡ Some t) ⊎ InRest v w i t
of_either [] w i t stands = inr (record { place = i; is = omega arith; stands = stands })
of_either (u ∷ v) w zero t stands = inl stands
of_either (u ∷ v) w (suc i) t stands = by (of_either v w i t stands)
  where
    by : (slice_get v i ≡ Some t) ⊎ InRest v w i t → (slice_get (u ∷ v) (suc i) ≡ Some t) ⊎ InRest (u ∷ v) w (suc i) t
    by (inl front) = inl front
    by (inr rest) = inr (record { place = rest.place; is = (let is = rest.is in omega (arith, is)); stands = rest.stands })

pub in_front : {T : Type 0} (v w : List T) (i : ℕ) (t : T) → slice_get v i ≡ Some t → slice_get (v ++ w) i ≡ Some t
in_front [] w i t stands = cc
in_front (u ∷ v) w zero t stands = stands
in_front (u ∷ v) w (suc i) t stands = in_front v w i t stands

pub in_rest : {T : Type 0} (v w : List T) (i k : ℕ) (t : T) → i ≡ length v + k → slice_get w k ≡ Some t → slice_get (v ++ w) i ≡ Some t
in_rest [] w i k t is stands = ap (slice_get w) (omega (arith, is)) ∙ stands
in_rest (u ∷ v) w zero k t is stands = absurd (omega (arith, is))
in_rest (u ∷ v) w (suc i) k t is stands = in_rest v w i k t (omega (arith, is)) stands
