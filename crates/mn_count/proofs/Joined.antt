-- Values that are chosen one from each of the places of two vectors: parted and joined.
use Rattle.std.proofs.Common.{◌≡◌, ℕ, zero, suc, ◌+◌, ℤ, pos, List, [], ◌∷◌, ◌++◌, length, take, drop, slice_get, slice_index_or, ◌⊎◌, inl, inr, Some, refl, ap, ◌∙◌, arith}
use Rattle.std.specs.List.{AllZip}

module _ {T : Type 0} (H : T → ℤ → Type 0) where
  -- the front and the rest
  pub chosen_front : (v w : List T) (s : List ℤ) → AllZip H (v ++ w) s → AllZip H v (take (length v) s)
  chosen_front [] w s chosen = tt
  chosen_front (t ∷ v) w [] chosen = absurd chosen
  chosen_front (t ∷ v) w (a ∷ s) chosen = (chosen.0, chosen_front v w s chosen.1)

  pub chosen_rest : (v w : List T) (s : List ℤ) → AllZip H (v ++ w) s → AllZip H w (drop (length v) s)
  chosen_rest [] w s chosen = chosen
  chosen_rest (t ∷ v) w [] chosen = absurd chosen
  chosen_rest (t ∷ v) w (a ∷ s) chosen = chosen_rest v w s chosen.1

  pub chosen_both : (v w : List T) (xs ys : List ℤ) → AllZip H v xs → AllZip H w ys → AllZip H (v ++ w) (xs ++ ys)
  chosen_both [] w [] ys one two = two
  chosen_both [] w (a ∷ xs) ys one two = absurd one
  chosen_both (t ∷ v) w [] ys one two = absurd one
  chosen_both (t ∷ v) w (a ∷ xs) ys one two = (one.0, chosen_both v w xs ys one.1 two)

  pub front_of : (v : List T) (xs ys : List ℤ) → AllZip H v xs → take (length v) (xs ++ ys) ≡ xs
  front_of [] [] ys one = refl
  front_of [] (a ∷ xs) ys one = absurd one
  front_of (t ∷ v) [] ys one = absurd one
  front_of (t ∷ v) (a ∷ xs) ys one = ap (λ l. a ∷ l) (front_of v xs ys one.1)

  pub rest_of : (v : List T) (xs ys : List ℤ) → AllZip H v xs → drop (length v) (xs ++ ys) ≡ ys
  rest_of [] [] ys one = refl
  rest_of [] (a ∷ xs) ys one = absurd one
  rest_of (t ∷ v) [] ys one = absurd one
  rest_of (t ∷ v) (a ∷ xs) ys one = rest_of v xs ys one.1

  -- the value at a place of the first vector, and of the second
  pub at_front : (v : List T) (xs ys : List ℤ) (k : ℕ) (t : T) → AllZip H v xs → slice_get v k ≡ Some t → slice_index_or (xs ++ ys) k (pos 0) ≡ slice_index_or xs k (pos 0)
  at_front [] xs ys k t one stands = cc
  at_front (u ∷ v) [] ys k t one stands = absurd one
  at_front (u ∷ v) (a ∷ xs) ys zero t one stands = refl
  at_front (u ∷ v) (a ∷ xs) ys (suc k) t one stands = at_front v xs ys k t one.1 stands

  pub at_rest : (v : List T) (xs ys : List ℤ) (i k : ℕ) → AllZip H v xs → i ≡ length v + k → slice_index_or (xs ++ ys) i (pos 0) ≡ slice_index_or ys k (pos 0)
  at_rest [] [] ys i k one is = ap (λ n. slice_index_or ys n (pos 0)) (omega (arith, is))
  at_rest [] (a ∷ xs) ys i k one is = absurd one
  at_rest (t ∷ v) [] ys i k one is = absurd one
  at_rest (t ∷ v) (a ∷ xs) ys zero k one is = absurd (omega (arith, is))
  at_rest (t ∷ v) (a ∷ xs) ys (suc i) k one is = at_rest v xs ys i k one.1 (omega (arith, is))

-- what was chosen at a place of the rest
pub at_drop : (n : ℕ) (s : List ℤ) (i k : ℕ) → i ≡ n + k → slice_index_or (drop n s) k (pos 0) ≡ slice_index_or s i (pos 0)
at_drop zero s i k is = ap (λ m. slice_index_or s m (pos 0)) (omega (arith, is))
at_drop (suc n) [] i k is = refl
at_drop (suc n) (a ∷ s) zero k is = absurd (omega (arith, is))
at_drop (suc n) (a ∷ s) (suc i) k is = at_drop n s i k (omega (arith, is))

-- a place of two vectors is one of the first or of the second
pub record InRest {T : Type 0} (v w : List T) (i : ℕ) (t : T) : Type 0 where
  pub place : ℕ
  pub is : i ≡ length v + place
  pub stands : slice_get w place ≡ Some t

pub of_either : {T : Type 0} (v w : List T) (i : ℕ) (t : T) → slice_get (v ++ w) i ≡ Some t → (slice_get v i ≡ Some t) ⊎ InRest v w i t
of_either [] w i t stands = inr (record { place = i; is = omega arith; stands = stands })
of_either (u ∷ v) w zero t stands = inl stands
of_either (u ∷ v) w (suc i) t stands = by (of_either v w i t stands)
  where
    by : (slice_get v i ≡ Some t) ⊎ InRest v w i t → (slice_get (u ∷ v) (suc i) ≡ Some t) ⊎ InRest (u ∷ v) w (suc i) t
    by (inl front) = inl front
    by (inr rest) = inr (record { place = rest.place; is = (let is = rest.is in omega (arith, is)); stands = rest.stands })

pub in_front : {T : Type 0} (v w : List T) (i : ℕ) (t : T) → slice_get v i ≡ Some t → slice_get (v ++ w) i ≡ Some t
in_front [] w i t stands = cc
in_front (u ∷ v) w zero t stands = stands
in_front (u ∷ v) w (suc i) t stands = in_front v w i t stands

pub in_rest : {T : Type 0} (v w : List T) (i k : ℕ) (t : T) → i ≡ length v + k → slice_get w k ≡ Some t → slice_get (v ++ w) i ≡ Some t
in_rest [] w i k t is stands = ap (slice_get w) (omega (arith, is)) ∙ stands
in_rest (u ∷ v) w zero k t is stands = absurd (omega (arith, is))
in_rest (u ∷ v) w (suc i) k t is stands = in_rest v w i k t (omega (arith, is)) stands

-- nothing is in front of nothing, and nothing behind it
pub take_none : (n : ℕ) (s : List ℤ) → s ≡ [] → take n s ≡ s
take_none zero [] none = refl
take_none (suc n) [] none = refl
take_none n (a ∷ s) none = cc

pub drop_none : (n : ℕ) (s : List ℤ) → s ≡ [] → drop n s ≡ s
drop_none zero [] none = refl
drop_none (suc n) [] none = refl
drop_none n (a ∷ s) none = cc
