-- Choices of values, place by place.
use Rattle.std.proofs.Common.{◌≡◌, ℕ, zero, suc, ◌<◌, ℤ, inl, inr, List, [], ◌∷◌, ◌++◌, length, take, slice_get, Some, refl, subst, ap, arith}
use Rattle.std.specs.List.{AllByRecursion}
use Rattle.mn_model.specs.Domain.{Has}
use Rattle.mn_model.specs.declared.constraint.Term.{Term}
use Rattle.mn_boxes.specs.Places.{PlaceHas}
use Rattle.mn_meaning.specs.Meaning.{at}
use Rattle.mn_closure.specs.Supports.{Choice}

-- a value of the place that has P
pub record ValueOf (box : List (List ℤ)) (t : Term) (P : ℤ → Type 0) : Type 0 where
  pub value : ℤ
  pub there : PlaceHas box t value
  pub has : P value

-- a choice whose value at each place has the property of that place
pub record Chosen (box : List (List ℤ)) (ts : List Term) (P : ℕ → ℤ → Type 0) : Type 0 where
  pub values : List ℤ
  pub chosen : Choice box ts values
  pub has : (j : ℕ) → j < length ts → P j (at values j)

pub choose : (box : List (List ℤ)) (ts : List Term) (P : ℕ → ℤ → Type 0) → ((j : ℕ) (t : Term) → slice_get ts j ≡ Some t → ValueOf box t (P j)) → Chosen box ts P
choose box [] P each = record { values = []; chosen = tt; has = λ j below. absurd (omega (arith, below)) }
choose box (t ∷ ts) P each =
    let first = each 0 t refl in
    let later = choose box ts (λ j. P (suc j)) (λ j u stands. each (suc j) u stands) in
    record { values = first.value ∷ later.values; chosen = (first.there, later.chosen); has = has_at first later }
  where
    has_at : (first : ValueOf box t (P 0)) (later : Chosen box ts (λ j. P (suc j))) (j : ℕ) → j < suc (length ts) → P j (at (first.value ∷ later.values) j)
    has_at first later zero below = first.has
    has_at first later (suc j) below = later.has j (omega (arith, below))

-- the value of a choice at a place is there
pub value_there : (box : List (List ℤ)) (ts : List Term) (xs : List ℤ) (i : ℕ) (t : Term) → Choice box ts xs → slice_get ts i ≡ Some t → PlaceHas box t (at xs i)
value_there box [] xs i t chosen stands = cc
value_there box (u ∷ ts) [] i t chosen stands = absurd chosen
value_there box (u ∷ ts) (x ∷ xs) zero t chosen stands = let same : u ≡ t = cc in subst (λ v. PlaceHas box v x) same chosen.0
value_there box (u ∷ ts) (x ∷ xs) (suc i) t chosen stands = value_there box ts xs i t chosen.1 stands

-- it has as many values as there are places
pub choice_long : (box : List (List ℤ)) (ts : List Term) (xs : List ℤ) → Choice box ts xs → length xs ≡ length ts
choice_long box [] [] chosen = refl
choice_long box [] (x ∷ xs) chosen = absurd chosen
choice_long box (t ∷ ts) [] chosen = absurd chosen
choice_long box (t ∷ ts) (x ∷ xs) chosen = ap suc (choice_long box ts xs chosen.1)

-- what is so of each of the first values, by their places
pub all_first : (P : ℤ → Type 0) (n : ℕ) (xs : List ℤ) → ((j : ℕ) → j < n → P (at xs j)) → AllByRecursion P (take n xs)
all_first P zero xs each = tt
all_first P (suc n) [] each = tt
all_first P (suc n) (x ∷ xs) each = (each 0 (omega arith), all_first P n xs (λ j below. each (suc j) (omega (arith, below))))

pub first_all : (P : ℤ → Type 0) (n : ℕ) (xs : List ℤ) → AllByRecursion P (take n xs) → (j : ℕ) → j < n → j < length xs → P (at xs j)
first_all P zero xs all j below within = absurd (omega (arith, below))
first_all P (suc n) [] all j below within = absurd (omega (arith, within))
first_all P (suc n) (x ∷ xs) all zero below within = all.0
first_all P (suc n) (x ∷ xs) all (suc j) below within = first_all P n xs all.1 j (omega (arith, below)) (omega (arith, within))

-- a is the value at one of the first places
pub record StandsFirst (n : ℕ) (xs : List ℤ) (a : ℤ) : Type 0 where
  pub place : ℕ
  pub below : place < n
  pub within : place < length xs
  pub is : at xs place ≡ a

pub first_has : (n : ℕ) (xs : List ℤ) (j : ℕ) → j < n → j < length xs → Has (take n xs) (at xs j)
first_has zero xs j below within = absurd (omega (arith, below))
first_has (suc n) [] j below within = absurd (omega (arith, within))
first_has (suc n) (x ∷ xs) zero below within = inl refl
first_has (suc n) (x ∷ xs) (suc j) below within = inr (first_has n xs j (omega (arith, below)) (omega (arith, within)))

pub has_first : (n : ℕ) (xs : List ℤ) (a : ℤ) → Has (take n xs) a → StandsFirst n xs a
has_first zero xs a has = absurd has
has_first (suc n) [] a has = absurd has
has_first (suc n) (x ∷ xs) a (inl same) = record { place = 0; below = omega arith; within = omega arith; is = same }
has_first (suc n) (x ∷ xs) a (inr later) = let s = has_first n xs a later in let below = s.below in let within = s.within in record { place = suc s.place; below = omega (arith, below); within = omega (arith, within); is = s.is }

-- the places of a vector and of one behind it
pub front_stands : (v : List Term) (x : Term) (j : ℕ) (t : Term) → slice_get v j ≡ Some t → slice_get (v ++ x ∷ []) j ≡ Some t
front_stands [] x j t stands = cc
front_stands (u ∷ v) x zero t stands = stands
front_stands (u ∷ v) x (suc j) t stands = front_stands v x j t stands

pub stands_front : (v : List Term) (x : Term) (j : ℕ) (t : Term) → j < length v → slice_get (v ++ x ∷ []) j ≡ Some t → slice_get v j ≡ Some t
stands_front [] x j t below stands = absurd (omega (arith, below))
stands_front (u ∷ v) x zero t below stands = stands
stands_front (u ∷ v) x (suc j) t below stands = stands_front v x j t (omega (arith, below)) stands

pub behind_is : (v : List Term) (x : Term) (j : ℕ) (t : Term) → slice_get (v ++ x ∷ []) j ≡ Some t → (j < length v → ⊥) → (j ≡ length v) × (x ≡ t)
behind_is [] x zero t stands past = (refl, cc)
behind_is [] x (suc j) t stands past = cc
behind_is (u ∷ v) x zero t stands past = absurd (past (omega arith))
behind_is (u ∷ v) x (suc j) t stands past = let both = behind_is v x j t stands (λ below. past (omega (arith, below))) in (ap suc both.0, both.1)

pub behind_stands : (v : List Term) (x : Term) → slice_get (v ++ x ∷ []) (length v) ≡ Some x
behind_stands [] x = refl
behind_stands (u ∷ v) x = behind_stands v x

pub behind_long : (v : List Term) (x : Term) → length (v ++ x ∷ []) ≡ suc (length v)
behind_long [] x = refl
behind_long (u ∷ v) x = ap suc (behind_long v x)
