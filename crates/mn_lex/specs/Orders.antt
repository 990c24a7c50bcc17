-- Boxes in which two vectors are in lexicographic order, or differ.
use Rattle.std.specs.Prelude.{◌≡◌, ◌≢◌, ℕ, ℤ, ◌<ℤ◌, ◌⊎◌, Bool, IsTrue, List, [], ◌∷◌, map, slice_get, Some}
use Rattle.mn_model.specs.declared.constraint.Term.{Term}
use Rattle.mn_boxes.specs.Places.{PlaceHas}
use Rattle.mn_prop.specs.Contexts.{place_hi, place_lo}
use Rattle.mn_lex.specs.Leading.{Leads}

-- the least value of each place, and the greatest
abbrev pub least_values : List (List ℤ) → List Term → List ℤ
least_values box v = map (place_lo box) v

abbrev pub greatest_values : List (List ℤ) → List Term → List ℤ
greatest_values box v = map (place_hi box) v

-- two places have one value, the same
abbrev pub AreOne : List (List ℤ) → Term → Term → Type 0
AreOne box x y = (a b : ℤ) → PlaceHas box x a → PlaceHas box y b → a ≡ b

-- so it is with the pairs of places whose numbers are P
abbrev pub AreOneWhere : (ℕ → Type 0) → List (List ℤ) → List Term → List Term → Type 0
AreOneWhere P box v w = (j : ℕ) (x y : Term) → P j → slice_get v j ≡ Some x → slice_get w j ≡ Some y → AreOne box x y

-- the first place of pair i can be less than the second
abbrev pub IsLessAt : ℕ → List (List ℤ) → List Term → List Term → Type 0
IsLessAt i box v w = (x y : Term) → slice_get v i ≡ Some x → slice_get w i ≡ Some y → place_lo box x <ℤ place_hi box y

-- x can be less than y. Where v and w stand behind them, each value of x leads with the best values elsewhere, and so does
-- each of y
pub record CanBeLess (or_equal : Bool) (box : List (List ℤ)) (x y : Term) (v w : List Term) : Type 0 where
  pub less : place_lo box x <ℤ place_hi box y
  pub first : (a : ℤ) → PlaceHas box x a → Leads or_equal (a ∷ least_values box v) (greatest_values box (y ∷ w))
  pub second : (b : ℤ) → PlaceHas box y b → Leads or_equal (least_values box (x ∷ v)) (b ∷ greatest_values box w)

-- the first of two vectors leads, whichever value one of the places has: up to a pair in which it can be less, all pairs have
-- one value, the same; or all have, where equal vectors will do
abbrev pub AreOrdered : Bool → List (List ℤ) → List Term → List Term → Type 0
AreOrdered or_equal box [] [] = IsTrue or_equal
AreOrdered or_equal box [] (y ∷ w) = ⊥
AreOrdered or_equal box (x ∷ v) [] = ⊥
AreOrdered or_equal box (x ∷ v) (y ∷ w) = CanBeLess or_equal box x y v w ⊎ (AreOne box x y × AreOrdered or_equal box v w)

-- two places have values that differ
pub record CanDiffer (box : List (List ℤ)) (x y : Term) : Type 0 where
  pub first : ℤ
  pub second : ℤ
  pub has_first : PlaceHas box x first
  pub has_second : PlaceHas box y second
  pub differ : first ≢ second
