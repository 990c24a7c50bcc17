-- The greatest closed box, and the least box around two.
use Rattle.std.specs.Prelude.{ℤ, ◌&&◌, Bool, true, false, List, [], ◌∷◌, ◌++◌, filter, map, int_le}
use Rattle.std.specs.List.{list_any}
use Rattle.std.specs.Ordering.{int_eq}
use Rattle.mn_model.specs.declared.constraint.Con.{Con}
use Rattle.mn_model.specs.declared.declaration.Tuples.{Tuples}
use Rattle.mn_boxes.specs.Boxes.{IsBox, Inside}
use Rattle.mn_boxes.specs.Sets.{Variable}
use Rattle.mn_closure.specs.Closed.{ClosedAll}

-- the least box around two others
pub record IsJoin (vars : List Variable) (one another box : List (List ℤ)) : Type 0 where
  pub lawful : IsBox vars box
  pub around_one : Inside one box
  pub around_another : Inside another box
  pub least : (around : List (List ℤ)) → IsBox vars around → Inside one around → Inside another around → Inside box around

-- whether a is one of the values, and whether it is between two of them
abbrev pub is_among : List ℤ → ℤ → Bool
is_among values a = list_any (λ b. int_eq b a) values

abbrev pub is_between : List ℤ → ℤ → Bool
is_between values a = list_any (λ b. int_le b a) values && list_any (λ b. int_le a b) values

-- the declared values that stay in a join: those of either set, or those from the lesser least to the greater greatest of
-- a variable whose values go at the ends alone
abbrev pub is_joined : Bool → List ℤ → ℤ → Bool
is_joined true values a = is_between values a
is_joined false values a = is_among values a

abbrev pub join : List Variable → List (List ℤ) → List (List ℤ) → List (List ℤ)
join [] one another = []
join (var ∷ vars) [] another = []
join (var ∷ vars) (xs ∷ one) [] = []
join (var ∷ vars) (xs ∷ one) (ys ∷ another) = filter (is_joined var.bounded (xs ++ ys)) var.declared ∷ join vars one another

-- the box with one value in each set
abbrev pub singles : List ℤ → List (List ℤ)
singles values = map (λ a. a ∷ []) values

-- inner is the greatest box inside the outer one that is closed under all constraints
pub record IsClosure (vars : List Variable) (lists : List Tuples) (cons : List Con) (outer inner : List (List ℤ)) : Type 0 where
  pub lawful : IsBox vars inner
  pub inside : Inside inner outer
  pub closed : ClosedAll vars lists cons inner
  pub greatest : (box : List (List ℤ)) → IsBox vars box → Inside box outer → ClosedAll vars lists cons box → Inside box inner

-- no box inside the outer one is closed under all
abbrev pub NoClosure : List Variable → List Tuples → List Con → List (List ℤ) → Type 0
NoClosure vars lists cons outer = (box : List (List ℤ)) → IsBox vars box → Inside box outer → ClosedAll vars lists cons box → ⊥
