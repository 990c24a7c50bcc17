-- The closure as a function.
use Rattle.std.specs.Prelude.{ℤ, List, [], ◌∷◌, ◌++◌, map, Option, Some, None}
use Rattle.std.specs.List.{flat_map}
use Rattle.mn_model.specs.Decided.{kept}
use Rattle.mn_model.specs.declared.constraint.Con.{Con}
use Rattle.mn_model.specs.declared.declaration.Tuples.{Tuples}
use Rattle.mn_boxes.specs.Sets.{Variable}
use Rattle.mn_closure.specs.Closures.{join}
use Rattle.mn_closure.specs.Candidates.{decide_candidate}

-- all lists of some of the values, in their order
abbrev pub parts_of : List ℤ → List (List ℤ)
parts_of [] = [] ∷ []
parts_of (x ∷ xs) = map (λ ys. x ∷ ys) (parts_of xs) ++ parts_of xs

-- all boxes inside a box
abbrev pub boxes_in : List (List ℤ) → List (List (List ℤ))
boxes_in [] = [] ∷ []
boxes_in (xs ∷ box) = flat_map (λ ys. map (λ inner. ys ∷ inner) (boxes_in box)) (parts_of xs)

-- the join of all boxes of a list, if there are any
abbrev pub join_onto : List Variable → List (List ℤ) → Option (List (List ℤ)) → List (List ℤ)
join_onto vars box None = box
join_onto vars box (Some others) = join vars box others

abbrev pub join_all : List Variable → List (List (List ℤ)) → Option (List (List ℤ))
join_all vars [] = None
join_all vars (box ∷ boxes) = Some (join_onto vars box (join_all vars boxes))

-- the join of all boxes inside the outer one that are closed under all constraints
unfoldable pub closure_of : List Variable → List Tuples → List Con → List (List ℤ) → Option (List (List ℤ))
closure_of vars lists cons outer = join_all vars (kept (decide_candidate vars lists cons outer) (boxes_in outer))
