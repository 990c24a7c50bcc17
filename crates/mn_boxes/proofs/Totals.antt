-- How many values the sets of boxes have.
use Rattle.std.proofs.Common.{◌≡◌, suc, ◌≤◌, ℤ, List, [], ◌∷◌, refl, arith}
use Rattle.mn_boxes.specs.Boxes.{Inside, IsBox, count_of}
use Rattle.mn_boxes.specs.Sets.{Variable}
use Rattle.mn_boxes.proofs.Members.{Parted, parted}

-- the sets behind the first are inside each other too
pub rest_inside : (xs ys : List ℤ) (inner outer : List (List ℤ)) → Inside (xs ∷ inner) (ys ∷ outer) → Inside inner outer
rest_inside xs ys inner outer i = record { within = λ v a has. i.within (suc v) a has }

pub record CountsInside (inner outer : List (List ℤ)) : Type 0 where
  pub no_more : count_of inner ≤ count_of outer
  pub same : count_of inner ≡ count_of outer → inner ≡ outer

pub counts_inside : (vars : List Variable) (inner outer : List (List ℤ)) → IsBox vars inner → IsBox vars outer → Inside inner outer → CountsInside inner outer
counts_inside [] [] [] box_i box_o i = record { no_more = omega arith; same = λ e. refl }
counts_inside [] [] (ys ∷ outer) box_i box_o i = absurd box_o
counts_inside [] (xs ∷ inner) outer box_i box_o i = absurd box_i
counts_inside (var ∷ vars) [] outer box_i box_o i = absurd box_i
counts_inside (var ∷ vars) (xs ∷ inner) [] box_i box_o i = absurd box_o
counts_inside (var ∷ vars) (xs ∷ inner) (ys ∷ outer) box_i box_o i =
    joined (parted xs ys box_i.0.ascends box_o.0.ascends (λ a has. i.within 0 a has)) (counts_inside vars inner outer box_i.1 box_o.1 (rest_inside xs ys inner outer i))
  where
    joined : Parted xs ys → CountsInside inner outer → CountsInside (xs ∷ inner) (ys ∷ outer)
    joined p r = let n = p.no_more in let m = r.no_more in record {
      no_more = omega arith;
      same = λ e. let first : xs ≡ ys = p.same (omega arith) in let rest : inner ≡ outer = r.same (omega arith) in cc;
    }
