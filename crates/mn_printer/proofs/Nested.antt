-- Variables as a matrix, row by row.
use Rattle.std.proofs.Common.{◌≡◌, ℕ, ◌-◌, ◌*◌, ◌/◌, ◌≤◌, List, [], ◌∷◌, ◌++◌, length, map, take, drop, get_or, codes, ap, sym, ◌∙◌, arith}
use Rattle.std.proofs.lemmas.Grind.{common_steps}
use Rattle.std.specs.List.{AllByRecursion, flat_map}
use Rattle.mn_model.specs.Problem.{Problem, size_of_dims}
use Rattle.mn_model.specs.declared.variable.VarId.{VarId}
use Rattle.mn_canonical.specs.Declarations.{nested_text}
use Rattle.mn_sections.specs.Matrices.{rows_of}
use Rattle.mn_canonical.specs.Lists.{bracketed, with_commas}
use Rattle.mn_printer.proofs.Rows.{rows_step}
use Rattle.mn_printer.proofs.Sizes.{without_first}

-- the first row, and those behind it with a comma before each
abbrev pub further_rows : Problem → List ℕ → ℕ → ℕ → List VarId → List ℕ
further_rows p others size left vars = flat_map (λ y. codes "," ++ y) (map (nested_text p others) (rows_of size left vars))

nested_cons : (p : Problem) (dim : ℕ) (dims : List ℕ) (size : ℕ) (vars : List VarId) → 1 ≤ dim → size ≡ dim * size_of_dims dims
    → nested_text p (dim ∷ dims) vars ≡ ((codes "[" ++ nested_text p dims (take (size / dim) vars)) ++ further_rows p dims (size / dim) (dim - 1) (drop (size / dim) vars)) ++ codes "]"
unfolding bracketed
nested_cons p dim dims size vars some is =
    let inner : size / dim ≡ size_of_dims dims = without_first size dim (size_of_dims dims) is some in
    ap (λ rows. (codes "[" ++ with_commas (map (nested_text p dims) rows)) ++ codes "]") (ap (λ s. rows_of s dim vars) (sym inner) ∙ rows_step (size / dim) dim vars (omega arith))

pub nested_is : (p : Problem) (dims : List ℕ) (size : ℕ) (vars rest : List VarId) (row : List VarId) → 1 ≤ length dims → AllByRecursion (λ dim. 1 ≤ dim) dims → size ≡ size_of_dims dims
    → row ≡ take (size / get_or dims 0 0) vars → rest ≡ drop (size / get_or dims 0 0) vars
    → nested_text p dims vars ≡ ((codes "[" ++ nested_text p (take (length dims - 1) (drop 1 dims)) row)
    ++ further_rows p (take (length dims - 1) (drop 1 dims)) (size / get_or dims 0 0) (get_or dims 0 0 - 1) rest) ++ codes "]"
nested_is p [] size vars rest row some shaped is first behind = absurd (omega arith)
nested_is p (dim ∷ dims) size vars rest row some shaped is first behind =
    nested_cons p dim dims size vars shaped.0 is
    ∙ ap (λ ds. ((codes "[" ++ nested_text p ds (take (size / dim) vars)) ++ further_rows p ds (size / dim) (dim - 1) (drop (size / dim) vars)) ++ codes "]") (sym (all_left dim dims))
    ∙ ap (λ r. ((codes "[" ++ nested_text p (take (length (dim ∷ dims) - 1) dims) r) ++ further_rows p (take (length (dim ∷ dims) - 1) dims) (size / dim) (dim - 1) (drop (size / dim) vars)) ++ codes "]") (sym first)
    ∙ ap (λ r. ((codes "[" ++ nested_text p (take (length (dim ∷ dims) - 1) dims) row) ++ further_rows p (take (length (dim ∷ dims) - 1) dims) (size / dim) (dim - 1) r) ++ codes "]") (sym behind)
  where
    all_left : (dim : ℕ) (dims : List ℕ) → take (length (dim ∷ dims) - 1) dims ≡ dims
    all_left dim dims = grind (arith, common_steps)
