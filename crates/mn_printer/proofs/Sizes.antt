-- Sizes of matrices, and the indices of their places.
use Rattle.std.proofs.Common.{◌≡◌, ℕ, zero, suc, ◌+◌, ◌-◌, ◌*◌, ◌/◌, ◌%◌, ◌<◌, ◌≤◌, List, [], ◌∷◌, ◌++◌, length, map, take, drop, get_or, refl, sym, ap, ◌∙◌, subst, arith, codes, decimal}
use Rattle.std.proofs.Math.Nat.{mul-div_cancel_left}
use Rattle.std.proofs.lemmas.Grind.{common_steps}
use Rattle.std.specs.List.{AllByRecursion, flat_map}
use Rattle.mn_model.specs.Problem.{size_of_dims}
use Rattle.mn_model.proofs.Sizes.{suc_plus_one}
use Rattle.mn_canonical.specs.Lists.{bracketed}
use Rattle.mn_sections.specs.Matrices.{indices_of}
use Rattle.mn_canonical.specs.Names.{subscript_text}
use Rattle.mn_printer.specs.Pages.{Written, onto}
use Rattle.mn_printer.proofs.Joining.{onto_joined}

-- one dimension more, of what is left
pub dims-drop : (i : ℕ) (dims : List ℕ) → i < length dims → drop i dims ≡ get_or dims i 0 ∷ drop (i + 1) dims
dims-drop i [] within = absurd (omega arith)
dims-drop zero (dim ∷ dims) within = refl
dims-drop (suc i) (dim ∷ dims) within = rw (suc_plus_one i) (dims-drop i dims (omega arith))

-- the indices of a place, with a comma before each
abbrev pub further_text : List ℕ → ℕ → List ℕ
further_text dims place = flat_map (λ y. codes "," ++ y) (map decimal (indices_of dims place))

-- a size without its outermost dimension
pub without_first : (size dim rest : ℕ) → size ≡ dim * rest → 1 ≤ dim → size / dim ≡ rest
without_first size dim rest e some = ap (λ n. n / dim) e ∙ mul-div_cancel_left rest (omega arith)

-- one index more is written
pub one_index_more : (w v u : Written) (dims : List ℕ) (i place size : ℕ) → i < length dims → size ≡ size_of_dims (drop (i + 1) dims)
    → v ≡ onto w (codes ",") → u ≡ onto v (decimal (place / size)) → onto u (further_text (drop (i + 1) dims) (place % size)) ≡ onto w (further_text (drop i dims) place)
one_index_more w v u dims i place size within is first second =
    let others = drop (i + 1) dims in
    let tail = further_text others (place % size) in
    ap (λ t. onto t tail) (second ∙ ap (λ t. onto t (decimal (place / size))) first) ∙ ap (λ t. onto t tail) (onto_joined w (codes ",") (decimal (place / size)))
    ∙ onto_joined w (codes "," ++ decimal (place / size)) tail
    ∙ ap (onto w) (ap (λ s. (codes "," ++ decimal (place / s)) ++ further_text others (place % s)) is ∙ ap (λ ds. further_text ds place) (sym (dims-drop i dims within)))

pub shaped_at : (dims : List ℕ) (i : ℕ) → AllByRecursion (λ dim. 1 ≤ dim) dims → i < length dims → 1 ≤ get_or dims i 0
shaped_at [] i shaped within = absurd (omega arith)
shaped_at (dim ∷ dims) zero shaped within = shaped.0
shaped_at (dim ∷ dims) (suc i) shaped within = shaped_at dims i shaped.1 (omega arith)

-- what is behind the outermost dimension
pub shaped_rest : (dims : List ℕ) → AllByRecursion (λ dim. 1 ≤ dim) dims → AllByRecursion (λ dim. 1 ≤ dim) (take (length dims - 1) (drop 1 dims))
shaped_rest [] shaped = tt
shaped_rest (dim ∷ dims) shaped = subst (AllByRecursion (λ d. 1 ≤ d)) (sym (all_left dim dims)) shaped.1
  where
    all_left : (dim : ℕ) (dims : List ℕ) → take (length (dim ∷ dims) - 1) dims ≡ dims
    all_left dim dims = grind (arith, common_steps)

-- the indices of a place in brackets
pub subscript_is : (dims : List ℕ) (place size : ℕ) → 1 ≤ length dims → size ≡ size_of_dims (take (length dims - 1) (drop 1 dims))
    → subscript_text (indices_of dims place) ≡ ((codes "[" ++ decimal (place / size)) ++ further_text (take (length dims - 1) (drop 1 dims)) (place % size)) ++ codes "]"
unfolding bracketed
subscript_is [] place size some is = absurd (omega arith)
subscript_is (dim ∷ dims) place size some is =
    let rest : take (length (dim ∷ dims) - 1) dims ≡ dims = all_left dim dims in
    let whole : size ≡ size_of_dims dims = is ∙ ap size_of_dims rest in
    let parts = ap (λ s. (codes "[" ++ decimal (place / s)) ++ further_text dims (place % s)) (sym whole) ∙ ap (λ ds. (codes "[" ++ decimal (place / size)) ++ further_text ds (place % size)) (sym rest) in
    ap (λ text. text ++ codes "]") parts
  where
    all_left : (dim : ℕ) (dims : List ℕ) → take (length (dim ∷ dims) - 1) dims ≡ dims
    all_left dim dims = grind (arith, common_steps)
