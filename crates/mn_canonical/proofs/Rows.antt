-- Rows of a list, and the indices of a place.
use Rattle.std.proofs.Common.{◌≡◌, ℕ, ℤ, zero, suc, ◌*◌, ◌/◌, ◌%◌, ◌≤◌, List, [], ◌∷◌, length, take, drop, sym, ap, ◌∙◌, arith}
use Rattle.std.specs.List.{AllByRecursion}
use Rattle.std.proofs.Math.Nat.{div-le_self, mod-le, mul-div_cancel, le-mul_of_pos_right, mul-le-mul_right}
use Rattle.std.proofs.lemmas.List.{length-drop, length-take-le}
use Rattle.mn_model.specs.Lawful.{MakeTuples}
use Rattle.mn_model.specs.Problem.{size_of_dims}
use Rattle.mn_model.proofs.Sizes.{size_of_dims-positive}
use Rattle.mn_model.proofs.Lists.{all_drop, all_take}
use Rattle.mn_sections.specs.Matrices.{indices_of, rows_of, tuple_count}

-- a row has its size, and each of its members is one of the list's
pub record IsRow {X : Type 0} (P : X → Type 0) (size : ℕ) (row : List X) : Type 0 where
  pub full : length row ≡ size
  pub all : AllByRecursion P row

pub front_size : {X : Type 0} (size count : ℕ) (xs : List X) → length xs ≡ suc count * size → length (take size xs) ≡ size
front_size size count xs filled = length-take-le size xs (omega arith)

pub rest_size : {X : Type 0} (size count : ℕ) (xs : List X) → length xs ≡ suc count * size → length (drop size xs) ≡ count * size
rest_size size count xs filled = omega (arith, length-drop size xs)

pub are_rows : {X : Type 0} (P : X → Type 0) (size count : ℕ) (xs : List X) → length xs ≡ count * size → AllByRecursion P xs → AllByRecursion (IsRow P size) (rows_of size count xs)
are_rows P size zero xs filled all = tt
are_rows P size (suc count) xs filled all =
    (record { full = front_size size count xs filled; all = all_take P size xs all }, are_rows P size count (drop size xs) (rest_size size count xs filled) (all_drop P size xs all))

-- the cells are as many tuples as are counted
pub tuples_filled : (arity : ℕ) (cells : List ℤ) → 1 ≤ arity → MakeTuples arity cells → length cells ≡ tuple_count arity cells * arity
tuples_filled arity cells some (count, filled) =
    let same : length cells / arity ≡ count = ap (λ n. n / arity) filled ∙ mul-div_cancel count some in
    filled ∙ ap (λ n. n * arity) (sym same)

-- no index is greater than the place
pub indices_within : (dims : List ℕ) (place most : ℕ) → place ≤ most → AllByRecursion (λ i. i ≤ most) (indices_of dims place)
indices_within [] place most few = tt
indices_within (dim ∷ dims) place most few =
    let size = size_of_dims dims in
    (omega (arith, div-le_self place size), indices_within dims (place % size) most (omega (arith, mod-le place size)))

-- no dimension is greater than the size
pub dims_within : (dims : List ℕ) (most : ℕ) → AllByRecursion (λ dim. 1 ≤ dim) dims → size_of_dims dims ≤ most → AllByRecursion (λ dim. dim ≤ most) dims
dims_within [] most shaped few = tt
dims_within (dim ∷ dims) most shaped few =
    let some = size_of_dims-positive dims shaped.1 in
    let here : dim ≤ dim * size_of_dims dims = le-mul_of_pos_right dim some in
    let there : 1 * size_of_dims dims ≤ dim * size_of_dims dims = mul-le-mul_right (size_of_dims dims) shaped.0 in
    (omega arith, dims_within dims most shaped.1 (omega arith))
