-- The places that indices lead to stay within the matrix.
use Rattle.std.proofs.Common.{◌≡◌, ℕ, ℤ, pos, negsuc, zero, suc, ◌+◌, ◌*◌, ◌^◌, ◌<◌, ◌≤◌, true, List, [], ◌∷◌, ◌++◌, ◌-◌, length, map, take, drop, take_all, length-drop, slice_index_or, sym, ap, ◌∙◌, subst, arith, append_assoc}
use Rattle.std.specs.List.{AllByRecursion, range_with_len}
use Rattle.std.proofs.lemmas.List.FromFn.{map-range_with_len_more}
use Rattle.std.proofs.lemmas.Bool.Decides.{nat_tests}
use Rattle.mn_model.specs.Problem.{size_of_dims}
use Rattle.mn_model.specs.Variable.{number_of}
use Rattle.mn_model.specs.declared.variable.VarId.{VarId}
use Rattle.mn_model.proofs.Sizes.{size_of_dims-positive, part_of_size, one_index_more}
use Rattle.mn_model.proofs.Lists.{all_append}
use Rattle.mn_references.specs.References.{is_single, Sub, only, each, as_index, places_from, places_below}
use Rattle.mn_references.specs.Lookups.{is_fine}

-- one more
pub row_more : {X : Type 0} (f : ℕ → X) (start mid now : List X) (n : ℕ) → mid ≡ start ++ map f (range_with_len 0 n) → now ≡ mid ++ f n ∷ [] → now ≡ start ++ map f (range_with_len 0 (n + 1))
row_more f start mid now n so_far one =
    one
    ∙ ap (λ l. l ++ f n ∷ []) so_far
    ∙ append_assoc start (map f (range_with_len 0 n)) (f n ∷ [])
    ∙ ap (λ l. start ++ l) (sym (map-range_with_len_more f 0 n n (omega arith)))

-- what is within the whole matrix is within one dimension of it
pub fits_first : (dims places : List ℕ) (size : ℕ) → 1 ≤ length dims → AllByRecursion (λ dim. 1 ≤ dim) dims → size < 2 ^ 64 → AllByRecursion (λ place. (place + 1) * size_of_dims dims ≤ size) places → AllByRecursion (λ place. (place + 1) * slice_index_or dims 0 0 < 2 ^ 64) places
fits_first [] places size some shaped few all = absurd (omega arith)
fits_first (dim ∷ dims) [] size some shaped few all = tt
fits_first (dim ∷ dims) (place ∷ places) size some shaped few all =
    let here = part_of_size (place + 1) dim (size_of_dims dims) size all.0 (size_of_dims-positive dims shaped.1) in
    (omega (arith, here), fits_first (dim ∷ dims) places size some shaped few all.1)

row_within : (place dim rest size a n : ℕ) → (place + 1) * (dim * rest) ≤ size → a + n ≤ dim → AllByRecursion (λ p. (p + 1) * rest ≤ size) (map (λ i. place * dim + i) (range_with_len a n))
row_within place dim rest size a zero all fits = tt
row_within place dim rest size a (suc n) all fits = (one_index_more place dim a rest size all (omega arith), row_within place dim rest size (a + 1) n all (omega arith))

index_below : (dim : ℕ) (dims : List ℕ) (z : ℤ) → is_fine (dim ∷ dims) (only z) ≡ true → as_index z < dim
index_below dim dims (pos i) fine = grind (arith, nat_tests)
index_below dim dims (negsuc i) fine = cc

place_within : (place dim rest size : ℕ) (dims : List ℕ) (sub : Sub) → is_fine (dim ∷ dims) sub ≡ true → (place + 1) * (dim * rest) ≤ size → AllByRecursion (λ p. (p + 1) * rest ≤ size) (places_from dim sub place)
place_within place dim rest size dims (only z) fine all = (one_index_more place dim (as_index z) rest size all (index_below dim dims z fine), tt)
place_within place dim rest size dims each fine all = row_within place dim rest size 0 dim all (omega arith)

places_within : (dim rest size : ℕ) (dims places : List ℕ) (sub : Sub) → is_fine (dim ∷ dims) sub ≡ true → AllByRecursion (λ p. (p + 1) * (dim * rest) ≤ size) places → AllByRecursion (λ p. (p + 1) * rest ≤ size) (places_below dim sub places)
places_within dim rest size dims [] sub fine all = tt
places_within dim rest size dims (place ∷ places) sub fine all =
    all_append _ (places_from dim sub place) (places_below dim sub places) (place_within place dim rest size dims sub fine all.0) (places_within dim rest size dims places sub fine all.1)

-- one index more stays within the matrix
pub stays_within : (dims places now : List ℕ) (size : ℕ) (sub : Sub) → 1 ≤ length dims → is_fine dims sub ≡ true → AllByRecursion (λ place. (place + 1) * size_of_dims dims ≤ size) places → now ≡ places_below (slice_index_or dims 0 0) sub places → AllByRecursion (λ place. (place + 1) * size_of_dims (drop 1 dims) ≤ size) now
stays_within [] places now size sub some fine all e = absurd (omega arith)
stays_within (dim ∷ dims) places now size sub some fine all e =
    subst (AllByRecursion (λ place. (place + 1) * size_of_dims dims ≤ size)) (sym e) (places_within dim (size_of_dims dims) size dims places sub fine all)

-- the dimensions behind the first, as a slice has them
pub tail_is : (l : List ℕ) → take (length l - 1) (drop 1 l) ≡ drop 1 l
tail_is l = take_all (length l - 1) (drop 1 l) (omega (arith, length-drop 1 l))

-- with no dimension left, a place is one of the matrix
pub places_fit : (dims places : List ℕ) (size : ℕ) → is_single dims ≡ true → AllByRecursion (λ place. (place + 1) * size_of_dims dims ≤ size) places → AllByRecursion (λ place. place < size) places
places_fit dims [] size whole all = tt
places_fit [] (place ∷ places) size whole all = (let le = all.0 in omega arith, places_fit [] places size whole all.1)
places_fit (dim ∷ dims) (place ∷ places) size whole all = cc

-- and has a variable that is declared
pub declared_fit : (at : ℕ → VarId) (places : List ℕ) (size count most : ℕ) → ((place : ℕ) → place < size → number_of (at place) < count) → count ≤ most → AllByRecursion (λ place. place < size) places → AllByRecursion (λ place. number_of (at place) ≤ most) places
declared_fit at [] size count most known few all = tt
declared_fit at (place ∷ places) size count most known few all = (let less = known place all.0 in omega arith, declared_fit at places size count most known few all.1)

pub vars_fit : (at : ℕ → VarId) (places : List ℕ) (size count : ℕ) → ((place : ℕ) → place < size → number_of (at place) < count) → AllByRecursion (λ place. place < size) places → AllByRecursion (λ v. number_of v < count) (map at places)
vars_fit at [] size count known all = tt
vars_fit at (place ∷ places) size count known all = (known place all.0, vars_fit at places size count known all.1)

-- all places of a matrix have variables that are declared
pub all_places : (n size : ℕ) → n ≤ size → AllByRecursion (λ place. place < size) (range_with_len 0 n)
all_places n size le = from 0 n (omega arith)
  where
    from : (a m : ℕ) → a + m ≤ size → AllByRecursion (λ place. place < size) (range_with_len a m)
    from a zero le = tt
    from a (suc m) le = (omega arith, from (a + 1) m (omega arith))
