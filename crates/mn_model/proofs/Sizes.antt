-- Sizes of matrices, and the places in them.
use Rattle.std.proofs.Common.{◌≡◌, ℕ, zero, suc, ◌+◌, ◌*◌, ◌<◌, ◌≤◌, List, [], ◌∷◌, length, drop, get_or, Option, None, Bool, true, false, nat_lt, if◌then◌else◌, refl, sym, ap, ◌∙◌, arith}
use Rattle.std.proofs.Math.Nat.{one-le-mul, mul_assoc, mul-le-mul_right, le-mul_of_pos_right}
use Rattle.std.specs.List.{AllByRecursion}
use Rattle.mn_model.specs.Problem.{size_of_dims, offset_from}

-- each dimension is at least 1, and so is the size
pub size_of_dims-positive : (dims : List ℕ) → AllByRecursion (λ dim. 1 ≤ dim) dims → 1 ≤ size_of_dims dims
size_of_dims-positive [] shaped = omega arith
size_of_dims-positive (dim ∷ dims) shaped = one-le-mul shaped.0 (size_of_dims-positive dims shaped.1)

pub shaped-drop : (i : ℕ) (dims : List ℕ) → AllByRecursion (λ dim. 1 ≤ dim) dims → AllByRecursion (λ dim. 1 ≤ dim) (drop i dims)
shaped-drop zero dims shaped = shaped
shaped-drop (suc i) [] shaped = shaped
shaped-drop (suc i) (dim ∷ dims) shaped = shaped-drop i dims shaped.1

pub suc_plus_one : (i : ℕ) → suc i + 1 ≡ suc (i + 1)
suc_plus_one i = omega arith

-- one dimension more, of what is left
pub size_of_dims-drop : (i : ℕ) (dims : List ℕ) → i < length dims → size_of_dims (drop i dims) ≡ get_or dims i 0 * size_of_dims (drop (i + 1) dims)
size_of_dims-drop i [] within = absurd (omega arith)
size_of_dims-drop zero (dim ∷ dims) within = refl
size_of_dims-drop (suc i) (dim ∷ dims) within = rw (suc_plus_one i) (size_of_dims-drop i dims (omega arith))

-- none on both ways
neither : {X : Type 0} {o : Option X} (b : Bool) → o ≡ None → (if b then o else None) ≡ None
neither true none = none
neither false none = refl

-- lists of other lengths have no place
pub offset_from-lengths : (passed : ℕ) (dims subs : List ℕ) → (length dims ≡ length subs → ⊥) → offset_from passed dims subs ≡ None
offset_from-lengths passed [] [] differ = absurd (differ refl)
offset_from-lengths passed [] (sub ∷ subs) differ = refl
offset_from-lengths passed (dim ∷ dims) [] differ = refl
offset_from-lengths passed (dim ∷ dims) (sub ∷ subs) differ = neither (nat_lt sub dim) (offset_from-lengths (passed * dim + sub) dims subs (λ e. differ (ap suc e)))

-- a size so far, with one dimension more, is at most the whole
pub part_of_size : (size dim rest whole : ℕ) → size * (dim * rest) ≤ whole → 1 ≤ rest → size * dim ≤ whole
part_of_size size dim rest whole all positive =
    let here : size * dim ≤ size * dim * rest = le-mul_of_pos_right (size * dim) (omega arith) in
    omega (arith, here, mul_assoc size dim rest)

-- the place of an entry, one index further
pub one_index_more : (passed dim sub rest whole : ℕ) → (passed + 1) * (dim * rest) ≤ whole → sub < dim → (passed * dim + sub + 1) * rest ≤ whole
one_index_more passed dim sub rest whole all below =
    let more : (passed * dim + sub + 1) * rest ≤ (passed * dim + dim) * rest = mul-le-mul_right rest (omega arith) in
    let same : (passed + 1) * (dim * rest) ≡ (passed * dim + dim) * rest = sym (mul_assoc (passed + 1) dim rest) ∙ ap (λ k. k * rest) (omega arith) in
    omega arith

-- one index further leads to the same place
pub one_step_further : (passed i : ℕ) (dims subs : List ℕ) → i < length dims → i < length subs → nat_lt (get_or subs i 0) (get_or dims i 0) ≡ true
    → offset_from (passed * get_or dims i 0 + get_or subs i 0) (drop (i + 1) dims) (drop (i + 1) subs) ≡ offset_from passed (drop i dims) (drop i subs)
one_step_further passed i [] subs in_dims in_subs below = absurd (omega arith)
one_step_further passed i (dim ∷ dims) [] in_dims in_subs below = absurd (omega arith)
one_step_further passed zero (dim ∷ dims) (sub ∷ subs) in_dims in_subs below = sym (ap (λ b. if b then offset_from (passed * dim + sub) dims subs else None) below)
one_step_further passed (suc i) (dim ∷ dims) (sub ∷ subs) in_dims in_subs below = rw (suc_plus_one i) (one_step_further passed i dims subs (omega arith) (omega arith) below)
