-- Laws of these definitions, for proofs about whole runs.
use Rattle.std.specs.Prelude.{◌≡◌, ℕ, ◌+◌, ◌<◌, ◌≤◌, Bool, true, false, cond, List, [], ◌∷◌, ◌++◌, length, take, refl, Option, None, Some, unwrap_or}
use Rattle.std.proofs.Common.{sym, ap, ◌∙◌, append_assoc, append-nil, arith, length-append}
use Rattle.std.proofs.Math.Seq.{take-append-add}
use Rattle.std.proofs.lemmas.List.{take-append-le}
use Rattle.std.specs.Ordering.{nat_cmp, eq_by_cmp}
use Rattle.std.specs.Cmp.Lexicographic.{slice_cmp, nat_list_cmp_total}
use Rattle.std.specs.FinMap.{get, insert, get-insert, same_map, slice_cmp-IsAntisymmetric, nat_cmp-IsAntisymmetric}
use Rattle.std.proofs.lemmas.Cmp.{eq_by_cmp_equiv}
use Rattle.mn_outside.specs.Faults.{HasRisen, NoneFell, greatest_count}
use Rattle.mn_outside.specs.Content.{FileMap, WritesPart, bytes_at, with_bytes, with_file_bytes}

-- what rose in the last part of a run rose in the run
pub HasRisen-before : (before middle after : ℕ) → before ≤ middle → HasRisen middle after → HasRisen before after
HasRisen-before before middle after kept risen = λ below. let later : middle < after = risen below in omega arith

-- what rose in the first part of a run rose in the run
pub HasRisen-after : (before middle after : ℕ) → HasRisen before middle → middle ≤ after → HasRisen before after
HasRisen-after before middle after risen kept = λ below.
    let earlier : middle < greatest_count = omega arith in
    let later : before < middle = risen earlier in omega arith

-- what never fell in two parts of a run never fell in the run
pub NoneFell-joined : (before middle after : List ℕ → ℕ) → NoneFell before middle → NoneFell middle after → NoneFell before after
NoneFell-joined before middle after first last = λ name. omega (arith, first name, last name)

-- what is written in two parts is written as a whole
pub with_bytes-with_bytes : (told : Option (List ℕ)) (xs ys : List ℕ) → with_bytes (with_bytes told xs) ys ≡ with_bytes told (xs ++ ys)
with_bytes-with_bytes None xs ys = refl
with_bytes-with_bytes (Some written) xs ys = ap Some (append_assoc written xs ys)

-- to write no byte changes nothing
pub with_bytes-nil : (told : Option (List ℕ)) → with_bytes told [] ≡ told
with_bytes-nil None = refl
with_bytes-nil (Some written) = ap Some (append-nil written)

-- the inner branch is never reached
unshadowed : {A : Type 0} (b : Bool) (x y z : A) → cond b x (cond b y z) ≡ cond b x z
unshadowed true x y z = refl
unshadowed false x y z = refl

-- of two times that a name is given bytes the last one counts
pub insert-insert : (files : FileMap) (name xs ys : List ℕ) → insert (insert files name xs) name ys ≡ insert files name ys
insert-insert files name xs ys =
    same_map nat_list_cmp_total (slice_cmp-IsAntisymmetric nat_cmp-IsAntisymmetric) _ _ (λ q.
    get-insert nat_list_cmp_total _ name ys q
    ∙ ap (cond (eq_by_cmp (slice_cmp nat_cmp) q name) (Some ys)) (get-insert nat_list_cmp_total files name xs q)
    ∙ unshadowed (eq_by_cmp (slice_cmp nat_cmp) q name) (Some ys) (Some xs) (get files q)
    ∙ sym (get-insert nat_list_cmp_total files name ys q))

-- a name has the bytes that it was given
pub bytes_at-insert : (files : FileMap) (name bytes : List ℕ) → bytes_at (insert files name bytes) name ≡ bytes
bytes_at-insert files name bytes =
    ap (λ found. unwrap_or found [])
    (get-insert nat_list_cmp_total files name bytes name
    ∙ ap (λ b. cond b (Some bytes) (get files name)) ((eq_by_cmp_equiv nat_list_cmp_total).refl name))

-- what is added to a file in two parts is added as a whole
pub with_file_bytes-with_file_bytes : (told : Option FileMap) (name xs ys : List ℕ)
    → with_file_bytes (with_file_bytes told name xs) name ys ≡ with_file_bytes told name (xs ++ ys)
with_file_bytes-with_file_bytes told name [] ys = refl
with_file_bytes-with_file_bytes told name (x ∷ xs) [] = ap (with_file_bytes told name) (sym (append-nil (x ∷ xs)))
with_file_bytes-with_file_bytes None name (x ∷ xs) (y ∷ ys) = refl
with_file_bytes-with_file_bytes (Some files) name (x ∷ xs) (y ∷ ys) =
    ap Some (ap (λ before. insert (insert files name (bytes_at files name ++ x ∷ xs)) name (before ++ y ∷ ys)) (bytes_at-insert files name (bytes_at files name ++ x ∷ xs))
    ∙ insert-insert files name _ _
    ∙ ap (insert files name) (append_assoc (bytes_at files name) (x ∷ xs) (y ∷ ys)))

-- what is written in part behind a whole piece is a part of both
pub WritesPart-behind : (old middle new : Option (List ℕ)) (done piece : List ℕ)
    → middle ≡ with_bytes old done → WritesPart middle new piece → WritesPart old new (done ++ piece)
WritesPart-behind old middle new done piece first (n, shorter, last) = (
  length done + n,
  omega (arith, length-append done piece, shorter),
  last ∙ ap (λ told. with_bytes told (take n piece)) first ∙ with_bytes-with_bytes old done (take n piece)
      ∙ ap (with_bytes old) (sym (take-append-add done piece n)),
)

-- a part of a piece is a part of what goes on with it
pub WritesPart-longer : (old new : Option (List ℕ)) (piece more : List ℕ) → WritesPart old new piece → WritesPart old new (piece ++ more)
WritesPart-longer old new piece more (n, shorter, is) =
    let fits : n ≤ length piece = omega arith in
    (n, omega (arith, length-append piece more, shorter), is ∙ ap (with_bytes old) (sym (take-append-le n piece more fits)))
