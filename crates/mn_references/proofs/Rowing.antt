-- The rows of a whole matrix: it has as many terms as its dimensions say, and they are taken run by run.
use Rattle.std.proofs.Common.{◌≡◌, ℕ, zero, suc, ◌*◌, ◌<◌, ◌≤◌, List, [], ◌∷◌, ◌++◌, length, take, drop, Option, Some, None, Ok, refl, sym, ap, ◌∙◌, subst, arith, append_assoc, append-nil, length-drop}
use Rattle.std.specs.List.{AllByRecursion, range_with_len}
use Rattle.std.proofs.lemmas.List.FromFn.{length-range_with_len}
use Rattle.std.proofs.Math.Nat.{mul_assoc}
use Rattle.std.proofs.lemmas.List.{length-map}
use Rattle.mn_lexer.specs.Terminals.{Terminal}
use Rattle.mn_model.specs.Lawful.{IsLawful, IsLawfulAlias, IsLawfulDecl}
use Rattle.mn_model.specs.Problem.{Problem, size_of_dims, declared_as, aliased_as, domains_of}
use Rattle.mn_model.specs.declared.constraint.Term.{Term}
use Rattle.mn_model.specs.declared.declaration.Alias.{Alias}
use Rattle.mn_model.specs.declared.declaration.Decl.{Decl}
use Rattle.mn_model.proofs.Lists.{all_at}
use Rattle.mn_grammar.specs.Lawful.{Said}
use Rattle.mn_grammar.specs.Lists.{Items, final, also, value_items}
use Rattle.mn_references.specs.References.{Lead, lead_by, lead_of, lead_or_none, Sub, Within, Aim, at_start, entered, sub_judge, found_at, value_subs}
use Rattle.mn_references.specs.Entries.{Entry, of_ref, of_number, of_not, Place, Placed, value_entry, runs, run, parted, rows_of}
use Rattle.mn_references.specs.Listing.{IsWhole}
use Rattle.mn_references.specs.Referring.{entry_at}
use Rattle.mn_references.proofs.Listable.{IsPlace, entry_spec, entry_law}
use Rattle.mn_references.proofs.LawfulReferences.{called_at}

-- 1. What an entry stands for has all terms of a whole matrix
abbrev pub IsShaped : List ℕ → Type 0
IsShaped dims = AllByRecursion (λ dim. 1 ≤ dim) dims

whole_of : (dims : List ℕ) (n : ℕ) → IsShaped dims → n ≡ size_of_dims dims → IsWhole dims n
whole_of [] n shaped is = tt
whole_of (dim ∷ dims) n shaped is = (shaped, is)

shaped_by : (p : Problem) → IsLawful p → (name : List ℕ) (o : Option Decl) (a : Option Alias) → declared_as p.decls name ≡ o → aliased_as p.aliases name ≡ a → IsShaped (lead_or_none (lead_by o a)).dims
shaped_by p lawful name (Some d) a e f =
    let there = called_at (λ (d : Decl). d.name) p.decls name d e in
    (all_at IsLawfulDecl p.decls there.0 d lawful.decls there.1).shaped
shaped_by p lawful name None (Some a) e f =
    let there = called_at (λ (a : Alias). a.name) p.aliases name a f in
    (all_at (IsLawfulAlias (domains_of p.decls)) p.aliases there.0 a lawful.aliases there.1).shaped
shaped_by p lawful name None None e f = tt

pub shaped_lead : (p : Problem) → IsLawful p → (name : List ℕ) → IsShaped (lead_or_none (lead_of p name)).dims
shaped_lead p lawful name = shaped_by p lawful name (declared_as p.decls name) (aliased_as p.aliases name) refl refl

items_whole : (aim : Aim) (l : Lead) (subs : Items Sub) (w : Within) → (value_items (sub_judge aim l) (found_at l) subs w).dims ≡ []
items_whole aim l (final sub) w = refl
items_whole aim l (also sub subs) w = items_whole aim l subs (entered w sub)

subs_whole : (aim : Aim) (l : Lead) → IsShaped l.dims → (subs : Option (Items Sub)) → IsWhole (value_subs aim l subs).dims (length (value_subs aim l subs).vars)
subs_whole aim l shaped None = whole_of l.dims _ shaped (length-map (range_with_len 0 (size_of_dims l.dims)) l.at ∙ length-range_with_len 0 (size_of_dims l.dims))
subs_whole aim l shaped (Some subs) = subst (λ dims. IsWhole dims (length (value_subs aim l (Some subs)).vars)) (sym (items_whole aim l subs (at_start l.dims))) tt

value_whole : (p : Problem) → IsLawful p → (want : Place) (e : Entry) → IsWhole (value_entry p want e).dims (length (value_entry p want e).terms)
value_whole p lawful want (of_ref r) =
    let l = lead_or_none (lead_of p r.name.bytes) in
    subst (λ n. IsWhole (value_subs want.aim l r.subs).dims n) (sym (length-map (value_subs want.aim l r.subs).vars _)) (subs_whole want.aim l (shaped_lead p lawful r.name.bytes) r.subs)
value_whole p lawful want (of_number z) = tt
value_whole p lawful want (of_not r) = tt

pub entry_whole : (p : Problem) → IsLawful p → (want : Place) → IsPlace want → (ts us : List Terminal) (v : Placed) → entry_at p want ts ≡ Ok (v, us) → IsWhole v.dims (length v.terms)
entry_whole p lawful want is ts us v reads =
    let read = subst (Said (entry_spec p want) (entry_at p want) ts) reads ((entry_law p want is).said ts) in
    subst (λ (x : Placed). IsWhole x.dims (length x.terms)) read.means (value_whole p lawful want read.tree)

-- 2. The terms, run by run
abbrev pub last_run : ℕ → List ℕ → ℕ
last_run n [] = n
last_run n (dim ∷ dims) = last_run dim dims

run_of : (dim : ℕ) (dims : List ℕ) → run (dim ∷ dims) ≡ last_run dim dims
run_of dim [] = refl
run_of dim (other ∷ dims) = run_of other dims

run_is : (dims : List ℕ) → run dims ≡ last_run 1 dims
run_is [] = refl
run_is (dim ∷ dims) = run_of dim dims

-- where none is left, it is the run of the last index
pub run_done : (n : ℕ) (left dims : List ℕ) → length left < 1 → last_run n left ≡ last_run 1 dims → n ≡ run dims
run_done n [] dims none is = is ∙ sym (run_is dims)
run_done n (dim ∷ left) dims none is = absurd (omega arith)

size_by_runs : (dim : ℕ) (dims : List ℕ) → size_of_dims (dim ∷ dims) ≡ runs (dim ∷ dims) * run (dim ∷ dims)
size_by_runs dim [] = omega arith
size_by_runs dim (other ∷ dims) = let more = size_by_runs other dims in ap (λ n. dim * n) more ∙ sym (mul_assoc dim (runs (other ∷ dims)) (run (other ∷ dims)))

run_some : (dims : List ℕ) → IsShaped dims → 1 ≤ run dims
run_some [] shaped = omega arith
run_some (dim ∷ []) shaped = shaped.0
run_some (dim ∷ other ∷ dims) shaped = run_some (other ∷ dims) shaped.1

-- The rows so far and those of the terms that are left are all; the terms that are left make whole runs.
pub record RowsLeft (run : ℕ) (left : List Term) (rows all : List (List Term)) : Type 0 where
  pub count : ℕ
  pub whole : rows ++ parted count run left ≡ all
  pub size : length left ≡ count * run
  pub some : 1 ≤ run

pub rows_start : (dims : List ℕ) (n : ℕ) (terms : List Term) → (dims ≡ [] → ⊥) → IsWhole dims (length terms) → n ≡ run dims → RowsLeft n terms [] (rows_of dims terms)
rows_start [] n terms some whole is = absurd (some refl)
rows_start (dim ∷ dims) n terms some whole is = record {
  count = runs (dim ∷ dims);
  whole = ap (λ m. parted (runs (dim ∷ dims)) m terms) is;
  size = whole.1 ∙ size_by_runs dim dims ∙ ap (λ m. runs (dim ∷ dims) * m) (sym is);
  some = subst (λ m. 1 ≤ m) (sym is) (run_some (dim ∷ dims) whole.0);
}

-- none is left at the end
pub rows_done : (n : ℕ) (rows all : List (List Term)) → RowsLeft n [] rows all → rows ≡ all
rows_done n rows all is = by is.count is.whole is.size is.some
  where
    by : (count : ℕ) → rows ++ parted count n [] ≡ all → 0 ≡ count * n → 1 ≤ n → rows ≡ all
    by zero whole size some = sym (append-nil rows) ∙ whole
    by (suc count) whole size some = absurd (omega arith)

-- and else a run at least
pub run_fits : (n : ℕ) (left : List Term) (rows all : List (List Term)) → RowsLeft n left rows all → 1 ≤ length left → n ≤ length left
run_fits n left rows all is there = by is.count is.size
  where
    by : (count : ℕ) → length left ≡ count * n → n ≤ length left
    by zero size = absurd (omega arith)
    by (suc count) size = omega arith

-- with one run more
pub rows_more : (n : ℕ) (left back row : List Term) (rows now all : List (List Term)) → RowsLeft n left rows all → 1 ≤ length left → row ≡ take n left → back ≡ drop n left → now ≡ rows ++ row ∷ [] → RowsLeft n back now all
rows_more n left back row rows now all is there is_row is_back is_now = by is.count is.whole is.size
  where
    by : (count : ℕ) → rows ++ parted count n left ≡ all → length left ≡ count * n → RowsLeft n back now all
    by zero whole size = absurd (omega arith)
    by (suc count) whole size = record {
      count = count;
      whole = ap (λ l. l ++ parted count n back) is_now
          ∙ append_assoc rows (row ∷ []) (parted count n back)
          ∙ ap (λ r. rows ++ r ∷ parted count n back) is_row
          ∙ ap (λ l. rows ++ take n left ∷ parted count n l) is_back
          ∙ whole;
      size = let short = ap length is_back ∙ length-drop n left in omega (arith, short, size);
      some = is.some;
    }
