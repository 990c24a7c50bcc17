-- A tree of names and bytes, against the finite map that it stands for.
use Rattle.std.proofs.Common.{◌≡◌, ℕ, Bool, true, false, cond, List, [], ◌∷◌, ◌++◌, map, refl, sym, ap, ◌∙◌}
use Rattle.std.specs.Prelude.{Result, Ok, Err, is_ok, OnOk, OnErr, Option, None, Some, option_map, unwrap_or, string_bytes, string_cmp, String, Vec, bytes_eq}
use Rattle.std.specs.declared.alloc.Global.{Global}
use Rattle.std.specs.Ordering.{nat_cmp, eq_by_cmp, is_eq}
use Rattle.std.specs.declared.cmp.Ordering.{Ordering}
use Rattle.std.specs.declared.cmp.Ordering.TheVariants.{Less, Equal, Greater}
use Rattle.std.specs.Cmp.Lexicographic.{slice_cmp, nat_list_cmp_total}
use Rattle.std.specs.FinMap.{get, insert, find, get-insert, get_tied, get-from_entries, same_map, slice_cmp-IsAntisymmetric, nat_cmp-IsAntisymmetric}
use Rattle.std.specs.BTreeMap.{BTreeMap, UpdatesBy, get_by_text, is_at}
use Rattle.std.specs.Map.{lookup}
use Rattle.std.proofs.lemmas.Cmp.{eq_by_cmp_equiv}
use Rattle.std.proofs.lemmas.Map.Text.{is_eq-slice_cmp, btree_map_updates_text}
use Rattle.mn_outside.specs.Content.{FileMap, file_at, bytes_at}
use Rattle.mn_outside.specs.Memory.{file_map}

option_map-cond : {A B : Type 0} (f : A → B) (b : Bool) (x y : Option A) → option_map f (cond b x y) ≡ cond b (option_map f x) (option_map f y)
option_map-cond f true x y = refl
option_map-cond f false x y = refl

-- a scan for a name finds the bytes that the look-up in the tree does
find-entries : (entries : List (String Global × Vec ℕ Global)) (name : List ℕ)
    → find (slice_cmp nat_cmp) name (map (λ entry. (string_bytes entry.0, entry.1.items)) entries)
    ≡ option_map (λ bytes. bytes.items) (lookup (is_at (λ key. slice_cmp nat_cmp name (string_bytes key))) entries)
find-entries [] name = refl
find-entries (entry ∷ entries) name =
    ap (cond (is_eq (slice_cmp nat_cmp name (string_bytes entry.0))) (Some entry.1.items)) (find-entries entries name)
    ∙ sym (option_map-cond (λ bytes. bytes.items) (is_eq (slice_cmp nat_cmp name (string_bytes entry.0))) (Some entry.1) _)

pub file_at-file_map : (tree : BTreeMap (String Global) (Vec ℕ Global)) (name : List ℕ)
    → file_at (file_map tree) name ≡ option_map (λ bytes. bytes.items) (get_by_text tree name)
file_at-file_map tree name = get-from_entries nat_list_cmp_total _ name ∙ find-entries tree.entries name

-- the order tells names apart by their bytes, from either side
eq_by_cmp-turned : (name other : List ℕ) → bytes_eq name other ≡ eq_by_cmp (slice_cmp nat_cmp) other name
eq_by_cmp-turned name other = sym (is_eq-slice_cmp name other) ∙ (eq_by_cmp_equiv nat_list_cmp_total).symm name other

-- a tree in which one name has new bytes stands for the map with them
pub file_map_updated : (old new : BTreeMap (String Global) (Vec ℕ Global)) (name : List ℕ) (bytes : Vec ℕ Global)
    → UpdatesBy string_cmp (λ key. slice_cmp nat_cmp name (string_bytes key)) old new (Some bytes)
    → file_map new ≡ insert (file_map old) name bytes.items
file_map_updated old new name bytes updates =
    same_map nat_list_cmp_total (slice_cmp-IsAntisymmetric nat_cmp-IsAntisymmetric) _ _ (λ other.
    file_at-file_map new other
    ∙ ap (option_map (λ b. b.items)) (btree_map_updates_text name old new (Some bytes) updates other)
    ∙ option_map-cond (λ b. b.items) (bytes_eq name other) (Some bytes) (get_by_text old other)
    ∙ ap (λ b. cond b (Some bytes.items) (option_map (λ b. b.items) (get_by_text old other))) (eq_by_cmp-turned name other)
    ∙ ap (cond (eq_by_cmp (slice_cmp nat_cmp) other name) (Some bytes.items)) (sym (file_at-file_map old other))
    ∙ sym (get-insert nat_list_cmp_total (file_map old) name bytes.items other))

equal_from_is_eq : (order : Ordering) → is_eq order ≡ true → order ≡ Equal
equal_from_is_eq Less is = cc
equal_from_is_eq Equal is = refl
equal_from_is_eq Greater is = cc

-- to give a name the bytes that it has changes nothing
pub insert_same : (files : FileMap) (name bytes : List ℕ) → file_at files name ≡ Some bytes → insert files name bytes ≡ files
insert_same files name bytes has =
    same_map nat_list_cmp_total (slice_cmp-IsAntisymmetric nat_cmp-IsAntisymmetric) _ _ (λ other.
    get-insert nat_list_cmp_total files name bytes other ∙ by_test other (eq_by_cmp (slice_cmp nat_cmp) other name) refl)
  where
    by_test : (other : List ℕ) (same : Bool) → eq_by_cmp (slice_cmp nat_cmp) other name ≡ same → cond same (Some bytes) (get files other) ≡ get files other
    by_test other true is = sym has ∙ get_tied nat_list_cmp_total files other name (equal_from_is_eq _ is)
    by_test other false is = refl

-- the bytes that the tree has at the name
found : (tree : BTreeMap (String Global) (Vec ℕ Global)) (name : List ℕ) (bytes : Vec ℕ Global)
    → Some bytes ≡ get_by_text tree name → file_at (file_map tree) name ≡ Some bytes.items
found tree name bytes is = file_at-file_map tree name ∙ ap (option_map (λ b. b.items)) (sym is)

-- the name's bytes went on with the piece
pub file_map_extended : (old new : BTreeMap (String Global) (Vec ℕ Global)) (name piece : List ℕ) (before after : Vec ℕ Global)
    → Some before ≡ get_by_text old name
    → UpdatesBy string_cmp (λ key. slice_cmp nat_cmp name (string_bytes key)) old new (Some after)
    → after.items ≡ before.items ++ piece
    → file_map new ≡ insert (file_map old) name (bytes_at (file_map old) name ++ piece)
file_map_extended old new name piece before after is updates longer =
    file_map_updated old new name after updates
    ∙ ap (insert (file_map old) name) (longer ∙ ap (λ bytes. unwrap_or bytes [] ++ piece) (sym (found old name before is)))

-- the name's bytes stayed
pub file_map_kept : (old new : BTreeMap (String Global) (Vec ℕ Global)) (name : List ℕ) (before after : Vec ℕ Global)
    → Some before ≡ get_by_text old name
    → UpdatesBy string_cmp (λ key. slice_cmp nat_cmp name (string_bytes key)) old new (Some after)
    → after.items ≡ before.items
    → file_map new ≡ file_map old
file_map_kept old new name before after is updates same =
    file_map_updated old new name after updates
    ∙ insert_same (file_map old) name after.items (found old name before is ∙ ap Some (sym same))

-- a name that the tree doesn't have has no bytes
pub bytes_at-none : (tree : BTreeMap (String Global) (Vec ℕ Global)) (name : List ℕ) → None ≡ get_by_text tree name → bytes_at (file_map tree) name ≡ []
bytes_at-none tree name is = ap (λ bytes. unwrap_or bytes []) (file_at-file_map tree name ∙ ap (option_map (λ b. b.items)) (sym is))

-- what holds of a longer list holds where the list was extended
pub on_extended : {T E : Type 0} (answer : Result T E) (before after piece : List ℕ) (P : Type 0)
    → after ≡ cond (is_ok answer) (before ++ piece) before → (after ≡ before ++ piece → P) → OnOk answer P
on_extended (Ok done) before after piece P is holds = holds is
on_extended (Err fault) before after piece P is holds = tt

-- what holds of the list as it was holds where it wasn't extended
pub on_kept : {T E : Type 0} (answer : Result T E) (before after piece : List ℕ) (P : Type 0)
    → after ≡ cond (is_ok answer) (before ++ piece) before → (after ≡ before → P) → OnErr answer P
on_kept (Ok done) before after piece P is holds = tt
on_kept (Err fault) before after piece P is holds = holds is
