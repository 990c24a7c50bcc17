-- The item that an index of names leads to.
use Rattle.std.proofs.Common.{◌≡◌, ℕ, suc, ◌+◌, ◌<◌, Bool, true, false, cond, List, [], ◌∷◌, length, slice_get, Option, Some, None, refl, ap, subst, ◌∙◌, arith, String, string_bytes}
use Rattle.std.proofs.lemmas.Option.{slice_get-get_or}
use Rattle.std.specs.Map.{lookup}
use Rattle.std.specs.Str.{bytes_eq}
use Rattle.mn_model.specs.Index.{entries_read, names_from, declared_in, aliased_in}
use Rattle.mn_model.specs.Problem.{called}
use Rattle.mn_model.specs.declared.instance.Entry.{Entry}
use Rattle.mn_model.specs.declared.instance.Entry.TheVariants.{Declared, Aliased}

-- a look-up by the bytes of keys
pub lookup-entries_read : {A V : Type 0} (bytes : List ℕ) (entries : List (String A × V)) → lookup (λ k. bytes_eq bytes (string_bytes k)) entries ≡ lookup (bytes_eq bytes) (entries_read entries)
lookup-entries_read bytes [] = refl
lookup-entries_read bytes (e ∷ entries) = ap (cond (bytes_eq bytes (string_bytes e.0)) (Some e.1)) (lookup-entries_read bytes entries)

-- a look-up among entries of both kinds that finds one finds it among those of its kind
declared_by : (same : Bool) (k place : ℕ) (others : Option ℕ) (all : Option Entry) → cond same (Some (Declared k)) all ≡ Some (Declared place) → (all ≡ Some (Declared place) → others ≡ Some place) → cond same (Some k) others ≡ Some place
declared_by true k place others all e later = cc
declared_by false k place others all e later = later e

pub declared_found : (entries : List (List ℕ × Entry)) (name : List ℕ) (place : ℕ) → lookup (bytes_eq name) entries ≡ Some (Declared place) → lookup (bytes_eq name) (declared_in entries) ≡ Some place
declared_found [] name place e = cc
declared_found ((key, Declared k) ∷ entries) name place e = declared_by (bytes_eq name key) k place (lookup (bytes_eq name) (declared_in entries)) (lookup (bytes_eq name) entries) e (declared_found entries name place)
declared_found ((key, Aliased k) ∷ entries) name place e = by (bytes_eq name key) e (declared_found entries name place)
  where
    by : (same : Bool) → cond same (Some (Aliased k)) (lookup (bytes_eq name) entries) ≡ Some (Declared place) → (lookup (bytes_eq name) entries ≡ Some (Declared place) → lookup (bytes_eq name) (declared_in entries) ≡ Some place) → lookup (bytes_eq name) (declared_in entries) ≡ Some place
    by true e later = cc
    by false e later = later e

pub aliased_found : (entries : List (List ℕ × Entry)) (name : List ℕ) (place : ℕ) → lookup (bytes_eq name) entries ≡ Some (Aliased place) → lookup (bytes_eq name) (aliased_in entries) ≡ Some place
aliased_found [] name place e = cc
aliased_found ((key, Declared k) ∷ entries) name place e = by (bytes_eq name key) e (aliased_found entries name place)
  where
    by : (same : Bool) → cond same (Some (Declared k)) (lookup (bytes_eq name) entries) ≡ Some (Aliased place) → (lookup (bytes_eq name) entries ≡ Some (Aliased place) → lookup (bytes_eq name) (aliased_in entries) ≡ Some place) → lookup (bytes_eq name) (aliased_in entries) ≡ Some place
    by true e later = cc
    by false e later = later e
aliased_found ((key, Aliased k) ∷ entries) name place e = by (bytes_eq name key) e (aliased_found entries name place)
  where
    by : (same : Bool) → cond same (Some (Aliased k)) (lookup (bytes_eq name) entries) ≡ Some (Aliased place) → (lookup (bytes_eq name) entries ≡ Some (Aliased place) → lookup (bytes_eq name) (aliased_in entries) ≡ Some place) → cond same (Some k) (lookup (bytes_eq name) (aliased_in entries)) ≡ Some place
    by true e later = cc
    by false e later = later e

-- one that finds none finds none of either kind
pub nothing_declared : (entries : List (List ℕ × Entry)) (name : List ℕ) → lookup (bytes_eq name) entries ≡ None → lookup (bytes_eq name) (declared_in entries) ≡ None
nothing_declared [] name e = refl
nothing_declared ((key, Declared k) ∷ entries) name e = by (bytes_eq name key) e (nothing_declared entries name)
  where
    by : (same : Bool) → cond same (Some (Declared k)) (lookup (bytes_eq name) entries) ≡ None → (lookup (bytes_eq name) entries ≡ None → lookup (bytes_eq name) (declared_in entries) ≡ None) → cond same (Some k) (lookup (bytes_eq name) (declared_in entries)) ≡ None
    by true e later = cc
    by false e later = later e
nothing_declared ((key, Aliased k) ∷ entries) name e = by (bytes_eq name key) e (nothing_declared entries name)
  where
    by : (same : Bool) → cond same (Some (Aliased k)) (lookup (bytes_eq name) entries) ≡ None → (lookup (bytes_eq name) entries ≡ None → lookup (bytes_eq name) (declared_in entries) ≡ None) → lookup (bytes_eq name) (declared_in entries) ≡ None
    by true e later = cc
    by false e later = later e

pub nothing_aliased : (entries : List (List ℕ × Entry)) (name : List ℕ) → lookup (bytes_eq name) entries ≡ None → lookup (bytes_eq name) (aliased_in entries) ≡ None
nothing_aliased [] name e = refl
nothing_aliased ((key, Aliased k) ∷ entries) name e = by (bytes_eq name key) e (nothing_aliased entries name)
  where
    by : (same : Bool) → cond same (Some (Aliased k)) (lookup (bytes_eq name) entries) ≡ None → (lookup (bytes_eq name) entries ≡ None → lookup (bytes_eq name) (aliased_in entries) ≡ None) → cond same (Some k) (lookup (bytes_eq name) (aliased_in entries)) ≡ None
    by true e later = cc
    by false e later = later e
nothing_aliased ((key, Declared k) ∷ entries) name e = by (bytes_eq name key) e (nothing_aliased entries name)
  where
    by : (same : Bool) → cond same (Some (Declared k)) (lookup (bytes_eq name) entries) ≡ None → (lookup (bytes_eq name) entries ≡ None → lookup (bytes_eq name) (aliased_in entries) ≡ None) → lookup (bytes_eq name) (aliased_in entries) ≡ None
    by true e later = cc
    by false e later = later e

-- one that finds none of either kind finds none
pub nothing_found : (entries : List (List ℕ × Entry)) (name : List ℕ) → lookup (bytes_eq name) (declared_in entries) ≡ None → lookup (bytes_eq name) (aliased_in entries) ≡ None → lookup (bytes_eq name) entries ≡ None
nothing_found [] name d a = refl
nothing_found ((key, Declared k) ∷ entries) name d a = by (bytes_eq name key) d (λ d. nothing_found entries name d a)
  where
    by : (same : Bool) → cond same (Some k) (lookup (bytes_eq name) (declared_in entries)) ≡ None → (lookup (bytes_eq name) (declared_in entries) ≡ None → lookup (bytes_eq name) entries ≡ None) → cond same (Some (Declared k)) (lookup (bytes_eq name) entries) ≡ None
    by true e later = cc
    by false e later = later e
nothing_found ((key, Aliased k) ∷ entries) name d a = by (bytes_eq name key) a (λ a. nothing_found entries name d a)
  where
    by : (same : Bool) → cond same (Some k) (lookup (bytes_eq name) (aliased_in entries)) ≡ None → (lookup (bytes_eq name) (aliased_in entries) ≡ None → lookup (bytes_eq name) entries ≡ None) → cond same (Some (Aliased k)) (lookup (bytes_eq name) entries) ≡ None
    by true e later = cc
    by false e later = later e

-- what the look-up among the names from n on answers of the items
module _ {X : Type 0} (name_of : X → List ℕ) where
  pub data LookedUp (n : ℕ) (xs : List X) (name : List ℕ) : Option ℕ → Type 0 where
    nowhere : called name_of xs name ≡ None → LookedUp n xs name None
    there : (place : ℕ) → place < length xs → called name_of xs name ≡ slice_get xs place → LookedUp n xs name (Some (n + place))

  looked_up_by : (n : ℕ) (x : X) (xs : List X) (name : List ℕ) (same : Bool) → bytes_eq name (name_of x) ≡ same → (r : Option ℕ) → LookedUp (n + 1) xs name r → LookedUp n (x ∷ xs) name (cond same (Some n) r)
  looked_up_by n x xs name true same r rest =
      let here : Some (n + 0) ≡ Some n = ap Some (omega arith) in
      subst (LookedUp n (x ∷ xs) name) here (there 0 (omega arith) (ap (λ b. cond b (Some x) (called name_of xs name)) same))
  looked_up_by n x xs name false same r (nowhere none) = nowhere (ap (λ b. cond b (Some x) (called name_of xs name)) same ∙ none)
  looked_up_by n x xs name false same r (there place within found) =
      let further : Some (n + suc place) ≡ Some (n + 1 + place) = ap Some (omega arith) in
      subst (LookedUp n (x ∷ xs) name) further (there (suc place) (omega arith) (ap (λ b. cond b (Some x) (called name_of xs name)) same ∙ found))

  looked_up : (n : ℕ) (xs : List X) (name : List ℕ) → LookedUp n xs name (lookup (bytes_eq name) (names_from name_of n xs))
  looked_up n [] name = nowhere refl
  looked_up n (x ∷ xs) name = looked_up_by n x xs name (bytes_eq name (name_of x)) refl (lookup (bytes_eq name) (names_from name_of (n + 1) xs)) (looked_up (n + 1) xs name)

  -- where the look-up finds a place, the name is that of the item there
  found_as : (xs : List X) (name : List ℕ) (r : Option ℕ) → LookedUp 0 xs name r → (k : ℕ) → r ≡ Some k → (k < length xs) × (called name_of xs name ≡ slice_get xs k)
  found_as xs name r (nowhere none) k e = cc
  found_as xs name r (there place within found) k e =
      let same : 0 + place ≡ k = cc in
      let here : place ≡ k = omega arith in
      (omega arith, found ∙ ap (slice_get xs) here)

  pub found_at : (xs : List X) (name : List ℕ) (k : ℕ) → lookup (bytes_eq name) (names_from name_of 0 xs) ≡ Some k → (k < length xs) × (called name_of xs name ≡ slice_get xs k)
  found_at xs name k e = found_as xs name (lookup (bytes_eq name) (names_from name_of 0 xs)) (looked_up 0 xs name) k e

  -- the look-up finds nothing exactly where no item has the name
  missed : (xs : List X) (name : List ℕ) (r : Option ℕ) → LookedUp 0 xs name r → r ≡ None → called name_of xs name ≡ None
  missed xs name r (nowhere none) e = none
  missed xs name r (there place within found) e = cc

  pub uncalled : (xs : List X) (name : List ℕ) → lookup (bytes_eq name) (names_from name_of 0 xs) ≡ None → called name_of xs name ≡ None
  uncalled xs name e = missed xs name (lookup (bytes_eq name) (names_from name_of 0 xs)) (looked_up 0 xs name) e

  at_least : (xs : List X) (place : ℕ) → place < length xs → X
  at_least [] place within = absurd (omega arith)
  at_least (x ∷ xs) place within = x

  unfound_as : (xs : List X) (name : List ℕ) (r : Option ℕ) → LookedUp 0 xs name r → called name_of xs name ≡ None → r ≡ None
  unfound_as xs name r (nowhere none) e = refl
  unfound_as xs name r (there place within found) e = let some = slice_get-get_or xs place (at_least xs place within) within in cc

  pub unfound : (xs : List X) (name : List ℕ) → called name_of xs name ≡ None → lookup (bytes_eq name) (names_from name_of 0 xs) ≡ None
  unfound xs name e = unfound_as xs name (lookup (bytes_eq name) (names_from name_of 0 xs)) (looked_up 0 xs name) e
