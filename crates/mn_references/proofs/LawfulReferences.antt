-- A reference that breaks nothing names variables that are declared, and as many as are wanted.
use Rattle.std.proofs.Common.{◌≡◌, ℕ, suc, ◌+◌, ◌*◌, ◌<◌, ◌≤◌, Bool, true, false, not, ◌&&◌, List, [], ◌∷◌, ◌++◌, length, map, slice_get, unwrap_or, Option, Some, None, refl, ap, ◌∙◌, subst, arith, bytes_eq, cond}
use Rattle.std.specs.List.{AllByRecursion, range_with_len}
use Rattle.std.proofs.lemmas.List.FromFn.{length-range_with_len}
use Rattle.std.proofs.lemmas.List.{length-map}
use Rattle.mn_model.specs.Lawful.{IsLawful, IsLawfulAlias}
use Rattle.mn_model.specs.Problem.{Problem, size_of_dims, called, declared_as, aliased_as, variable_count, domains_of}
use Rattle.mn_model.specs.Variable.{number_of, variable}
use Rattle.mn_model.specs.declared.declaration.Alias.{Alias}
use Rattle.mn_model.specs.declared.declaration.Decl.{Decl}
use Rattle.mn_model.proofs.Kept.{numbered_within}
use Rattle.mn_model.proofs.Lists.{all_at}
use Rattle.mn_grammar.specs.Places.{on, behind}
use Rattle.mn_grammar.specs.Lists.{Items, final, also, breaks_items, value_items}
use Rattle.mn_grammar.specs.declared.Kind.TheVariants.{Shape}
use Rattle.mn_grammar.proofs.Steps.{on_kept}
use Rattle.mn_references.specs.Conditions.{as_kind}
use Rattle.mn_references.specs.References.{Lead, lead_by, lead_of, lead_or_none, all_of, is_single, Sub, only, each, is_outside, is_only, places_below, Within, at_start, entered, Ref, Aim, Found, at_name, at_open, at_index, at_comma, at_close, sub_judge, found_at, breaks_subs, value_subs, breaks_ref, value_ref}
use Rattle.mn_references.specs.Lookups.{is_fine}
use Rattle.mn_references.specs.declared.want.Unfit.{Unfit}
use Rattle.mn_references.proofs.Indexing.{stays_within, places_fit, vars_fit}
use Rattle.mn_references.proofs.LookingUp.{listed_known}
use Rattle.mn_references.proofs.Unbroken.{token_kept, when_kept, as_kind_kept, range_below}

-- 1. What a name leads to is declared
abbrev pub IsLed : Problem → Lead → Type 0
IsLed p l = (place : ℕ) → place < size_of_dims l.dims → number_of (l.at place) < variable_count p.decls

called_by : {X : Type 0} (y x : X) (ys : List X) (o : Option X) (b : Bool) → cond b (Some y) o ≡ Some x → (o ≡ Some x → (i : ℕ) × (slice_get ys i ≡ Some x)) → (i : ℕ) × (slice_get (y ∷ ys) i ≡ Some x)
called_by y x ys o true e later = (0, e)
called_by y x ys o false e later = let there = later e in (suc there.0, there.1)

pub called_at : {X : Type 0} (name_of : X → List ℕ) (xs : List X) (name : List ℕ) (x : X) → called name_of xs name ≡ Some x → (i : ℕ) × (slice_get xs i ≡ Some x)
called_at name_of [] name x e = cc
called_at name_of (y ∷ ys) name x e = called_by y x ys (called name_of ys name) (bytes_eq name (name_of y)) e (λ later. called_at name_of ys name x later)

led_by : (p : Problem) → IsLawful p → (name : List ℕ) (o : Option Decl) (a : Option Alias) → declared_as p.decls name ≡ o → aliased_as p.aliases name ≡ a → (l : Lead) → lead_by o a ≡ Some l → IsLed p l
led_by p lawful name (Some d) a e f l same =
    let there = called_at (λ (d : Decl). d.name) p.decls name d e in
    let within = numbered_within 0 p.decls there.0 d lawful.numbered there.1 in
    let is : ◌≡◌ {A = Lead} (record { dims = d.dims; at = λ place. variable (number_of d.first + place) }) l = cc in
    subst (IsLed p) is (λ place less. omega (arith, within, less))
led_by p lawful name None (Some a) e f l same =
    let there = called_at (λ (a : Alias). a.name) p.aliases name a f in
    let of_alias = all_at (IsLawfulAlias (domains_of p.decls)) p.aliases there.0 a lawful.aliases there.1 in
    let is : ◌≡◌ {A = Lead} (record { dims = a.dims; at = λ place. unwrap_or (slice_get a.vars place) (variable 0) }) l = cc in
    subst (IsLed p) is (λ place less. listed_known p a.vars place of_alias.known (omega (arith, less, of_alias.filled)))
led_by p lawful name None None e f l same = cc

led_at : (p : Problem) → IsLawful p → (name : List ℕ) (l : Lead) → lead_of p name ≡ Some l → IsLed p l
led_at p lawful name l e = led_by p lawful name (declared_as p.decls name) (aliased_as p.aliases name) refl refl l e

-- 2. What a reference comes to: what is wanted of its end is kept or is left to the token behind it, its variables are
-- declared, and one that is named in full is one
pub record IsGood (p : Problem) (aim : Aim) (f : Found) : Type 0 where
  pub full : Bool
  pub ends : aim.ends full f.vars ≡ f.behind
  pub known : AllByRecursion (λ v. number_of v < variable_count p.decls) f.vars
  pub one : full ≡ true → length f.vars ≡ 1

fine_of : (aim : Aim) (dims places : List ℕ) (full : Bool) (sub : Sub) → at_index aim (record { dims = dims; places = places; full = full }) sub ≡ None → is_fine dims sub ≡ true
fine_of aim dims places full (only z) e = ap not (when_kept (is_outside dims z) Shape e)
fine_of aim dims places full each e = refl

close_kept : (b : Bool) (o : Option Unfit) → cond b (as_kind o) (Some Shape) ≡ None → (b ≡ true) × (o ≡ None)
close_kept true o e = (refl, as_kind_kept o e)
close_kept false o e = cc

one_more : (dim : ℕ) (sub : Sub) (full : Bool) (places : List ℕ) → (full ≡ true → length places ≡ 1) → (full && is_only sub) ≡ true → length (places_below dim sub places) ≡ 1
one_more dim (only z) true [] one e = one refl
one_more dim (only z) true (place ∷ []) one e = refl
one_more dim (only z) true (place ∷ other ∷ places) one e = let size = one refl in absurd (omega arith)
one_more dim (only z) false places one e = cc
one_more dim each true places one e = cc
one_more dim each false places one e = cc

module _ (p : Problem) (aim : Aim) (l : Lead) (led : IsLed p l) where
  abbrev IsInside : List ℕ → List ℕ → Type 0
  IsInside dims places = AllByRecursion (λ place. (place + 1) * size_of_dims dims ≤ size_of_dims l.dims) places

  indices_good : (subs : Items Sub) (dims places : List ℕ) (full : Bool) → is_single dims ≡ false → IsInside dims places → (full ≡ true → length places ≡ 1) → breaks_items (sub_judge aim l) subs (record { dims = dims; places = places; full = full }) ≡ [] → IsGood p aim (value_items (sub_judge aim l) (found_at l) subs (record { dims = dims; places = places; full = full }))
  indices_good subs [] places full several inside one kept = cc
  indices_good (final sub) (dim ∷ dims) places full several inside one kept =
      let w : Within = record { dims = dim ∷ dims; places = places; full = full } in
      let parts = token_kept (at_index aim w sub) 1 (on (at_close aim l w sub)) kept in
      let closed = close_kept (is_single dims) (aim.ends (entered w sub).full (map l.at (entered w sub).places)) (on_kept (at_close aim l w sub) parts.1) in
      let below = stays_within (dim ∷ dims) places (entered w sub).places (size_of_dims l.dims) sub (omega arith) (fine_of aim (dim ∷ dims) places full sub parts.0) inside refl in
      record {
        full = (entered w sub).full;
        ends = closed.1;
        known = vars_fit l.at (entered w sub).places (size_of_dims l.dims) (variable_count p.decls) led (places_fit dims (entered w sub).places (size_of_dims l.dims) closed.0 below);
        one = λ e. length-map (entered w sub).places l.at ∙ one_more dim sub full places one e;
      }
  indices_good (also sub subs) (dim ∷ dims) places full several inside one kept =
      let w : Within = record { dims = dim ∷ dims; places = places; full = full } in
      let parts = token_kept (at_index aim w sub) 1 (on (at_comma w sub) ++ behind 1 (breaks_items (sub_judge aim l) subs (entered w sub))) kept in
      let later = token_kept (at_comma w sub) 1 (breaks_items (sub_judge aim l) subs (entered w sub)) parts.1 in
      let below = stays_within (dim ∷ dims) places (entered w sub).places (size_of_dims l.dims) sub (omega arith) (fine_of aim (dim ∷ dims) places full sub parts.0) inside refl in
      indices_good subs dims (entered w sub).places (entered w sub).full (when_kept (is_single dims) Shape later.0) below (one_more dim sub full places one) later.1

  single_size : (dims : List ℕ) → is_single dims ≡ true → size_of_dims dims ≡ 1
  single_size [] e = refl
  single_size (dim ∷ dims) e = cc

  all_known : AllByRecursion (λ v. number_of v < variable_count p.decls) (all_of l)
  all_known = vars_fit l.at (range_with_len 0 (size_of_dims l.dims)) (size_of_dims l.dims) (variable_count p.decls) led (range_below 0 (size_of_dims l.dims) (size_of_dims l.dims) (omega arith))

  bare_good : (b : Bool) → is_single l.dims ≡ b → cond b (as_kind (aim.ends true (all_of l))) None ≡ None → IsGood p aim (record { vars = all_of l; dims = l.dims; behind = cond b None (aim.ends false (all_of l)) })
  bare_good true is kept = record {
    full = true;
    ends = as_kind_kept (aim.ends true (all_of l)) kept;
    known = all_known;
    one = λ e. length-map (range_with_len 0 (size_of_dims l.dims)) l.at ∙ length-range_with_len 0 (size_of_dims l.dims) ∙ single_size l.dims is;
  }
  bare_good false is kept = record { full = false; ends = refl; known = all_known; one = λ e. cc }

  subs_good : (subs : Option (Items Sub)) → on (at_name aim (Some l)) ++ behind 1 (breaks_subs aim l subs) ≡ [] → IsGood p aim (value_subs aim l subs)
  subs_good None kept = bare_good (is_single l.dims) refl (token_kept (at_name aim (Some l)) 1 [] kept).0
  subs_good (Some subs) kept =
      let parts = token_kept (at_name aim (Some l)) 1 (breaks_subs aim l (Some subs)) kept in
      let later = token_kept (at_open l) 1 (breaks_items (sub_judge aim l) subs (at_start l.dims)) parts.1 in
      indices_good subs l.dims (0 ∷ []) true (when_kept (is_single l.dims) Shape later.0) (omega arith, tt) (λ e. refl) later.1

-- so a reference that breaks nothing is good
good_by : (p : Problem) (aim : Aim) (o : Option Lead) → ((l : Lead) → o ≡ Some l → IsLed p l) → (subs : Option (Items Sub)) → on (at_name aim o) ++ behind 1 (breaks_subs aim (lead_or_none o) subs) ≡ [] → IsGood p aim (value_subs aim (lead_or_none o) subs)
good_by p aim None led subs kept = cc
good_by p aim (Some l) led subs kept = subs_good p aim l (led l refl) subs kept

-- behind a name, by what the name breaks and what stands behind it
pub name_good : (p : Problem) → IsLawful p → (aim : Aim) (name : List ℕ) (subs : Option (Items Sub)) → at_name aim (lead_of p name) ≡ None → breaks_subs aim (lead_or_none (lead_of p name)) subs ≡ [] → IsGood p aim (value_subs aim (lead_or_none (lead_of p name)) subs)
name_good p lawful aim name subs named kept =
    good_by p aim (lead_of p name) (led_at p lawful name) subs (ap (λ c. on c ++ behind 1 (breaks_subs aim (lead_or_none (lead_of p name)) subs)) named ∙ ap (λ l. behind 1 l) kept)

pub ref_good : (p : Problem) → IsLawful p → (aim : Aim) (r : Ref) → breaks_ref p aim r ≡ [] → IsGood p aim (value_ref p aim r)
ref_good p lawful aim r kept = good_by p aim (lead_of p r.name.bytes) (led_at p lawful r.name.bytes) r.subs kept
