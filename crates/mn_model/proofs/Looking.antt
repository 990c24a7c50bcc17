-- What the index of names answers.
use Rattle.std.proofs.Common.{◌≡◌, ℕ, ℤ, zero, suc, ◌<◌, ◌≤◌, Bool, true, false, cond, List, [], ◌∷◌, length, slice_get, Option, Some, None, refl, ap, sym, subst, ◌∙◌, arith, String, string_bytes}
use Rattle.std.proofs.lemmas.Slice.Eq.{bytes_eq-Decides}
use Rattle.std.specs.List.{AllByRecursion}
use Rattle.std.specs.Map.{lookup}
use Rattle.std.specs.Option.{IfSome, option_and_then}
use Rattle.std.specs.Str.{bytes_eq}
use Rattle.mn_model.proofs.Found.{lookup-entries_read, declared_found, aliased_found, nothing_declared, nothing_aliased, found_at, uncalled}
use Rattle.mn_model.specs.Index.{IsKept, entries_read}
use Rattle.mn_model.specs.Lawful.{IsKnown}
use Rattle.mn_model.specs.Problem.{Problem, aliased_as, declared_as, listed_as, offset_from, variable_through}
use Rattle.mn_model.specs.Variable.{number_of}
use Rattle.mn_model.specs.declared.declaration.Alias.{Alias}
use Rattle.mn_model.specs.declared.declaration.Decl.{Decl}
use Rattle.mn_model.specs.declared.instance.Entry.{Entry}
use Rattle.mn_model.specs.declared.variable.VarId.{VarId}
use Rattle.mn_model.specs.declared.instance.Entry.TheVariants.{Declared, Aliased}
use Rattle.mn_model.proofs.Lists.{some_there}

-- a declared name is no alias, where no alias has a declared name
pub no_alias : (decls : List Decl) (aliases : List Alias) (name : List ℕ) (d : Decl) → AllByRecursion (λ a. declared_as decls a.name ≡ None) aliases → declared_as decls name ≡ Some d → aliased_as aliases name ≡ None
no_alias decls [] name d apart e = refl
no_alias decls (a ∷ aliases) name d apart e = by (bytes_eq name a.name) refl (no_alias decls aliases name d apart.1 e)
  where
    by : (same : Bool) → bytes_eq name a.name ≡ same → aliased_as aliases name ≡ None → cond same (Some a) (aliased_as aliases name) ≡ None
    by true same later =
        let named : name ≡ a.name = (bytes_eq-Decides name a.name).0 same in
        let none : declared_as decls name ≡ None = subst (λ n. declared_as decls n ≡ None) (sym named) apart.0 in
        absurd (cc)
    by false same later = later

-- and an alias is no declared name
pub no_declaration : (decls : List Decl) (aliases : List Alias) (name : List ℕ) (a : Alias) → AllByRecursion (λ a. declared_as decls a.name ≡ None) aliases → aliased_as aliases name ≡ Some a → declared_as decls name ≡ None
no_declaration decls aliases name a apart e = by (declared_as decls name) refl
  where
    by : (r : Option Decl) → declared_as decls name ≡ r → r ≡ None
    by None is = refl
    by (Some d) is = let none : aliased_as aliases name ≡ None = no_alias decls aliases name d apart is in cc

-- a variable below a bound is below a greater one
pub some_less : (r : Option VarId) {m n : ℕ} → m ≤ n → IfSome r (λ v. number_of v < m) → IfSome r (λ v. number_of v < n)
some_less None le below = below
some_less (Some v) le below = omega (arith, le, below)

-- a variable that an alias has is one of those known
known_at : (domains : List (List ℤ)) (vars : List VarId) (i : ℕ) → AllByRecursion (IsKnown domains) vars → IfSome (slice_get vars i) (IsKnown domains)
known_at domains [] i known = tt
known_at domains (v ∷ vars) zero known = known.0
known_at domains (v ∷ vars) (suc i) known = known_at domains vars i known.1

through_known : (domains : List (List ℤ)) (vars : List VarId) (r : Option ℕ) → AllByRecursion (IsKnown domains) vars → IfSome (option_and_then (λ offset. slice_get vars offset) r) (IsKnown domains)
through_known domains vars None known = tt
through_known domains vars (Some i) known = known_at domains vars i known

pub some_known : (r : Option VarId) (a : Alias) (subs : List ℕ) (domains : List (List ℤ)) (n : ℕ) → length domains ≡ n → r ≡ variable_through (Some a) subs → AllByRecursion (IsKnown domains) a.vars → IfSome r (λ v. number_of v < n)
some_known r a subs domains n size is known = subst (λ k. IfSome r (λ v. number_of v < k)) size (subst (λ o. IfSome o (IsKnown domains)) (sym is) (through_known domains a.vars (offset_from 0 a.dims subs) known))

module _ {A : Type 0} (p : Problem) (names : List (String A × Entry)) (lists : List (String A × ℕ)) (owners : List ℕ) (cells : ℕ) (kept : IsKept p names lists owners cells) (name : List ℕ) where
  -- what the index of names answers, of the entries read
  read : (r : Option Entry) → r ≡ lookup (λ k. bytes_eq name (string_bytes k)) names → lookup (bytes_eq name) (entries_read names) ≡ r
  read r e = sym (e ∙ lookup-entries_read name names)

  pub declared_at : (place : ℕ) → Some (Declared place) ≡ lookup (λ k. bytes_eq name (string_bytes k)) names → (place < length p.decls) × (declared_as p.decls name ≡ slice_get p.decls place)
  declared_at place e = found_at (λ d. d.name) p.decls name place (sym (ap (lookup (bytes_eq name)) kept.named) ∙ declared_found (entries_read names) name place (read (Some (Declared place)) e))

  pub aliased_at : (place : ℕ) → Some (Aliased place) ≡ lookup (λ k. bytes_eq name (string_bytes k)) names → (place < length p.aliases) × (aliased_as p.aliases name ≡ slice_get p.aliases place)
  aliased_at place e = found_at (λ a. a.name) p.aliases name place (sym (ap (lookup (bytes_eq name)) kept.aliased) ∙ aliased_found (entries_read names) name place (read (Some (Aliased place)) e))

  pub undeclared : None ≡ lookup (λ k. bytes_eq name (string_bytes k)) names → declared_as p.decls name ≡ None
  undeclared e = uncalled (λ d. d.name) p.decls name (sym (ap (lookup (bytes_eq name)) kept.named) ∙ nothing_declared (entries_read names) name (read None e))

  pub unaliased : None ≡ lookup (λ k. bytes_eq name (string_bytes k)) names → aliased_as p.aliases name ≡ None
  unaliased e = uncalled (λ a. a.name) p.aliases name (sym (ap (lookup (bytes_eq name)) kept.aliased) ∙ nothing_aliased (entries_read names) name (read None e))

  -- what stands there
  pub declared_is : (place : ℕ) (d : Decl) → Some (Declared place) ≡ lookup (λ k. bytes_eq name (string_bytes k)) names → slice_get p.decls place ≡ Some d → declared_as p.decls name ≡ Some d
  declared_is place d e is = (declared_at place e).1 ∙ is

  pub aliased_is : (place : ℕ) (a : Alias) → Some (Aliased place) ≡ lookup (λ k. bytes_eq name (string_bytes k)) names → slice_get p.aliases place ≡ Some a → aliased_as p.aliases name ≡ Some a
  aliased_is place a e is = (aliased_at place e).1 ∙ is

  -- a name that leads to a declaration is no alias, and the other way round
  pub not_alias : (place : ℕ) → Some (Declared place) ≡ lookup (λ k. bytes_eq name (string_bytes k)) names → aliased_as p.aliases name ≡ None
  not_alias place e = let at = declared_at place e in let d = some_there p.decls place at.0 in no_alias p.decls p.aliases name d.0 kept.lawful.apart (at.1 ∙ d.1)

  pub not_declared : (place : ℕ) → Some (Aliased place) ≡ lookup (λ k. bytes_eq name (string_bytes k)) names → declared_as p.decls name ≡ None
  not_declared place e = let at = aliased_at place e in let a = some_there p.aliases place at.0 in no_declaration p.decls p.aliases name a.0 kept.lawful.apart (at.1 ∙ a.1)

  -- the tuple list of a name
  pub listed_at : (place : ℕ) → Some place ≡ lookup (λ k. bytes_eq name (string_bytes k)) lists → (place < length p.tuples) × (listed_as p.tuples name ≡ slice_get p.tuples place)
  listed_at place e = found_at (λ t. t.name) p.tuples name place (sym (ap (lookup (bytes_eq name)) kept.listed) ∙ sym (e ∙ lookup-entries_read name lists))

  pub unlisted : None ≡ lookup (λ k. bytes_eq name (string_bytes k)) lists → listed_as p.tuples name ≡ None
  unlisted e = uncalled (λ t. t.name) p.tuples name (sym (ap (lookup (bytes_eq name)) kept.listed) ∙ sym (e ∙ lookup-entries_read name lists))
