-- A variable by the name and the indices of its declaration is a reference to it.
use Rattle.std.proofs.Common.{◌≡◌, ℕ, zero, suc, ◌+◌, ◌-◌, ◌*◌, ◌<◌, ◌≤◌, nat_lt, true, false, List, [], ◌∷◌, ◌++◌, slice_get, Option, Some, None, refl, sym, ap, ◌∙◌, subst, inl, inr, arith, cond, bytes_eq}
use Rattle.std.specs.List.{AllByRecursion}
use Rattle.std.proofs.lemmas.Bool.{cases_Bool}
use Rattle.std.proofs.lemmas.Bool.Decides.{nat_tests}
use Rattle.std.proofs.lemmas.List.{append_assoc}
use Rattle.mn_model.specs.Lawful.{IsLawful, IsLawfulDecl, IsKnown, AreNewAfter, AreNumberedFrom}
use Rattle.mn_model.specs.Problem.{Problem, size_of_dims, variable_count, domains_of, called, declared_as, aliased_as}
use Rattle.mn_model.specs.Variable.{number_of, variable}
use Rattle.mn_model.specs.declared.declaration.Decl.{Decl}
use Rattle.mn_model.specs.declared.variable.VarId.{VarId}
use Rattle.mn_model.proofs.Variables.{length-domains_of, variable_count-cons}
use Rattle.mn_model.proofs.Lists.{all_at}
use Rattle.mn_model.proofs.Named.{same_bytes}
use Rattle.mn_grammar.specs.Places.{on, behind}
use Rattle.mn_references.specs.References.{Aim, Found, Lead, lead_by, lead_of, lead_or_none, at_name, breaks_subs, value_subs, breaks_ref, value_ref}
use Rattle.mn_sections.specs.Matrices.{indices_of}
use Rattle.mn_sections.specs.Trees.{name_from, subs_of, place_ref, numbered_ref, ref_of}
use Rattle.mn_sections.proofs.Indices.{indices_break, indices_lead}
use Rattle.mn_sections.proofs.Names.{name_of_model}

-- q declares the variables of p
pub record HasVariables (p q : Problem) : Type 0 where
  pub lawful : IsLawful p
  pub same : q.decls ≡ p.decls

-- 1. The declaration of a variable, and its place there
record IsAt (n : ℕ) (decls : List Decl) (v : ℕ) : Type 0 where
  place : ℕ
  decl : Decl
  declared : slice_get decls place ≡ Some decl
  index : ℕ
  within : index < size_of_dims decl.dims
  number : number_of decl.first + index ≡ n + v
  ref : numbered_ref decls v ≡ place_ref decl index

here : (n : ℕ) (d : Decl) (decls : List Decl) (v : ℕ) → number_of d.first ≡ n → nat_lt v (size_of_dims d.dims) ≡ true → IsAt n (d ∷ decls) v
here n d decls v first less = record {
  place = 0;
  decl = d;
  declared = refl;
  index = v;
  within = grind (arith, nat_tests);
  number = omega arith;
  ref = rw less refl;
}

there : (n : ℕ) (d : Decl) (decls : List Decl) (v : ℕ) → nat_lt v (size_of_dims d.dims) ≡ false → IsAt (n + size_of_dims d.dims) decls (v - size_of_dims d.dims) → IsAt n (d ∷ decls) v
there n d decls v less at =
    let behind : size_of_dims d.dims ≤ v = grind (arith, nat_tests) in
    record {
      place = suc at.place;
      decl = at.decl;
      declared = at.declared;
      index = at.index;
      within = at.within;
      number = let e = at.number in omega arith;
      ref = rw less at.ref;
    }

is_at : (n : ℕ) (decls : List Decl) (v : ℕ) → AreNumberedFrom n decls → v < variable_count decls → IsAt n decls v
is_at n [] v numbered known = absurd (omega arith)
is_at n (d ∷ decls) v numbered known =
    elim (cases_Bool (nat_lt v (size_of_dims d.dims))) [
      | inl less ↦ here n d decls v numbered.0 less
      | inr less ↦
          let behind : size_of_dims d.dims ≤ v = grind (arith, nat_tests) in
          there n d decls v less (is_at (n + size_of_dims d.dims) decls (v - size_of_dims d.dims) numbered.1 (omega (arith, variable_count-cons d decls)))
    ]

-- 2. A declaration is found by its name, since no other has it
module _ {X : Type 0} (name_of : X → List ℕ) where
  called_front : (xs ys : List X) (name : List ℕ) → called name_of xs name ≡ None → called name_of (xs ++ ys) name ≡ called name_of ys name
  called_front [] ys name e = refl
  called_front (x ∷ xs) ys name e =
      elim (cases_Bool (bytes_eq name (name_of x))) [
        | inl same ↦ absurd (let found : ◌≡◌ {A = Option X} (cond (bytes_eq name (name_of x)) (Some x) (called name_of xs name)) (Some x) = rw same refl in cc)
        | inr other ↦ rw other (called_front xs ys name (let found : ◌≡◌ {A = Option X} (cond (bytes_eq name (name_of x)) (Some x) (called name_of xs name)) (called name_of xs name) = rw other refl in sym found ∙ e))
      ]

  called_first : (x : X) (xs : List X) → called name_of (x ∷ xs) (name_of x) ≡ Some x
  called_first x xs = rw (same_bytes (name_of x)) refl

  called_behind : (earlier xs : List X) (i : ℕ) (x : X) → AreNewAfter name_of earlier xs → slice_get xs i ≡ Some x → called name_of (earlier ++ xs) (name_of x) ≡ Some x
  called_behind earlier [] i x new at = cc
  called_behind earlier (y ∷ xs) zero x new at =
      let same : y ≡ x = cc in
      subst (λ z. called name_of (earlier ++ y ∷ xs) (name_of z) ≡ Some z) same (called_front earlier (y ∷ xs) (name_of y) new.0 ∙ called_first y xs)
  called_behind earlier (y ∷ xs) (suc i) x new at =
      subst (λ zs. called name_of zs (name_of x) ≡ Some x) (append_assoc earlier (y ∷ []) xs) (called_behind (earlier ++ y ∷ []) xs i x new.1 at)

  pub called_by_its_name : (xs : List X) (i : ℕ) (x : X) → AreNewAfter name_of [] xs → slice_get xs i ≡ Some x → called name_of xs (name_of x) ≡ Some x
  called_by_its_name xs i x new at = called_behind [] xs i x new at

-- 3. What stands for one variable
abbrev pub one_found : VarId → Found
one_found v = record { vars = v ∷ []; dims = []; behind = None }

abbrev lead_of_decl : Decl → Lead
lead_of_decl d = record { dims = d.dims; at = λ place. variable (number_of d.first + place) }

-- by the lead of a name, whatever it is
module _ (aim : Aim) (d : Decl) (index : ℕ) (some : AllByRecursion (λ dim. 1 ≤ dim) d.dims) (within : index < size_of_dims d.dims) where
  abbrev goes_to : List ℕ → Lead
  goes_to dims = record { dims = dims; at = λ place. variable (number_of d.first + place) }

  abbrev aims_at : VarId
  aims_at = variable (number_of d.first + index)

  breaks_by : (dims : List ℕ) → AllByRecursion (λ dim. 1 ≤ dim) dims → index < size_of_dims dims → aim.ends true (aims_at ∷ []) ≡ None
      → on (at_name aim (Some (goes_to dims))) ++ behind 1 (breaks_subs aim (goes_to dims) (subs_of (indices_of dims index))) ≡ []
  breaks_by [] each less ends =
      let first : 0 ≡ index = omega arith in
      let none : aim.ends true (variable (number_of d.first + 0) ∷ []) ≡ None = subst (λ n. aim.ends true (variable (number_of d.first + n) ∷ []) ≡ None) (sym first) ends in
      rw none refl
  breaks_by (dim ∷ dims) each less ends =
      let same : index ≡ 0 * (dim * size_of_dims dims) + index = omega arith in
      ap (λ bs. behind 1 (behind 1 bs))
      (indices_break aim (goes_to (dim ∷ dims)) dim dims 0 index each.1 less (subst (λ n. aim.ends true (variable (number_of d.first + n) ∷ []) ≡ None) same ends))

  value_by : (dims : List ℕ) → index < size_of_dims dims → value_subs aim (goes_to dims) (subs_of (indices_of dims index)) ≡ one_found aims_at
  value_by [] less =
      let first : 0 ≡ index = omega arith in
      ap (λ n. one_found (variable (number_of d.first + n))) first
  value_by (dim ∷ dims) less =
      let same : 0 * (dim * size_of_dims dims) + index ≡ index = omega arith in
      indices_lead aim (goes_to (dim ∷ dims)) dim dims 0 index ∙ ap (λ n. one_found (variable (number_of d.first + n))) same

module _ (q : Problem) (d : Decl) (named : declared_as q.decls d.name ≡ Some d) (lawful : IsLawfulDecl d) (index : ℕ) (within : index < size_of_dims d.dims) (aim : Aim) where
  led : lead_of q (name_from d.name).bytes ≡ Some (lead_of_decl d)
  led = ap (lead_of q) (name_of_model d.name lawful.named) ∙ ap (λ o. lead_by o (aliased_as q.aliases d.name)) named

  place_breaks : aim.ends true (variable (number_of d.first + index) ∷ []) ≡ None → breaks_ref q aim (place_ref d index) ≡ []
  place_breaks ends =
      ap (λ o. on (at_name aim o) ++ behind 1 (breaks_subs aim (lead_or_none o) (subs_of (indices_of d.dims index)))) led
      ∙ breaks_by aim d index lawful.shaped within d.dims lawful.shaped within ends

  place_value : value_ref q aim (place_ref d index) ≡ one_found (variable (number_of d.first + index))
  place_value = ap (λ o. value_subs aim (lead_or_none o) (subs_of (indices_of d.dims index))) led ∙ value_by aim d index lawful.shaped within d.dims within

-- 4. So for each variable of the instance
module _ (p q : Problem) (has : HasVariables p q) where
  named_in : (i : ℕ) (d : Decl) → slice_get p.decls i ≡ Some d → declared_as q.decls d.name ≡ Some d
  named_in i d at = ap (λ ds. declared_as ds d.name) has.same ∙ called_by_its_name (λ (d : Decl). d.name) p.decls i d has.lawful.distinct at

  module _ (v : VarId) (known : IsKnown (domains_of p.decls) v) where
    stands : IsAt 0 p.decls (number_of v)
    stands = is_at 0 p.decls (number_of v) has.lawful.numbered (omega (arith, length-domains_of p.decls))

    lawful_decl : IsLawfulDecl stands.decl
    lawful_decl = all_at IsLawfulDecl p.decls stands.place stands.decl has.lawful.decls stands.declared

    is_same : variable (number_of stands.decl.first + stands.index) ≡ v
    is_same = let same : 0 + number_of v ≡ number_of v = omega arith in ap variable (stands.number ∙ same)

    pub ref_breaks : (aim : Aim) → aim.ends true (v ∷ []) ≡ None → breaks_ref q aim (ref_of p v) ≡ []
    ref_breaks aim ends =
        ap (breaks_ref q aim) stands.ref
        ∙ place_breaks q stands.decl (named_in stands.place stands.decl stands.declared) lawful_decl stands.index stands.within aim (ap (λ w. aim.ends true (w ∷ [])) is_same ∙ ends)

    pub ref_value : (aim : Aim) → value_ref q aim (ref_of p v) ≡ one_found v
    ref_value aim =
        ap (value_ref q aim) stands.ref
        ∙ (place_value q stands.decl (named_in stands.place stands.decl stands.declared) lawful_decl stands.index stands.within aim ∙ ap one_found is_same)
