-- Terms, vectors and rows of an instance are entries that break nothing and stand for themselves.
use Rattle.std.proofs.Common.{◌≡◌, ◌⊎◌, ℕ, ◌+◌, ◌≤◌, leb, ltb, ℤ, pos, Bool, true, false, not, ◌&&◌, ◌||◌, List, [], ◌∷◌, ◌++◌, length, map, slice_get, Option, Some, None, refl, ap, ◌∙◌, inl, inr, arith, cond}
use Rattle.std.specs.List.{AllByRecursion, list_all}
use Rattle.std.specs.Ordering.{int_eq}
use Rattle.std.proofs.lemmas.Bool.Decides.{nat_tests}
use Rattle.std.proofs.lemmas.List.{append_assoc, length_push}
use Rattle.mn_model.specs.Lawful.{IsLawfulTerm, IsBit, AreBits, IsLawfulRow}
use Rattle.mn_model.specs.Problem.{Problem, domains_of}
use Rattle.mn_model.specs.Variable.{number_of}
use Rattle.mn_model.specs.declared.constraint.Term.{Term}
use Rattle.mn_model.specs.declared.constraint.Term.TheVariants.{Var, Const, Not}
use Rattle.mn_model.specs.declared.limits.TheConstants.{PLACES}
use Rattle.mn_model.specs.declared.variable.VarId.{VarId}
use Rattle.mn_grammar.specs.Places.{behind, when}
use Rattle.mn_grammar.specs.Lists.{value_items}
use Rattle.mn_grammar.specs.declared.Kind.TheVariants.{Limit, Shape}
use Rattle.mn_grammar.specs.declared.Limit.TheVariants.{Vector}
use Rattle.mn_references.specs.declared.want.Unfit.TheVariants.{Form, Length}
use Rattle.mn_references.specs.Conditions.{lesser, as_kind, unfit}
use Rattle.mn_references.specs.References.{are_zero_one, are_bits, one_place}
use Rattle.mn_references.specs.Entries.{Place, Placed, placed, denied, breaks_entry, value_entry, a_term, any_number, in_list, list_judge, listed_terms, breaks_list, value_list, breaks_vector, value_vector, within_brackets, breaks_row, value_row, one_row}
use Rattle.mn_references.specs.declared.want.Bounds.{Bounds}
use Rattle.mn_sections.specs.Trees.{items_from, entry_of, entries_of, vector_of, row_of}
use Rattle.mn_sections.proofs.Items.{AllFit, items_break}
use Rattle.mn_sections.proofs.References.{HasVariables, ref_breaks, ref_value}

-- 1. 0/1 terms
zero_one : (a : ℤ) → (a ≡ pos 0) ⊎ (a ≡ pos 1) → (int_eq a (pos 0) || int_eq a (pos 1)) ≡ true
zero_one a (inl e) = rw e refl
zero_one a (inr e) = rw e refl

all_zero_one : (values : List ℤ) → AllByRecursion (λ a. (a ≡ pos 0) ⊎ (a ≡ pos 1)) values → list_all (λ a. int_eq a (pos 0) || int_eq a (pos 1)) values ≡ true
all_zero_one [] all = refl
all_zero_one (a ∷ values) all = rw (zero_one a all.0, all_zero_one values all.1) refl

of_bits : (o : Option (List ℤ)) → AreBits o → are_zero_one o ≡ true
of_bits None bits = absurd bits
of_bits (Some values) bits = all_zero_one values bits

-- what an entry wants of a term that it may be
abbrev Suits : Place → Term → Type 0
Suits want (Var v) = want.aim.ends true (v ∷ []) ≡ None
Suits want (Const k) = want.number k ≡ None
Suits want (Not v) = Unit {0}

-- what a term stands for by itself
abbrev one_placed : Term → Placed
one_placed t = record { terms = t ∷ []; dims = []; behind = None }

module _ (p q : Problem) (has : HasVariables p q) where
  abbrev domains : List (List ℤ)
  domains = domains_of p.decls

  bits_of : (v : VarId) → AreBits (slice_get domains (number_of v)) → are_bits q (v ∷ []) ≡ true
  bits_of v bits =
      let one : are_zero_one (slice_get (domains_of q.decls) (number_of v)) ≡ true = ap (λ ds. are_zero_one (slice_get (domains_of ds) (number_of v))) has.same ∙ of_bits _ bits in
      rw one refl

  -- 2. A term
  suited : (want : Place) (t : Term) → IsLawfulTerm domains t → want.first ≡ None → Suits want t → breaks_entry q want (entry_of p t) ≡ []
  suited want (Var v) lawful first suits = rw first (ref_breaks p q has v lawful want.aim suits)
  suited want (Const k) lawful first suits = rw (first, suits) refl
  suited want (Not v) lawful first suits =
      let ends : (one_place q true).ends true (v ∷ []) ≡ None = rw (bits_of v lawful.1) refl in
      rw (first, ref_breaks p q has v lawful.0 (one_place q true) ends) refl

  stands_for : (want : Place) (t : Term) → IsLawfulTerm domains t → value_entry q want (entry_of p t) ≡ one_placed t
  stands_for want (Var v) lawful = ap placed (ref_value p q has v lawful want.aim)
  stands_for want (Const k) lawful = refl
  stands_for want (Not v) lawful = ap denied (ref_value p q has v lawful.0 (one_place q true))

  suits_term : (bits : Bool) (t : Term) → (bits ≡ true → IsBit domains t) → Suits (a_term q bits) t
  suits_term true (Var v) bit = rw (bits_of v (bit refl)) refl
  suits_term false (Var v) bit = refl
  suits_term true (Const k) bit = rw (zero_one k (bit refl)) refl
  suits_term false (Const k) bit = refl
  suits_term bits (Not v) bit = tt

  pub term_breaks : (bits : Bool) (t : Term) → IsLawfulTerm domains t → (bits ≡ true → IsBit domains t) → breaks_entry q (a_term q bits) (entry_of p t) ≡ []
  term_breaks bits t lawful bit = suited (a_term q bits) t lawful refl (suits_term bits t bit)

  pub term_value : (bits : Bool) (t : Term) → IsLawfulTerm domains t → value_entry q (a_term q bits) (entry_of p t) ≡ one_placed t
  term_value bits t lawful = stands_for (a_term q bits) t lawful

  -- 3. A list of them
  pub record FitsBounds (b : Bounds) (terms : List Term) : Type 0 where
    pub lawful : AllByRecursion (IsLawfulTerm domains) terms
    pub least : b.least ≤ length terms
    pub most : length terms ≤ b.most
    pub short : length terms ≤ PLACES
    pub bits : b.bits ≡ true → AllByRecursion (IsBit domains) terms

  not_past : (b : Bounds) (n : ℕ) (o : Bool) → n ≤ PLACES → n ≤ b.most → o ≡ false → cond (ltb PLACES n) (Some Length) (unfit (ltb b.most n || o) Form) ≡ None
  not_past b n o short most fine =
      let one : ltb PLACES n ≡ false = grind (arith, nat_tests) in
      let two : ltb b.most n ≡ false = grind (arith, nat_tests) in
      rw (one, two, fine) refl

  fine_bits : (bits : Bool) (v : VarId) → (bits ≡ true → IsBit domains (Var v)) → (bits && not (are_bits q (v ∷ []))) ≡ false
  fine_bits true v bit = rw (bits_of v (bit refl)) refl
  fine_bits false v bit = refl

  suits_list : (b : Bounds) (before : List Term) (t : Term) → length before + 1 ≤ PLACES → length before + 1 ≤ b.most → (b.bits ≡ true → IsBit domains t) → Suits (in_list q b before) t
  suits_list b before (Var v) short most bit = not_past b (length before + 1) (b.bits && not (are_bits q (v ∷ []))) short most (fine_bits b.bits v bit)
  suits_list b before (Const k) short most bit = suits_term b.bits (Const k) bit
  suits_list b before (Not v) short most bit = tt

  may_begin : (b : Bounds) (before : List Term) → length before + 1 ≤ b.most → (in_list q b before).first ≡ None
  may_begin b before most = let less : leb b.most (length before) ≡ false = grind (arith, nat_tests) in rw less refl

  module _ (b : Bounds) where
    entry_breaks : (before : List Term) (t : Term) → IsLawfulTerm domains t → length before + 1 ≤ PLACES → length before + 1 ≤ b.most → (b.bits ≡ true → IsBit domains t)
        → breaks_entry q (in_list q b before) (entry_of p t) ≡ []
    entry_breaks before t lawful short most bit = suited (in_list q b before) t lawful (may_begin b before most) (suits_list b before t short most bit)

    entry_value : (before : List Term) (t : Term) → IsLawfulTerm domains t → value_entry q (in_list q b before) (entry_of p t) ≡ one_placed t
    entry_value before t lawful = stands_for (in_list q b before) t lawful

    closes : (before : List Term) (t : Term) → b.least ≤ length before + 1 → lesser (as_kind None) (when (ltb (length (before ++ t ∷ [])) b.least) Shape) ≡ None
    closes before t least = let less : ltb (length (before ++ t ∷ [])) b.least ≡ false = grind (arith, nat_tests, length_push before t) in rw less refl

    goes_on : (before : List Term) (t : Term) → length before + 2 ≤ PLACES → length before + 2 ≤ b.most
        → lesser (when (leb PLACES (length (before ++ t ∷ []))) (Limit Vector)) (when (leb b.most (length (before ++ t ∷ []))) Shape) ≡ None
    goes_on before t short most =
        let one : leb PLACES (length (before ++ t ∷ [])) ≡ false = grind (arith, nat_tests, length_push before t) in
        let two : leb b.most (length (before ++ t ∷ [])) ≡ false = grind (arith, nat_tests, length_push before t) in
        rw (one, two) refl

    all_fit : (before : List Term) (t : Term) (others : List Term) → AllByRecursion (IsLawfulTerm domains) (t ∷ others) → b.least ≤ length before + length (t ∷ others)
        → length before + length (t ∷ others) ≤ b.most → length before + length (t ∷ others) ≤ PLACES → (b.bits ≡ true → AllByRecursion (IsBit domains) (t ∷ others))
        → AllFit (list_judge q b) (entry_of p) before t others
    all_fit before t [] lawful least most short bits = (
      entry_breaks before t lawful.0 (omega arith) (omega arith) (λ e. (bits e).0),
      rw (entry_value before t lawful.0) (closes before t (omega arith)),
    )
    all_fit before t (u ∷ others) lawful least most short bits = (
      entry_breaks before t lawful.0 (omega arith) (omega arith) (λ e. (bits e).0),
      rw (entry_value before t lawful.0) (goes_on before t (omega arith) (omega arith)),
      rw (entry_value before t lawful.0)
          (all_fit (before ++ t ∷ []) u others lawful.1 (omega (arith, length_push before t)) (omega (arith, length_push before t)) (omega (arith, length_push before t)) (λ e. (bits e).1)),
    )

    items_stand : (before : List Term) (t : Term) (others : List Term) → AllByRecursion (IsLawfulTerm domains) (t ∷ others)
        → value_items (list_judge q b) listed_terms (items_from (entry_of p t) (map (entry_of p) others)) before ≡ before ++ t ∷ others
    items_stand before t [] lawful = ap (λ v. listed_terms before v) (entry_value before t lawful.0)
    items_stand before t (u ∷ others) lawful =
        ap (λ v. value_items (list_judge q b) listed_terms (items_from (entry_of p u) (map (entry_of p) others)) (listed_terms before v)) (entry_value before t lawful.0)
        ∙ (items_stand (before ++ t ∷ []) u others lawful.1 ∙ append_assoc before (t ∷ []) (u ∷ others))

    list_breaks : (terms : List Term) → FitsBounds b terms → breaks_list q b (entries_of p terms) ≡ []
    list_breaks [] fits = let least = fits.least in let less : ltb 0 b.least ≡ false = grind (arith, nat_tests) in rw less refl
    list_breaks (t ∷ others) fits =
        let least = fits.least in let most = fits.most in let short = fits.short in
        items_break (list_judge q b) (entry_of p) [] t others (all_fit [] t others fits.lawful (omega arith) (omega arith) (omega arith) fits.bits)

    list_stands : (terms : List Term) → AllByRecursion (IsLawfulTerm domains) terms → value_list q b (entries_of p terms) ≡ terms
    list_stands [] lawful = refl
    list_stands (t ∷ others) lawful = items_stand [] t others lawful

    pub vector_breaks : (terms : List Term) → FitsBounds b terms → breaks_vector q b (vector_of p terms) ≡ []
    vector_breaks terms fits = ap (behind 1) (list_breaks terms fits)

    pub vector_value : (terms : List Term) → AllByRecursion (IsLawfulTerm domains) terms → value_vector q b (vector_of p terms) ≡ within_brackets terms
    vector_value terms lawful = ap within_brackets (list_stands terms lawful)

  -- 4. A row that is printed
  any_row : (terms : List Term) → IsLawfulRow domains terms → FitsBounds any_number terms
  any_row terms lawful = record { lawful = lawful.named; least = omega arith; most = lawful.short; short = lawful.short; bits = λ e. cc }

  pub row_breaks : (terms : List Term) → IsLawfulRow domains terms → breaks_row q (row_of p terms) ≡ []
  row_breaks terms lawful = ap (behind 1) (list_breaks any_number terms (any_row terms lawful))

  pub row_value : (terms : List Term) → IsLawfulRow domains terms → value_row q (row_of p terms) ≡ one_row terms
  row_value terms lawful = ap one_row (list_stands any_number terms lawful.named)
