-- Terms and vectors that break nothing are lawful in the model.
use Rattle.std.proofs.Common.{◌≡◌, ◌⊎◌, ℤ, pos, ◌+◌, ◌<◌, ◌≤◌, leb, ltb, Bool, true, false, not, ◌&&◌, ◌||◌, List, [], ◌∷◌, ◌++◌, length, map, take, slice_get, Option, Some, None, refl, sym, ap, ◌∙◌, subst, arith, cond, inl, inr, length-append}
use Rattle.std.specs.List.{AllByRecursion}
use Rattle.std.specs.Ordering.{int_eq}
use Rattle.std.proofs.lemmas.Bool.{or_parts, or_cases, not-false}
use Rattle.std.proofs.lemmas.Bool.Decides.{Decides-int_eq}
use Rattle.std.proofs.lemmas.List.{length-map, length_push}
use Rattle.mn_lexer.specs.Forms.{IsWord}
use Rattle.mn_lexer.specs.Terminals.{Terminal, word, number, head, mark}
use Rattle.mn_lexer.specs.declared.marks.Mark.TheVariants.{CloseSquare, Comma}
use Rattle.mn_model.specs.Domain.{IsValue}
use Rattle.mn_model.specs.Lawful.{IsLawful, IsLawfulTerm, IsBit, IsKnown, AreBits}
use Rattle.mn_model.specs.Problem.{Problem, variable_count, domains_of}
use Rattle.mn_model.specs.Variable.{number_of}
use Rattle.mn_model.specs.declared.constraint.Term.{Term}
use Rattle.mn_model.specs.declared.constraint.Term.TheVariants.{Var, Const, Not}
use Rattle.mn_model.specs.declared.limits.TheConstants.{PLACES}
use Rattle.mn_model.specs.declared.variable.VarId.{VarId}
use Rattle.mn_model.proofs.Variables.{length-domains_of}
use Rattle.mn_model.proofs.Lists.{all_append, all_back, all_front, all_map, all_so}
use Rattle.mn_grammar.specs.Places.{when, on, behind}
use Rattle.mn_grammar.specs.Lists.{Items, final, also, spell_items, breaks_items, value_items}
use Rattle.mn_grammar.specs.declared.Kind.TheVariants.{Shape, Limit}
use Rattle.mn_grammar.specs.declared.Limit.TheVariants.{Vector as OfVector}
use Rattle.mn_grammar.proofs.Steps.{on_kept}
use Rattle.mn_references.specs.Conditions.{lesser, as_kind, unfit}
use Rattle.mn_references.specs.References.{lead_of, lead_or_none, at_name, breaks_subs, breaks_ref, Found, value_ref, are_zero_one, are_bits, one_place}
use Rattle.mn_references.specs.Entries.{Entry, of_ref, of_number, of_not, spell_entry, Place, Placed, denied, breaks_entry, value_entry, at_number, a_term, in_list, at_more, at_enough, list_judge, listed_terms, spell_list, breaks_list, value_list, Vector, whole, listed, spell_vector, a_vector, breaks_vector, value_vector}
use Rattle.mn_references.specs.declared.want.Bounds.{Bounds}
use Rattle.mn_references.specs.declared.want.Unfit.TheVariants.{Form, Length}
use Rattle.mn_references.proofs.Unbroken.{token_kept, part_kept, behind_kept, when_kept, as_kind_kept, unfit_kept, lesser_kept, not_less, not_at_most, all_pass}
use Rattle.mn_references.proofs.LawfulReferences.{IsGood, name_good, ref_good}

-- a token of the lexer: its number is a value, and its word has the form of one
abbrev pub IsFairToken : Terminal → Type 0
IsFairToken (number z) = IsValue z
IsFairToken (word bs) = IsWord bs
IsFairToken (head bs) = Unit {0}
IsFairToken (mark m) = Unit {0}

abbrev pub AreFair : List Terminal → Type 0
AreFair ts = AllByRecursion IsFairToken ts

-- 1. Variables with the values 0 and 1
zero_one : (a : ℤ) → (int_eq a (pos 0) || int_eq a (pos 1)) ≡ true → (a ≡ pos 0) ⊎ (a ≡ pos 1)
zero_one a e = by_cases (or_cases (int_eq a (pos 0)) (int_eq a (pos 1)) e)
  where
    by_cases : (int_eq a (pos 0) ≡ true) ⊎ (int_eq a (pos 1) ≡ true) → (a ≡ pos 0) ⊎ (a ≡ pos 1)
    by_cases (inl f) = inl ((Decides-int_eq a (pos 0)).0 f)
    by_cases (inr f) = inr ((Decides-int_eq a (pos 1)).0 f)

bits_of : (o : Option (List ℤ)) → are_zero_one o ≡ true → AreBits o
bits_of None e = cc
bits_of (Some values) e = all_pass (λ a. (a ≡ pos 0) ⊎ (a ≡ pos 1)) (λ a. int_eq a (pos 0) || int_eq a (pos 1)) zero_one values e

module _ (p : Problem) where
  abbrev domains : List (List ℤ)
  domains = domains_of p.decls

  abbrev pub IsTerm : Term → Type 0
  IsTerm x = IsLawfulTerm domains x

  abbrev pub IsBitTerm : Term → Type 0
  IsBitTerm x = IsBit domains x

  pub known_in : (v : VarId) → number_of v < variable_count p.decls → IsKnown domains v
  known_in v less = let same = length-domains_of p.decls in omega (arith, less, same)

  vars_lawful : (vars : List VarId) → AllByRecursion (λ v. number_of v < variable_count p.decls) vars → AllByRecursion IsTerm (map Var vars)
  vars_lawful vars known = all_map IsTerm Var vars (all_so _ _ known_in vars known)

  vars_bits : (vars : List VarId) → are_bits p vars ≡ true → AllByRecursion IsBitTerm (map Var vars)
  vars_bits vars e = all_map IsBitTerm Var vars (all_pass (λ v. AreBits (slice_get domains (number_of v))) (λ v. are_zero_one (slice_get domains (number_of v))) (λ v f. bits_of _ f) vars e)

  -- 2. Entries. What one comes to: variables by a reference, a number, or one less a variable
  pub data Comes (want : Place) : List Term → Type 0 where
    names : (full : Bool) (vars : List VarId) → want.aim.ends full vars ≡ None → AllByRecursion (λ v. number_of v < variable_count p.decls) vars → (full ≡ true → length vars ≡ 1) → Comes want (map Var vars)
    counts : (z : ℤ) → want.first ≡ None → want.number z ≡ None → IsValue z → Comes want (Const z ∷ [])
    denies : (v : VarId) → want.first ≡ None → IsKnown domains v → AreBits (slice_get domains (number_of v)) → Comes want (Not v ∷ [])

  one_var : (vars : List VarId) → length vars ≡ 1 → (v : VarId) × (vars ≡ v ∷ [])
  one_var [] e = absurd (omega arith)
  one_var (v ∷ []) e = (v, refl)
  one_var (v ∷ w ∷ vars) e = absurd (omega arith)

  not_comes : (want : Place) (f : Found) → IsGood p (one_place p true) f → want.first ≡ None → f.behind ≡ None → Comes want (denied f).terms
  not_comes want f good first ends =
      let kept = or_parts (not good.full) (not (are_bits p f.vars)) (unfit_kept (not good.full || not (are_bits p f.vars)) Form (good.ends ∙ ends)) in
      let one = one_var f.vars (good.one (not-false good.full kept.0)) in
      let known = subst (AllByRecursion (λ v. number_of v < variable_count p.decls)) one.1 good.known in
      let bits = all_pass (λ v. AreBits (slice_get domains (number_of v))) (λ v. are_zero_one (slice_get domains (number_of v))) (λ v f. bits_of _ f) f.vars (not-false (are_bits p f.vars) kept.1) in
      let bit = subst (AllByRecursion (λ v. AreBits (slice_get domains (number_of v)))) one.1 bits in
      subst (λ vars. Comes want (map Not (take 1 vars))) (sym one.1) (denies one.0 first (known_in one.0 known.0) bit.0)

  pub entry_comes : IsLawful p → (want : Place) (e : Entry) → breaks_entry p want e ≡ [] → (value_entry p want e).behind ≡ None → AreFair (spell_entry e) → Comes want (value_entry p want e).terms
  entry_comes lawful want (of_ref r) kept ends fair =
      let parts = token_kept (lesser want.first (at_name want.aim (lead_of p r.name.bytes))) 1 (breaks_subs want.aim (lead_or_none (lead_of p r.name.bytes)) r.subs) kept in
      let firsts = lesser_kept want.first (at_name want.aim (lead_of p r.name.bytes)) parts.0 in
      let good = name_good p lawful want.aim r.name.bytes r.subs firsts.1 parts.1 in
      names good.full (value_ref p want.aim r).vars (good.ends ∙ ends) good.known good.one
  entry_comes lawful want (of_number z) kept ends fair =
      let firsts = lesser_kept want.first (want.number z) (on_kept (lesser want.first (want.number z)) kept) in
      counts z firsts.0 firsts.1 fair.0
  entry_comes lawful want (of_not r) kept ends fair =
      let parts = token_kept want.first 1 (breaks_ref p (one_place p true) r) kept in
      not_comes want (value_ref p (one_place p true) r) (ref_good p lawful (one_place p true) r parts.1) parts.0 ends

  -- a term that is wanted: one, and 0/1 where that is wanted
  pub record IsOne (bits : Bool) (terms : List Term) : Type 0 where
    pub term : Term
    pub only : terms ≡ term ∷ []
    pub lawful : IsTerm term
    pub bit : bits ≡ true → IsBitTerm term

  wanted_bits : (b c : Bool) → (b && not c) ≡ false → b ≡ true → c ≡ true
  wanted_bits true c e f = not-false c e
  wanted_bits false c e f = cc

  wanted_number : (b : Bool) (z : ℤ) → at_number b z ≡ None → b ≡ true → (z ≡ pos 0) ⊎ (z ≡ pos 1)
  wanted_number true z e f = zero_one z (not-false (int_eq z (pos 0) || int_eq z (pos 1)) (when_kept (not (int_eq z (pos 0) || int_eq z (pos 1))) Shape e))
  wanted_number false z e f = cc

  pub term_one : (bits : Bool) (terms : List Term) → Comes (a_term p bits) terms → IsOne bits terms
  term_one bits _ (names full vars ends known one) =
      let kept = or_parts (not full) (bits && not (are_bits p vars)) (unfit_kept (not full || (bits && not (are_bits p vars))) Form ends) in
      let only = one_var vars (one (not-false full kept.0)) in
      let lawful = subst (λ vars. AllByRecursion IsTerm (map Var vars)) only.1 (vars_lawful vars known) in
      record {
        term = Var only.0;
        only = ap (map Var) only.1;
        lawful = lawful.0;
        bit = λ e. (subst (λ vars. AllByRecursion IsBitTerm (map Var vars)) only.1 (vars_bits vars (wanted_bits bits (are_bits p vars) kept.1 e))).0;
      }
  term_one bits _ (counts z first kept value) = record { term = Const z; only = refl; lawful = value; bit = λ e. wanted_number bits z kept e }
  term_one bits _ (denies v first known bit) = record { term = Not v; only = refl; lawful = (known, bit); bit = λ e. bit }

  -- 3. Vectors: their places are lawful, as many as wanted and as the limit allows, and 0/1 where that is wanted
  pub record IsVector (b : Bounds) (terms : List Term) : Type 0 where
    pub lawful : AllByRecursion IsTerm terms
    pub short : length terms ≤ PLACES
    pub least : b.least ≤ length terms
    pub most : length terms ≤ b.most
    pub bits : b.bits ≡ true → AllByRecursion IsBitTerm terms

  -- the same of the front of a list
  pub record IsFront (b : Bounds) (terms : List Term) : Type 0 where
    pub lawful : AllByRecursion IsTerm terms
    pub short : length terms ≤ PLACES
    pub most : length terms ≤ b.most
    pub bits : b.bits ≡ true → AllByRecursion IsBitTerm terms

  end_kept : (long : Bool) (other : Bool) → cond long (Some Length) (unfit other Form) ≡ None → (long ≡ false) × (other ≡ false)
  end_kept true other e = cc
  end_kept false other e = (refl, unfit_kept other Form e)

  pub front_more : (b : Bounds) (before more : List Term) → IsFront b before → length before < PLACES → Comes (in_list p b before) more → IsFront b (before ++ more)
  front_more b before _ front room (names full vars ends known one) =
      let kept = end_kept (ltb PLACES (length before + length vars)) (ltb b.most (length before + length vars) || (b.bits && not (are_bits p vars))) ends in
      let others = or_parts (ltb b.most (length before + length vars)) (b.bits && not (are_bits p vars)) kept.1 in
      let short = not_less PLACES (length before + length vars) kept.0 in
      let most = not_less b.most (length before + length vars) others.0 in
      let size : length (before ++ map Var vars) ≡ length before + length vars = length-append before (map Var vars) ∙ ap (λ n. length before + n) (length-map vars Var) in
      record {
        lawful = all_append IsTerm before (map Var vars) front.lawful (vars_lawful vars known);
        short = omega (arith, short, size);
        most = omega (arith, most, size);
        bits = λ e. all_append IsBitTerm before (map Var vars) (front.bits e) (vars_bits vars (wanted_bits b.bits (are_bits p vars) others.1 e));
      }
  front_more b before _ front room (counts z first kept value) =
      let most = not_at_most b.most (length before) (when_kept (leb b.most (length before)) Shape first) in
      let size = length_push before (Const z) in
      record {
        lawful = all_append IsTerm before (Const z ∷ []) front.lawful (value, tt);
        short = omega (arith, room, size);
        most = omega (arith, most, size);
        bits = λ e. all_append IsBitTerm before (Const z ∷ []) (front.bits e) (wanted_number b.bits z kept e, tt);
      }
  front_more b before _ front room (denies v first known bit) =
      let most = not_at_most b.most (length before) (when_kept (leb b.most (length before)) Shape first) in
      let size = length_push before (Not v) in
      record {
        lawful = all_append IsTerm before (Not v ∷ []) front.lawful ((known, bit), tt);
        short = omega (arith, room, size);
        most = omega (arith, most, size);
        bits = λ e. all_append IsBitTerm before (Not v ∷ []) (front.bits e) (bit, tt);
      }

  vector_of : (b : Bounds) (terms : List Term) → IsFront b terms → at_enough b (length terms) ≡ None → IsVector b terms
  vector_of b terms front kept = record {
    lawful = front.lawful;
    short = front.short;
    least = not_less (length terms) b.least (when_kept (ltb (length terms) b.least) Shape kept);
    most = front.most;
    bits = front.bits;
  }

  items_vector : IsLawful p → (b : Bounds) (l : Items Entry) (before : List Term) → IsFront b before → length before < PLACES → breaks_items (list_judge p b) l before ≡ [] → AreFair (spell_items CloseSquare spell_entry l) → IsVector b (value_items (list_judge p b) listed_terms l before)
  items_vector lawful b (final e) before front room kept fair =
      let v : Placed = value_entry p (in_list p b before) e in
      let parts = part_kept (length (spell_entry e)) (breaks_entry p (in_list p b before) e) (on (lesser (as_kind v.behind) (at_enough b (length (before ++ v.terms))))) kept in
      let closed = lesser_kept (as_kind v.behind) (at_enough b (length (before ++ v.terms))) (on_kept _ parts.1) in
      let comes = entry_comes lawful (in_list p b before) e parts.0 (as_kind_kept v.behind closed.0) (all_front IsFairToken (spell_entry e) (mark CloseSquare ∷ []) fair) in
      vector_of b (before ++ v.terms) (front_more b before v.terms front room comes) closed.1
  items_vector lawful b (also e l) before front room kept fair =
      let v : Placed = value_entry p (in_list p b before) e in
      let n = length (before ++ v.terms) in
      let comma = lesser (as_kind v.behind) (at_more b n) in
      let parts = part_kept (length (spell_entry e)) (breaks_entry p (in_list p b before) e) (on comma ++ behind 1 (breaks_items (list_judge p b) l (before ++ v.terms))) kept in
      let later = token_kept comma 1 (breaks_items (list_judge p b) l (before ++ v.terms)) parts.1 in
      let ends = lesser_kept (as_kind v.behind) (at_more b n) later.0 in
      let more = lesser_kept (when (leb PLACES n) (Limit OfVector)) (when (leb b.most n) Shape) ends.1 in
      let comes = entry_comes lawful (in_list p b before) e parts.0 (as_kind_kept v.behind ends.0) (all_front IsFairToken (spell_entry e) (mark Comma ∷ spell_items CloseSquare spell_entry l) fair) in
      let rest = all_back IsFairToken (spell_entry e) (mark Comma ∷ spell_items CloseSquare spell_entry l) fair in
      items_vector lawful b l (before ++ v.terms) (front_more b before v.terms front room comes) (not_at_most PLACES n (when_kept (leb PLACES n) (Limit OfVector) more.0)) later.1 rest.1

  pub no_front : (b : Bounds) → IsFront b []
  no_front b = record { lawful = tt; short = omega arith; most = omega arith; bits = λ e. tt }

  pub list_vector : IsLawful p → (b : Bounds) (l : Option (Items Entry)) → breaks_list p b l ≡ [] → AreFair (spell_list l) → IsVector b (value_list p b l)
  list_vector lawful b None kept fair = vector_of b [] (no_front b) (on_kept (at_enough b 0) kept)
  list_vector lawful b (Some l) kept fair = items_vector lawful b l [] (no_front b) (omega arith) kept fair

  -- so a vector that breaks nothing is one that is wanted
  pub vector_good : IsLawful p → (b : Bounds) (v : Vector) → breaks_vector p b v ≡ [] → (value_vector p b v).behind ≡ None → AreFair (spell_vector v) → IsVector b (value_vector p b v).terms
  vector_good lawful b (whole r) kept ends fair =
      let good = ref_good p lawful (a_vector p b) r kept in
      let vars = (value_ref p (a_vector p b) r).vars in
      let bits = b.bits && not (are_bits p vars) in
      let all = end_kept (ltb PLACES (length vars)) (good.full || ltb (length vars) b.least || ltb b.most (length vars) || bits) (good.ends ∙ ends) in
      let parts = or_parts (good.full || ltb (length vars) b.least || ltb b.most (length vars)) bits all.1 in
      let few = or_parts (good.full || ltb (length vars) b.least) (ltb b.most (length vars)) parts.0 in
      let enough = or_parts good.full (ltb (length vars) b.least) few.0 in
      let short = not_less PLACES (length vars) all.0 in
      let least = not_less (length vars) b.least enough.1 in
      let most = not_less b.most (length vars) few.1 in
      let size = length-map vars Var in
      record {
        lawful = vars_lawful vars good.known;
        short = omega (arith, short, size);
        least = omega (arith, least, size);
        most = omega (arith, most, size);
        bits = λ e. vars_bits vars (wanted_bits b.bits (are_bits p vars) parts.1 e);
      }
  vector_good lawful b (listed l) kept ends fair = list_vector lawful b l (behind_kept 1 (breaks_list p b l) kept) fair.1
