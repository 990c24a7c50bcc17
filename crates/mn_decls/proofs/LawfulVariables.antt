-- Declarations and aliases that break nothing are lawful in the model, and so is a problem with them.
use Rattle.std.proofs.Common.{◌≡◌, ℕ, ◌+◌, ◌*◌, ◌≤◌, ℤ, pos, ◌+ℤ◌, ◌*ℤ◌, ◌≤ℤ◌, int_lt, leb, Bool, true, false, List, [], ◌∷◌, ◌++◌, length, Option, Some, None, is_some, nat_abs, refl, sym, ap, ◌∙◌, subst, arith}
use Rattle.std.specs.List.{AllByRecursion}
use Rattle.std.proofs.lemmas.Bool.{or_parts}
use Rattle.std.proofs.lemmas.Int.{ints}
use Rattle.mn_lexer.specs.Forms.{IsWord}
use Rattle.mn_lexer.specs.Terminals.{mark, word}
use Rattle.mn_lexer.specs.declared.marks.Mark.TheVariants.{CloseCurly, CloseSquare, Comma}
use Rattle.mn_grammar.specs.Lists.{Items, final, also, spell_items, breaks_items, value_items}
use Rattle.mn_grammar.specs.Places.{on, behind}
use Rattle.mn_grammar.specs.Tokens.{is_name}
use Rattle.mn_grammar.specs.declared.Kind.TheVariants as kinds
use Rattle.mn_grammar.specs.declared.Limit.TheVariants as limits
use Rattle.mn_grammar.proofs.Steps.{on_kept}
use Rattle.mn_model.specs.Domain.{Ascends, IsDomain, IsValue}
use Rattle.mn_model.specs.Lawful.{IsLawful, SuitsKind}
use Rattle.mn_model.specs.Problem.{Problem, aliased_as, declared_as, size_of_dims, variable_count}
use Rattle.mn_model.specs.Variable.{variable}
use Rattle.mn_model.specs.declared.limits.TheConstants.{SPAN, VARIABLES}
use Rattle.mn_model.specs.declared.variable.Kind as variables
use Rattle.mn_model.specs.declared.variable.Kind.TheVariants.{Binary, Bounded, Sparse, Discrete}
use Rattle.mn_model.proofs.Kept.{IsLawful-alias, IsLawful-declare}
use Rattle.mn_model.proofs.Lists.{all_back, all_front, all_push}
use Rattle.mn_model.proofs.Stretches.{IsDomain-stretch}
use Rattle.mn_cursor.specs.declared.heads.Head.{Head}
use Rattle.mn_cursor.proofs.Fair.{is_a_name}
use Rattle.mn_references.specs.Conditions.{as_kind, lesser}
use Rattle.mn_references.specs.References.{Ref, breaks_ref, one_place, value_ref}
use Rattle.mn_references.specs.declared.want.Unfit.{Unfit}
use Rattle.mn_references.proofs.LawfulVectors.{IsFairToken, AreFair}
use Rattle.mn_references.proofs.Unbroken.{token_kept, part_kept, behind_kept, lesser_kept, not_at_most, when_kept}
use Rattle.mn_decls.specs.Aliases.{breaks_nest, with_nest}
use Rattle.mn_decls.specs.Variables.{Part, one_value, range, Declaration, Written, Declaring, Entry, declares, names, Target, of_var, of_matrix, alias_dim, alias_dims_judge, breaks_behind, breaks_dims, breaks_domain, breaks_entries, breaks_entry, breaks_matrix, breaks_part, breaks_target, declared, dims_judge, dims_of, domain_of, ends_of_part, fair_dim, fair_end, fair_first, fair_last, is_past_span, matrix_dims, named, new_name, parts_judge, room_for_one, spell_declarations, spell_dims, spell_domain, spell_entry, spell_number, spell_part, value_entries, value_entry, with_alias_by, with_dim, with_part, with_range}
use Rattle.mn_decls.proofs.LawfulAliases.{matrix_kept, one_kept}
use Rattle.mn_decls.proofs.LawfulTuples.{none_there}
use Rattle.mn_decls.proofs.Ranges.{range_ascends, range_some, range_values, size_more}
use Rattle.mn_decls.proofs.TupleListSteps.{at_least, if_none}
use Rattle.mn_decls.proofs.VariableSteps.{is_short}

-- 1. Dimensions are at least 1
abbrev IsDim : ℕ → Type 0
IsDim dim = 1 ≤ dim

module _ (p : Problem) where
  -- and there is room for the variables that they make
  record AreFairDims (dims : List ℕ) : Type 0 where
    shaped : AllByRecursion IsDim dims
    room : variable_count p.decls + size_of_dims dims ≤ VARIABLES

  dim_added : (before : List ℕ) (z : ℤ) → AllByRecursion IsDim before → fair_dim p before z ≡ None → AreFairDims (with_dim before z)
  dim_added before z all fair =
      let parts = if_none (int_lt z (pos 1)) kinds.Shape _ fair in
      let least = at_least z parts.0 in
      let within = when_kept _ (kinds.Limit limits.Variables) parts.1 in
      let size = size_more before (nat_abs z) in
      let counted : pos (variable_count p.decls) +ℤ pos (size_of_dims before) *ℤ z ≡ pos (variable_count p.decls + size_of_dims before * least.0) = ap (λ y. pos (variable_count p.decls) +ℤ pos (size_of_dims before) *ℤ y) least.1 in
      let same : size_of_dims before * nat_abs z ≡ size_of_dims before * least.0 = ap (λ n. size_of_dims before * n) least.2 in
      record {
        shaped = all_push IsDim before (nat_abs z) all (subst IsDim (sym least.2) least.3);
        room = fits (pos (variable_count p.decls) +ℤ pos (size_of_dims before) *ℤ z) (size_of_dims before * least.0) counted within (size ∙ same);
      }
    where
      fits : (all : ℤ) (m : ℕ) → all ≡ pos (variable_count p.decls + m) → int_lt (pos VARIABLES) all ≡ false → size_of_dims (with_dim before z) ≡ m → variable_count p.decls + size_of_dims (with_dim before z) ≤ VARIABLES
      fits all m is within size = omega (arith, ints, is, within, size)

  dims_kept : (l : Items ℤ) (before : List ℕ) → AllByRecursion IsDim before → breaks_items (dims_judge p) l before ≡ [] → AreFairDims (value_items (dims_judge p) with_dim l before)
  dims_kept (final z) before all kept = dim_added before z all (on_kept (fair_dim p before z) (part_kept 1 (on (fair_dim p before z)) (on None) kept).0)
  dims_kept (also z l) before all kept =
      let parts = token_kept (fair_dim p before z) 1 (on None ++ behind 1 (breaks_items (dims_judge p) l (with_dim before z))) kept in
      dims_kept l (with_dim before z) (dim_added before z all parts.0).shaped (behind_kept 1 (breaks_items (dims_judge p) l (with_dim before z)) parts.1)

  some_dims : (o : Option (Items ℤ)) → variable_count p.decls + 1 ≤ VARIABLES → breaks_dims p o ≡ [] → AreFairDims (dims_of p o)
  some_dims None one kept = record { shaped = tt; room = one }
  some_dims (Some l) one kept = dims_kept l [] tt (behind_kept 1 (breaks_items (dims_judge p) l []) kept)

-- those of an alias
alias_dim_kept : (z : ℤ) → alias_dim z ≡ None → IsDim (nat_abs z)
alias_dim_kept z fair = let least = at_least z (when_kept _ kinds.Shape fair) in subst IsDim (sym least.2) least.3

alias_dims_kept : (l : Items ℤ) (before : List ℕ) → AllByRecursion IsDim before → breaks_items alias_dims_judge l before ≡ [] → AllByRecursion IsDim (value_items alias_dims_judge with_dim l before) × (1 ≤ length (value_items alias_dims_judge with_dim l before))
alias_dims_kept (final z) before all kept =
    let fair = alias_dim_kept z (on_kept (alias_dim z) (part_kept 1 (on (alias_dim z)) (on None) kept).0) in
    (all_push IsDim before (nat_abs z) all fair, filled before)
  where
    filled : (dims : List ℕ) → 1 ≤ length (dims ++ nat_abs z ∷ [])
    filled [] = omega arith
    filled (dim ∷ dims) = omega arith
alias_dims_kept (also z l) before all kept =
    let parts = token_kept (alias_dim z) 1 (on None ++ behind 1 (breaks_items alias_dims_judge l (with_dim before z))) kept in
    alias_dims_kept l (with_dim before z) (all_push IsDim before (nat_abs z) all (alias_dim_kept z parts.0)) (behind_kept 1 (breaks_items alias_dims_judge l (with_dim before z)) parts.1)

-- 2. Domains
record IsFairDomain (k : variables.Kind) (values : List ℤ) : Type 0 where
  domain : IsDomain values
  suits : SuitsKind k values

ordered : (limited : Bool) (lo hi : ℤ) → fair_end limited lo hi ≡ None → lo ≤ℤ hi
ordered limited lo hi fair = let parts = if_none (int_lt hi lo) kinds.EmptyDomain _ fair in let up = parts.0 in omega (arith, ints, up)

-- values that rise, with a part
record AreRising (values : List ℤ) : Type 0 where
  ascends : Ascends values
  valued : AllByRecursion IsValue values

record AreParted (values : List ℤ) : Type 0 where
  rising : AreRising values
  filled : values ≡ [] → ⊥
  few : length values ≤ SPAN

with_ends : (values : List ℤ) (lo hi : ℤ) → AreRising values → IsValue lo → IsValue hi → lo ≤ℤ hi → is_past_span (with_range values lo hi) ≡ false → AreParted (with_range values lo hi)
with_ends values lo hi rising low high up within = record {
  rising = record { ascends = range_ascends values lo hi up rising.ascends; valued = range_values values lo hi up low high rising.valued };
  filled = λ none. range_some values lo hi none;
  few = short (with_range values lo hi) within;
}
  where
    short : (all : List ℤ) → is_past_span all ≡ false → length all ≤ SPAN
    short all e = omega (arith, ints, e)

part_added : (values : List ℤ) (x : Part) → AreRising values → breaks_part values x ≡ [] → AreFair (spell_part x) → AreParted (with_part values (ends_of_part x))
part_added values (one_value a) rising kept fair =
    with_ends values a a rising fair.0 fair.0 (omega (arith, ints)) (when_kept _ (kinds.Limit limits.Span) (on_kept (fair_first values a) kept))
part_added values (range a b) rising kept fair =
    let last = if_none (int_lt b a) kinds.EmptyDomain _ (on_kept (fair_last values a b) (token_kept (fair_first values a) 2 (on (fair_last values a b)) kept).1) in
    let up = last.0 in
    with_ends values a b rising fair.0 fair.1.1.0 (omega (arith, ints, up)) (when_kept _ (kinds.Limit limits.Span) last.1)

parts_kept : (l : Items Part) (values : List ℤ) → AreRising values → breaks_items parts_judge l values ≡ [] → AreFair (spell_items CloseCurly spell_part l) → AreParted (value_items parts_judge with_part l values)
parts_kept (final x) values rising kept fair =
    part_added values x rising (part_kept (length (spell_part x)) (breaks_part values x) (on None) kept).0 (all_front IsFairToken (spell_part x) (mark CloseCurly ∷ []) fair)
parts_kept (also x l) values rising kept fair =
    let after : List ℤ = with_part values (ends_of_part x) in
    let parts = part_kept (length (spell_part x)) (breaks_part values x) (on None ++ behind 1 (breaks_items parts_judge l after)) kept in
    let added = part_added values x rising parts.0 (all_front IsFairToken (spell_part x) (mark Comma ∷ spell_items CloseCurly spell_part l) fair) in
    parts_kept l after added.rising (behind_kept 1 (breaks_items parts_judge l after) parts.1) (all_back IsFairToken (spell_part x) (mark Comma ∷ spell_items CloseCurly spell_part l) fair).1

domain_kept : (k : variables.Kind) (d : Written k) → breaks_domain k d ≡ [] → AreFair (spell_domain k d) → IsFairDomain k (domain_of k d)
domain_kept Binary d kept fair = record { domain = IsDomain-stretch (pos 0) (pos 1) (omega (arith, ints)) (omega (arith, ints), omega (arith, ints)) (omega (arith, ints), omega (arith, ints)); suits = refl }
domain_kept Bounded d kept fair =
    let up = ordered false d.0 d.1 (on_kept (fair_end false d.0 d.1) (behind_kept 3 (on (fair_end false d.0 d.1)) kept)) in
    record { domain = IsDomain-stretch d.0 d.1 up fair.1.0 fair.1.1.1.0; suits = (d.0, d.1, refl) }
domain_kept Sparse None kept fair = absurd cc
domain_kept Sparse (Some l) kept fair =
    let are = parts_kept l [] (record { ascends = tt; valued = tt }) (behind_kept 1 (breaks_items parts_judge l []) kept) fair.1 in
    record { domain = record { filled = are.filled; ascends = are.rising.ascends; valued = are.rising.valued }; suits = are.few }
domain_kept Discrete d kept fair =
    let end = on_kept (fair_end true d.0 d.1) (behind_kept 3 (on (fair_end true d.0 d.1)) kept) in
    record { domain = IsDomain-stretch d.0 d.1 (ordered true d.0 d.1 end) fair.1.0 fair.1.1.1.0; suits = (d.0, d.1, refl, is_short d.0 d.1 end) }

-- 3. One declaration or alias more
new_kept : (p : Problem) (name : List ℕ) → new_name p name ≡ None → (declared_as p.decls name ≡ None) × (aliased_as p.aliases name ≡ None)
new_kept p name kept =
    let parts = or_parts (is_some (declared_as p.decls name)) (is_some (aliased_as p.aliases name)) (when_kept _ kinds.Name kept) in
    (none_there (declared_as p.decls name) parts.0, none_there (aliased_as p.aliases name) parts.1)

room_left : (p : Problem) → room_for_one p ≡ None → variable_count p.decls + 1 ≤ VARIABLES
room_left p kept = let less = when_kept _ (kinds.Limit limits.Variables) kept in not_full (variable_count p.decls) less
  where
    not_full : (n : ℕ) → leb VARIABLES n ≡ false → n + 1 ≤ VARIABLES
    not_full n e = let less = not_at_most VARIABLES n e in omega (arith, less)

module _ (p : Problem) (lawful : IsLawful p) where
  declaration_added : (d : Declaration) → room_for_one p ≡ None → breaks_behind p d ≡ [] → AreFair (word d.name.bytes ∷ spell_dims d.dims ++ spell_domain d.kind d.domain) → IsLawful (declared p d)
  declaration_added d one kept fair =
      let first = token_kept (new_name p d.name.bytes) 1 (breaks_dims p d.dims ++ behind (length (spell_dims d.dims)) (breaks_domain d.kind d.domain)) kept in
      let new = new_kept p d.name.bytes first.0 in
      let parts = part_kept (length (spell_dims d.dims)) (breaks_dims p d.dims) (breaks_domain d.kind d.domain) first.1 in
      let dims = some_dims p d.dims (room_left p one) parts.0 in
      let domain = domain_kept d.kind d.domain parts.1 (all_back IsFairToken (spell_dims d.dims) (spell_domain d.kind d.domain) fair.1) in
      IsLawful-declare p (record { name = d.name.bytes; dims = dims_of p d.dims; kind = d.kind; domain = domain_of d.kind d.domain; first = variable (variable_count p.decls) }) lawful
      (record { named = is_a_name d.name.bytes fair.0 d.name.lawful; shaped = dims.shaped; domain = domain.domain; suits = domain.suits })
      new.0 new.1 refl dims.room

  -- an alias whose end is broken isn't added
  one_added : (name : List ℕ) (r : Ref) (behind : Option Unfit) → behind ≡ (value_ref p (one_place p false) r).behind → IsWord name → is_name name ≡ true → new_name p name ≡ None → breaks_ref p (one_place p false) r ≡ [] → IsLawful (with_alias_by behind p name (value_ref p (one_place p false) r).vars)
  one_added name r (Some u) is form fair new kept = lawful
  one_added name r None is form fair new kept =
      let free = new_kept p name new in
      IsLawful-alias p (record { name = name; dims = []; vars = (value_ref p (one_place p false) r).vars }) lawful (one_kept p lawful name r (is_a_name name form fair) kept (sym is)) free.0 free.1

  target_added : (name : List ℕ) (t : Target) → IsWord name → is_name name ≡ true → new_name p name ≡ None → breaks_target p t ≡ [] → IsLawful (named p name t).problem
  target_added name (of_var r) form fair new kept =
      one_added name r (value_ref p (one_place p false) r).behind refl form fair new (behind_kept 1 (breaks_ref p (one_place p false) r) kept)
  target_added name (of_matrix l n) form fair new kept =
      let free = new_kept p name new in
      let parts = part_kept (length (spell_items CloseSquare spell_number l)) (breaks_items alias_dims_judge l []) (behind 1 (breaks_nest p n (matrix_dims l))) (behind_kept 1 (breaks_matrix p l n) kept) in
      let dims = alias_dims_kept l [] tt parts.0 in
      IsLawful-alias p (record { name = name; dims = matrix_dims l; vars = with_nest p n [] }) lawful
      (matrix_kept p lawful name (matrix_dims l) n (is_a_name name form fair) dims.0 dims.1 (behind_kept 1 (breaks_nest p n (matrix_dims l)) parts.1)) free.0 free.1

entry_added : (s : Declaring) → IsLawful s.problem → (e : Entry) → breaks_entry s e ≡ [] → AreFair (spell_entry e) → IsLawful (value_entry s e).problem
entry_added s lawful (declares d) kept fair =
    let parts = token_kept (lesser (as_kind s.behind) (room_for_one s.problem)) 1 (breaks_behind s.problem d) kept in
    declaration_added s.problem lawful d (lesser_kept (as_kind s.behind) (room_for_one s.problem) parts.0).1 parts.1 fair.1
entry_added s lawful (names a) kept fair =
    let parts = token_kept (as_kind s.behind) 1 (on (new_name s.problem a.name.bytes) ++ behind 1 (breaks_target s.problem a.target)) kept in
    let name = token_kept (new_name s.problem a.name.bytes) 1 (breaks_target s.problem a.target) parts.1 in
    target_added s.problem lawful a.name.bytes a.target fair.1.0 a.name.lawful name.0 name.1

-- 4. So is the problem behind all of them
pub entries_lawful : (s : Declaring) → IsLawful s.problem → (es : List Entry) (h : Head) → breaks_entries s es ≡ [] → AreFair (spell_declarations es h) → IsLawful (value_entries s es).problem
entries_lawful s lawful [] h kept fair = lawful
entries_lawful s lawful (e ∷ es) h kept fair =
    let parts = part_kept (length (spell_entry e)) (breaks_entry s e) (breaks_entries (value_entry s e) es) kept in
    entries_lawful (value_entry s e) (entry_added s lawful e parts.0 (all_front IsFairToken (spell_entry e) (spell_declarations es h) fair)) es h parts.1
    (all_back IsFairToken (spell_entry e) (spell_declarations es h) fair)
