-- The reader of the section of variables is lawful.
use Rattle.std.proofs.Common.{◌≡◌, ◌∙◌, ◌⊎◌, ℕ, ℤ, pos, Bool, true, false, ◌||◌, ◌&&◌, List, [], ◌∷◌, ◌++◌, length, codes, Option, Some, None, is_some, refl, sym, ap, subst, inl, inr, append-nil, int_lt, leb}
use Rattle.mn_lexer.specs.Terminals.{Terminal, number, mark}
use Rattle.mn_lexer.specs.declared.marks.Mark.{Mark}
use Rattle.mn_lexer.specs.declared.marks.Mark.TheVariants.{OpenSquare, CloseSquare, OpenCurly, CloseCurly, Dots}
use Rattle.mn_grammar.specs.Tokens.{Name, is_mark, is_the_mark}
use Rattle.mn_grammar.specs.Kinds.{is_condition}
use Rattle.mn_grammar.specs.Places.{Break, on, behind}
use Rattle.mn_grammar.specs.Reading.{which_of, name_at, number_at, mark_at, then_read, ret, or_else}
use Rattle.mn_grammar.specs.Lists.{Items, final, spell_items, maybe_at}
use Rattle.mn_grammar.specs.Lawful.{Spec, OnlyMarks, Fits, first, Lawful}
use Rattle.mn_grammar.specs.declared.site.Site.{Site}
use Rattle.mn_grammar.specs.declared.site.Site.TheVariants.{Fixed, Free, MarksOnly}
use Rattle.mn_grammar.specs.declared.Kind.{Kind}
use Rattle.mn_grammar.specs.declared.Kind.TheVariants as kinds
use Rattle.mn_grammar.specs.declared.Limit.TheVariants as limits
use Rattle.mn_grammar.proofs.Breaks.{behind_behind, kind_when}
use Rattle.mn_grammar.proofs.Sites.{is_nil, Fits-marks, Fits-nothing}
use Rattle.mn_grammar.proofs.Marks.{is_no_other, the_mark}
use Rattle.mn_grammar.proofs.Leaves.{nothing, Lawful-one, Lawful-ret}
use Rattle.mn_grammar.proofs.Words.{name_token, a_name_leaf, a_number_leaf, Lawful-name, Lawful-number}
use Rattle.mn_grammar.proofs.Classes.{set_class, either_token, either_value, either_class}
use Rattle.mn_grammar.proofs.Joins.{joined, Join, Lawful-then}
use Rattle.mn_grammar.proofs.Items.{Entries, entry_spec, items_spec, Lawful-items, maybe_spec, Lawful-maybe}
use Rattle.mn_grammar.proofs.Steps.{valued, Lawful-valued, Lawful-leaf_then, mark_then, Lawful-mark_then, mark_last, Lawful-mark_last, optional, Lawful-optional}
use Rattle.mn_grammar.proofs.Views.{IsView, Lawful-view}
use Rattle.mn_grammar.proofs.Loops.{Turns, last, more}
use Rattle.mn_grammar.proofs.Sections.{firsts, body_spec, body_blocks, Lawful-body}
use Rattle.mn_model.specs.Domain.{stretch}
use Rattle.mn_model.specs.Problem.{Problem, declared_as, aliased_as, variable_count}
use Rattle.mn_model.specs.declared.limits.TheConstants.{VARIABLES}
use Rattle.mn_model.specs.declared.variable.Kind as variable
use Rattle.mn_model.specs.declared.variable.Kind.TheVariants.{Binary, Bounded, Sparse, Discrete}
use Rattle.mn_cursor.specs.Added.{with_declaration}
use Rattle.mn_cursor.specs.Heads.{head_token, all_heads, head_of}
use Rattle.mn_cursor.specs.declared.heads.Head.{Head}
use Rattle.mn_cursor.specs.declared.heads.Head.TheVariants as heads
use Rattle.mn_cursor.proofs.HeadTokens.{head_known}
use Rattle.mn_decls.specs.Variables.{Part, one_value, range, Written, Target, Entry, declares, names, spell_number, spell_dims, spell_part, spell_domain, spell_entry, spell_declarations, room_for_one, new_name, fair_dim, fair_end, fair_first, fair_last, is_past_span, with_range, with_dim, dims_judge, ends_of_part, breaks_part, with_part, parts_ends, parts_judge, breaks_dims, dims_of, breaks_domain, domain_of, Declaring, so_far, breaks_entry, value_entry, breaks_entries, value_entries, dim_at, dims_list_at, dims_at, any_number, stretch_at, range_at, part_at, parts_at, domain_at, declaration_at, EntryWord, kind_word, alias_word, entry_token, entry_words, which_word, judge_word, word_at, entry_at, declared_before, entries_at, variables_at, variables_spec}
use Rattle.mn_references.specs.Conditions.{as_kind}
use Rattle.mn_references.proofs.Referable.{as_kind_kinds, lesser_kinds}
use Rattle.mn_decls.proofs.AliasLaw.{alias_spec, alias_law, target_marks}
use Rattle.mn_decls.proofs.TupleListLaw.{kind_if}

-- 1. Kinds of conditions
dim_kinds : (p : Problem) (before : List ℕ) (z : ℤ) (k : Kind) → fair_dim p before z ≡ Some k → is_condition k ≡ true
dim_kinds p before z k e = kind_if (int_lt z (pos 1)) kinds.Shape _ refl (kind_when _ (kinds.Limit limits.Variables) refl) k e

end_kinds : (limited : Bool) (lo z : ℤ) (k : Kind) → fair_end limited lo z ≡ Some k → is_condition k ≡ true
end_kinds limited lo z k e = kind_if (int_lt z lo) kinds.EmptyDomain _ refl (kind_when _ (kinds.Limit limits.Span) refl) k e

first_kinds : (values : List ℤ) (z : ℤ) (k : Kind) → fair_first values z ≡ Some k → is_condition k ≡ true
first_kinds values z k e = kind_when (is_past_span (with_range values z z)) (kinds.Limit limits.Span) refl k e

last_kinds : (values : List ℤ) (a z : ℤ) (k : Kind) → fair_last values a z ≡ Some k → is_condition k ≡ true
last_kinds values a z k e = kind_if (int_lt z a) kinds.EmptyDomain _ refl (kind_when (is_past_span (with_range values a z)) (kinds.Limit limits.Span) refl) k e

name_kinds : (p : Problem) (w : List ℕ) (k : Kind) → new_name p w ≡ Some k → is_condition k ≡ true
name_kinds p w k e = kind_when (is_some (declared_as p.decls w) || is_some (aliased_as p.aliases w)) kinds.Name refl k e

room_kinds : (p : Problem) (k : Kind) → room_for_one p ≡ Some k → is_condition k ≡ true
room_kinds p k e = kind_when (leb VARIABLES (variable_count p.decls)) (kinds.Limit limits.Variables) refl k e

word_kinds : (s : Declaring) (w : EntryWord ⊎ Head) (k : Kind) → judge_word s w ≡ Some k → is_condition k ≡ true
word_kinds s (inl (kind_word v)) k e = lesser_kinds (as_kind s.behind) (room_for_one s.problem) (as_kind_kinds s.behind) (room_kinds s.problem) k e
word_kinds s (inl alias_word) k e = as_kind_kinds s.behind k e
word_kinds s (inr h) k e = as_kind_kinds s.behind k e

-- 2. Dimensions
abbrev pub nothing_goes_on : ℤ → Terminal → Bool
nothing_goes_on z t = false

pub dims_are : (p : Problem) → Entries CloseSquare (dims_judge p) nothing_goes_on Free (pos 0)
dims_are p = record {
  other = refl;
  solid = λ z e. cc;
  marks = λ z t e. refl;
  no_comma = λ z. refl;
  no_shut = λ z. refl;
  comma_kinds = λ s v kind e. cc;
  close_kinds = λ s v kind e. cc;
}

abbrev dims_list_spec : Problem → Spec (Items ℤ) (List ℕ)
dims_list_spec p = items_spec CloseSquare (dims_judge p) nothing_goes_on Free (pos 0) with_dim []

pub dim_law : (p : Problem) (before : List ℕ) → Lawful (entry_spec CloseSquare (dims_judge p) nothing_goes_on Free (pos 0) before) (dim_at p before)
dim_law p before = Lawful-number (fair_dim p before) (dim_kinds p before)

dims_list_law : (p : Problem) → Lawful (dims_list_spec p) (dims_list_at p)
unfolding dims_list_at
dims_list_law p =
    Lawful-items CloseSquare (dims_judge p) nothing_goes_on Free (pos 0) with_dim (dims_are p) (dim_at p)
    (dim_law p) []

abbrev bracketed : Problem → Spec (Items ℤ) (List ℕ)
bracketed p = mark_then OpenSquare None (dims_list_spec p)

abbrev blocks_dims : Option (Items ℤ) → Terminal → Bool
blocks_dims None t = is_the_mark OpenSquare t
blocks_dims (Some l) t = false

abbrev dims_spec : Problem → Site → Spec (Option (Items ℤ)) (List ℕ)
dims_spec p site = record { spell = spell_dims; breaks = breaks_dims p; value = dims_of p; blocks = blocks_dims; start = site; any = None }

abbrev maybe_dims : Problem → Site → Spec (Option (Items ℤ)) (List ℕ)
maybe_dims p site = optional (is_the_mark OpenSquare) (bracketed p) site []

dims_view : (p : Problem) (site : Site) → IsView (maybe_dims p site) (dims_spec p site)
dims_view p site = record {
  onto = λ o. o;
  back = λ o. o;
  again = λ o. refl;
  spell = elim [ None ↦ refl | Some l ↦ refl ];
  breaks = elim [ None ↦ refl | Some l ↦ refl ];
  value = elim [ None ↦ refl | Some l ↦ refl ];
  blocks = elim [ None ↦ λ t. refl | Some l ↦ λ t. refl ];
  start = refl;
}

square_starts : (p : Problem) (t : Terminal) → is_the_mark OpenSquare t ≡ true → (l : Items ℤ) × (q : List Terminal) × ((bracketed p).spell l ≡ t ∷ q)
square_starts p t e = (final (pos 0), number (pos 0) ∷ mark CloseSquare ∷ [], ap (λ u. u ∷ number (pos 0) ∷ mark CloseSquare ∷ []) (sym (the_mark OpenSquare t e)))

dims_law : (p : Problem) (site : Site) → Fits site (is_the_mark OpenSquare) → Lawful (dims_spec p site) (dims_at p)
unfolding dims_at
dims_law p site fits =
    Lawful-view (maybe_dims p site) (dims_spec p site) (dims_view p site) (dims_at p)
    (Lawful-optional (is_the_mark OpenSquare) (bracketed p) site [] (λ l. (mark OpenSquare, spell_items CloseSquare spell_number l, refl, refl)) (square_starts p) fits
    (then_read (mark_at MarksOnly OpenSquare None) (λ u. dims_list_at p))
    (Lawful-mark_then OpenSquare None (λ k e. cc) (dims_list_spec p) (dims_list_at p) (dims_list_law p).sound (λ kept. dims_list_law p)))

-- 3. A stretch
abbrev Stretch : Type 0
Stretch = (lo : ℤ) × ((hi : ℤ) × Unit {0})

abbrev behind_hi : ℤ → ℤ → Spec (Unit {0}) (List ℤ)
behind_hi lo hi = mark_last CloseCurly None (stretch lo hi)

abbrev hi_spec : Bool → ℤ → Spec ((hi : ℤ) × Unit {0}) (List ℤ)
hi_spec limited lo = joined (a_number_leaf (fair_end limited lo)) (behind_hi lo)

abbrev behind_lo : Bool → ℤ → Spec ((hi : ℤ) × Unit {0}) (List ℤ)
behind_lo limited lo = mark_then Dots None (hi_spec limited lo)

abbrev lo_spec : Bool → Spec Stretch (List ℤ)
lo_spec limited = joined (a_number_leaf any_number) (behind_lo limited)

abbrev stretch_spec : Bool → Spec Stretch (List ℤ)
stretch_spec limited = mark_then OpenCurly None (lo_spec limited)

hi_law : (limited : Bool) (lo : ℤ) → Lawful (hi_spec limited lo) (then_read (number_at (fair_end limited lo)) (λ hi. then_read (mark_at MarksOnly CloseCurly None) (λ u. ret (stretch lo hi))))
hi_law limited lo =
    Lawful-leaf_then Free (λ z. number z) (λ z. z) (fair_end limited lo) (pos 0) (number_at (fair_end limited lo)) (behind_hi lo)
    (λ hi. then_read (mark_at MarksOnly CloseCurly None) (λ u. ret (stretch lo hi)))
    (Lawful-number (fair_end limited lo) (end_kinds limited lo)) (λ hi. Lawful-mark_last CloseCurly None (stretch lo hi) (λ k e. cc))

lo_law : (limited : Bool) → Lawful (lo_spec limited) (then_read (number_at any_number) (λ lo. then_read (mark_at MarksOnly Dots None) (λ u. then_read (number_at (fair_end limited lo)) (λ hi. then_read (mark_at MarksOnly CloseCurly None) (λ u. ret (stretch lo hi))))))
lo_law limited =
    Lawful-leaf_then Free (λ z. number z) (λ z. z) any_number (pos 0) (number_at any_number) (behind_lo limited)
    (λ lo. then_read (mark_at MarksOnly Dots None) (λ u. then_read (number_at (fair_end limited lo)) (λ hi. then_read (mark_at MarksOnly CloseCurly None) (λ u. ret (stretch lo hi)))))
    (Lawful-number any_number (λ z k e. cc))
    (λ lo. Lawful-mark_then Dots None (λ k e. cc) (hi_spec limited lo) _ (hi_law limited lo).sound (λ kept. hi_law limited lo))

stretch_law : (limited : Bool) → Lawful (stretch_spec limited) (stretch_at limited)
unfolding stretch_at
stretch_law limited = Lawful-mark_then OpenCurly None (λ k e. cc) (lo_spec limited) _ (lo_law limited).sound (λ kept. lo_law limited)

-- 4. Parts
abbrev pub part_blocks : Part → Terminal → Bool
part_blocks (one_value a) t = is_the_mark Dots t
part_blocks (range a b) t = false

abbrev part_spec : List ℤ → Spec Part (ℤ × ℤ)
part_spec values = entry_spec CloseCurly parts_judge part_blocks Free (one_value (pos 0)) values

abbrev to_spec : List ℤ → ℤ → Spec ℤ (ℤ × ℤ)
to_spec values a = mark_then Dots None (valued (λ b. (a, b)) (a_number_leaf (fair_last values a)))

abbrev maybe_to : List ℤ → ℤ → Spec (Option ℤ) (ℤ × ℤ)
maybe_to values a = optional (is_the_mark Dots) (to_spec values a) MarksOnly (a, a)

dots_start : (values : List ℤ) (a : ℤ) (t : Terminal) → is_the_mark Dots t ≡ true → (b : ℤ) × (q : List Terminal) × ((to_spec values a).spell b ≡ t ∷ q)
dots_start values a t e = (pos 0, number (pos 0) ∷ [], ap (λ u. u ∷ number (pos 0) ∷ []) (sym (the_mark Dots t e)))

to_law : (values : List ℤ) (a : ℤ) → Lawful (to_spec values a) (range_at values a)
to_law values a =
    let law : Lawful {V = ℤ × ℤ} (valued (λ b. (a, b)) (a_number_leaf (fair_last values a))) (then_read (number_at (fair_last values a)) (λ b. ret (a, b))) =
    Lawful-valued (λ b. (a, b)) (a_number_leaf (fair_last values a)) (number_at (fair_last values a)) (Lawful-number (fair_last values a) (last_kinds values a)) in
    Lawful-mark_then Dots None (λ k e. cc) (valued (λ b. (a, b)) (a_number_leaf (fair_last values a))) _ law.sound (λ kept. law)

maybe_to_law : (values : List ℤ) (a : ℤ) → Lawful (maybe_to values a) (or_else (is_the_mark Dots) (range_at values a) (ret (a, a)))
maybe_to_law values a =
    Lawful-optional (is_the_mark Dots) (to_spec values a) MarksOnly (a, a) (λ b. (mark Dots, number b ∷ [], refl, refl)) (dots_start values a) (is_no_other Dots)
    (range_at values a) (to_law values a)

abbrev part_onto : (a : ℤ) × Option ℤ → Part
part_onto (a, None) = one_value a
part_onto (a, Some b) = range a b

abbrev part_back : Part → (a : ℤ) × Option ℤ
part_back (one_value a) = (a, None)
part_back (range a b) = (a, Some b)

abbrev part_pairs : List ℤ → Spec ((a : ℤ) × Option ℤ) (ℤ × ℤ)
part_pairs values = joined (a_number_leaf (fair_first values)) (maybe_to values)

part_again : (x : Part) → part_onto (part_back x) ≡ x
part_again (one_value a) = refl
part_again (range a b) = refl

part_spells : (values : List ℤ) (a : ℤ) (o : Option ℤ) → spell_part (part_onto (a, o)) ≡ (part_pairs values).spell (a, o)
part_spells values a None = refl
part_spells values a (Some b) = refl

part_breaks : (values : List ℤ) (a : ℤ) (o : Option ℤ) → first (breaks_part values (part_onto (a, o))) ≡ first ((part_pairs values).breaks (a, o))
part_breaks values a None = ap first (sym (append-nil (on (fair_first values a))))
part_breaks values a (Some b) = ap (λ l. first (on (fair_first values a) ++ l)) (sym (behind_behind 1 1 (on (fair_last values a b))))

part_values : (values : List ℤ) (a : ℤ) (o : Option ℤ) → ends_of_part (part_onto (a, o)) ≡ (part_pairs values).value (a, o)
part_values values a None = refl
part_values values a (Some b) = refl

part_ends : (values : List ℤ) (a : ℤ) (o : Option ℤ) (t : Terminal) → part_blocks (part_onto (a, o)) t ≡ (part_pairs values).blocks (a, o) t
part_ends values a None t = refl
part_ends values a (Some b) t = refl

pub part_law : (values : List ℤ) → Lawful (part_spec values) (part_at values)
unfolding part_at
part_law values = Lawful-view (part_pairs values) (part_spec values)
    (record {
      onto = part_onto;
      back = part_back;
      again = part_again;
      spell = λ x. part_spells values x.0 x.1;
      breaks = λ x. part_breaks values x.0 x.1;
      value = λ x. part_values values x.0 x.1;
      blocks = λ x t. part_ends values x.0 x.1 t;
      start = refl;
    })
    (part_at values)
    (Lawful-leaf_then Free (λ z. number z) (λ z. z) (fair_first values) (pos 0) (number_at (fair_first values)) (maybe_to values)
    (λ a. or_else (is_the_mark Dots) (range_at values a) (ret (a, a))) (Lawful-number (fair_first values) (first_kinds values)) (maybe_to_law values))

part_solid : (x : Part) → spell_part x ≡ [] → ⊥
part_solid (one_value a) e = cc
part_solid (range a b) e = cc

part_marks : (x : Part) → OnlyMarks (part_blocks x)
part_marks (one_value a) t e = is_no_other Dots t e
part_marks (range a b) t e = refl

part_no_mark : (x : Part) (m : Mark) → is_the_mark Dots (mark m) ≡ false → part_blocks x (mark m) ≡ false
part_no_mark (one_value a) m other = other
part_no_mark (range a b) m other = refl

part_first : (x : Part) (t : Terminal) (q : List Terminal) → spell_part x ≡ t ∷ q → is_the_mark CloseCurly t ≡ false
part_first (one_value a) t q e = let same : number a ≡ t = cc in ap (is_the_mark CloseCurly) (sym same)
part_first (range a b) t q e = let same : number a ≡ t = cc in ap (is_the_mark CloseCurly) (sym same)

pub parts_are : Entries CloseCurly parts_judge part_blocks Free (one_value (pos 0))
parts_are = record {
  other = refl;
  solid = part_solid;
  marks = part_marks;
  no_comma = λ x. part_no_mark x _ refl;
  no_shut = λ x. part_no_mark x _ refl;
  comma_kinds = λ s v kind e. cc;
  close_kinds = λ s v kind e. cc;
}

abbrev inside_spec : Spec (Option (Items Part)) (List ℤ)
inside_spec = maybe_spec CloseCurly parts_judge part_blocks Free (one_value (pos 0)) (Some kinds.EmptyDomain) [] with_part []

inside_law : Lawful inside_spec (maybe_at CloseCurly parts_ends (Some kinds.EmptyDomain) [] with_part part_at [])
inside_law = Lawful-maybe CloseCurly parts_judge part_blocks Free (one_value (pos 0)) (Some kinds.EmptyDomain) [] with_part parts_are part_first empty_kinds [] part_at part_law
  where
    empty_kinds : (kind : Kind) → Some kinds.EmptyDomain ≡ Some kind → is_condition kind ≡ true
    empty_kinds kind e = let same : kinds.EmptyDomain ≡ kind = cc in subst (λ k. is_condition k ≡ true) same refl

abbrev parts_spec : Spec (Option (Items Part)) (List ℤ)
parts_spec = mark_then OpenCurly None inside_spec

parts_law : Lawful parts_spec parts_at
unfolding parts_at
parts_law = Lawful-mark_then OpenCurly None (λ k e. cc) inside_spec _ inside_law.sound (λ kept. inside_law)

-- 5. A domain, by the kind
abbrev Inner : variable.Kind → Type 0
Inner Binary = Unit {0}
Inner Bounded = Stretch
Inner Sparse = Option (Items Part)
Inner Discrete = Stretch

abbrev inner_spec : (k : variable.Kind) → Spec (Inner k) (List ℤ)
inner_spec Binary = nothing Fixed (stretch (pos 0) (pos 1))
inner_spec Bounded = stretch_spec false
inner_spec Sparse = parts_spec
inner_spec Discrete = stretch_spec true

inner_law : (k : variable.Kind) → Lawful (inner_spec k) (domain_at k)
unfolding domain_at
inner_law Binary = Lawful-ret Fixed (stretch (pos 0) (pos 1))
inner_law Bounded = stretch_law false
inner_law Sparse = parts_law
inner_law Discrete = stretch_law true

abbrev site_of : variable.Kind → Site
site_of Binary = Fixed
site_of Bounded = MarksOnly
site_of Sparse = MarksOnly
site_of Discrete = MarksOnly

square_fits : (k : variable.Kind) → Fits (site_of k) (is_the_mark OpenSquare)
square_fits Binary = (refl, refl)
square_fits Bounded = is_no_other OpenSquare
square_fits Sparse = is_no_other OpenSquare
square_fits Discrete = is_no_other OpenSquare

abbrev some_domain : (k : variable.Kind) → Written k
some_domain Binary = tt
some_domain Bounded = (pos 0, pos 0)
some_domain Sparse = None
some_domain Discrete = (pos 0, pos 0)

abbrev domain_spec : (k : variable.Kind) → Spec (Written k) (List ℤ)
domain_spec k = record { spell = spell_domain k; breaks = breaks_domain k; value = domain_of k; blocks = λ d t. false; start = site_of k; any = some_domain k }

third : (c : Option Kind) → behind 3 (on c) ≡ behind 1 (behind 1 (behind 1 (on c ++ [])))
third None = refl
third (Some k) = refl

domain_law : (k : variable.Kind) → Lawful (domain_spec k) (domain_at k)
domain_law Binary = Lawful-view (inner_spec Binary) (domain_spec Binary)
    (record { onto = λ u. u; back = λ u. u; again = λ u. refl; spell = λ u. refl; breaks = λ u. refl; value = λ u. refl; blocks = λ u t. refl; start = refl })
    (domain_at Binary) (inner_law Binary)
domain_law Bounded = Lawful-view (inner_spec Bounded) (domain_spec Bounded)
    (record { onto = λ d. (d.0, d.1.0); back = λ d. (d.0, (d.1, tt)); again = λ d. refl; spell = λ d. refl; breaks = λ d. ap first (third (fair_end false d.0 d.1.0)); value = λ d. refl; blocks = λ d t. refl; start = refl })
    (domain_at Bounded) (inner_law Bounded)
domain_law Sparse = Lawful-view (inner_spec Sparse) (domain_spec Sparse)
    (record { onto = λ d. d; back = λ d. d; again = λ d. refl; spell = λ d. refl; breaks = λ d. refl; value = λ d. refl; blocks = λ d t. refl; start = refl })
    (domain_at Sparse) (inner_law Sparse)
domain_law Discrete = Lawful-view (inner_spec Discrete) (domain_spec Discrete)
    (record { onto = λ d. (d.0, d.1.0); back = λ d. (d.0, (d.1, tt)); again = λ d. refl; spell = λ d. refl; breaks = λ d. ap first (third (fair_end true d.0 d.1.0)); value = λ d. refl; blocks = λ d t. refl; start = refl })
    (domain_at Discrete) (inner_law Discrete)

domain_first : (k : variable.Kind) (d : Written k) (t : Terminal) (q : List Terminal) → spell_domain k d ≡ t ∷ q → is_the_mark OpenSquare t ≡ false
domain_first Binary d t q e = cc
domain_first Bounded d t q e = let same : mark OpenCurly ≡ t = cc in ap (is_the_mark OpenSquare) (sym same)
domain_first Sparse d t q e = let same : mark OpenCurly ≡ t = cc in ap (is_the_mark OpenSquare) (sym same)
domain_first Discrete d t q e = let same : mark OpenCurly ≡ t = cc in ap (is_the_mark OpenSquare) (sym same)

-- 6. What stands behind a kind's word
abbrev ended : Problem → List ℕ → (k : variable.Kind) → List ℕ → Spec (Written k) Problem
ended p w k dims = valued (λ values. with_declaration p w dims k values) (domain_spec k)

abbrev behind_name : Problem → List ℕ → (k : variable.Kind) → Spec ((o : Option (Items ℤ)) × Written k) Problem
behind_name p w k = joined (dims_spec p (site_of k)) (λ o. ended p w k (dims_of p o))

abbrev pub item : Problem → (k : variable.Kind) → Spec ((n : Name) × ((o : Option (Items ℤ)) × Written k)) Problem
item p k = joined (a_name_leaf (new_name p)) (λ n. behind_name p n.bytes k)

join : (p : Problem) (w : List ℕ) (k : variable.Kind) → Join (dims_spec p (site_of k)) (λ o. ended p w k (dims_of p o))
join p w k = record {
  apart = apart;
  fits = fits;
  starts = λ o e. refl;
}
  where
    apart : (o : Option (Items ℤ)) (d : Written k) (t : Terminal) (q : List Terminal) → spell_domain k d ≡ t ∷ q → blocks_dims o t ≡ false
    apart None d t q e = domain_first k d t q e
    apart (Some l) d t q e = refl

    fits : (o : Option (Items ℤ)) → Fits (site_of k) (blocks_dims o)
    fits None = square_fits k
    fits (Some l) = Fits-nothing (site_of k)

behind_name_law : (p : Problem) (w : List ℕ) (k : variable.Kind) → Lawful (behind_name p w k) (then_read (dims_at p) (λ dims. then_read (domain_at k) (λ values. ret (with_declaration p w dims k values))))
behind_name_law p w k =
    Lawful-then (dims_spec p (site_of k)) (λ o. ended p w k (dims_of p o)) (join p w k) (dims_at p) (λ dims. then_read (domain_at k) (λ values. ret (with_declaration p w dims k values)))
    (dims_law p (site_of k) (square_fits k)) (λ o. (ended_law (dims_of p o)).sound) (λ o kept. ended_law (dims_of p o))
  where
    ended_law : (dims : List ℕ) → Lawful (ended p w k dims) (then_read (domain_at k) (λ values. ret (with_declaration p w dims k values)))
    ended_law dims = Lawful-valued (λ values. with_declaration p w dims k values) (domain_spec k) (domain_at k) (domain_law k)

pub item_law : (p : Problem) (k : variable.Kind) → Lawful (item p k) (declaration_at p k)
unfolding declaration_at
item_law p k =
    Lawful-leaf_then Free name_token (λ n. n.bytes) (new_name p) (record { bytes = codes "a"; lawful = refl }) (name_at (new_name p)) (λ n. behind_name p n.bytes k)
    (λ name. then_read (dims_at p) (λ dims. then_read (domain_at k) (λ values. ret (with_declaration p name dims k values))))
    (Lawful-name (new_name p) (name_kinds p)) (λ n. behind_name_law p n.bytes k)

-- 7. An entry's word or a head
abbrev first_token : EntryWord ⊎ Head → Terminal
first_token = either_token entry_token head_token

words_known : (w : EntryWord) → which_of entry_token entry_words (entry_token w) ≡ Some w
words_known (kind_word Binary) = refl
words_known (kind_word Bounded) = refl
words_known (kind_word Sparse) = refl
words_known (kind_word Discrete) = refl
words_known alias_word = refl

no_word : (h : Head) → which_of entry_token entry_words (head_token h) ≡ None
no_word heads.Variables = refl
no_word heads.TupleList = refl
no_word heads.Search = refl
no_word heads.Constraints = refl
no_word heads.End = refl

abbrev Rest : variable.Kind → Type 0
Rest k = (n : Name) × ((o : Option (Items ℤ)) × Written k)

abbrev EntryRest : EntryWord → Type 0
EntryRest (kind_word k) = Rest k
EntryRest alias_word = (n : Name) × Target

abbrev pub rest_spec : Declaring → (w : EntryWord) → Spec (EntryRest w) Declaring
rest_spec s (kind_word k) = valued so_far (item s.problem k)
rest_spec s alias_word = alias_spec s.problem

pub rest_law : (s : Declaring) (w : EntryWord) → Lawful (rest_spec s w) (entry_at s w)
unfolding entry_at
rest_law s (kind_word k) = Lawful-valued so_far (item s.problem k) (declaration_at s.problem k) (item_law s.problem k)
rest_law s alias_word = alias_law s.problem (name_kinds s.problem)

word_law : (s : Declaring) → Lawful (firsts Fixed first_token (λ w. w) judge_word heads.End rest_spec declared_before s) (word_at s)
unfolding word_at
word_law s = Lawful-one Fixed first_token (either_value (λ w. w) (λ h. h)) which_word (judge_word s) (inr heads.End) (record {
  class = either_class entry_token (λ w. w) (which_of entry_token entry_words) head_token (λ h. h) head_of (set_class entry_token entry_words words_known) (set_class head_token all_heads head_known) no_word;
  is_site = ((refl, refl), (head_token heads.End, refl, refl));
  kinds = word_kinds s;
})

-- 8. The section
abbrev after : (s : Declaring) → (w : EntryWord) × EntryRest w → Declaring
after s y = (rest_spec s y.0).value y.1

abbrev Trees : Declaring → Type 0
Trees s = Turns (λ z. (w : EntryWord) × EntryRest w) (λ z. Head) after s

abbrev body : (s : Declaring) → Spec (Trees s) (Problem × Head)
body s = body_spec Fixed first_token (λ w. w) judge_word heads.End rest_spec declared_before s

declaration_marks : (o : Option (Items ℤ)) (d : List Terminal) → OnlyMarks (λ t. (blocks_dims o t && is_nil d) || false)
declaration_marks None d t e = ap (λ b. (b && is_nil d) || false) (is_no_other OpenSquare t e)
declaration_marks (Some l) d t e = refl

entry_marks : (s : Declaring) (w : EntryWord) (y : EntryRest w) → OnlyMarks ((rest_spec s w).blocks y)
entry_marks s (kind_word k) y = declaration_marks y.1.0 (spell_domain k y.1.1)
entry_marks s alias_word y = target_marks s.problem y.0.bytes y.1

no_mark : (x : EntryWord ⊎ Head) → is_mark (first_token x) ≡ false
no_mark (inl (kind_word k)) = refl
no_mark (inl alias_word) = refl
no_mark (inr h) = refl

body_law : (s : Declaring) → Lawful (body s) (entries_at s)
unfolding entries_at
body_law s = Lawful-body Fixed first_token (λ w. w) judge_word heads.End rest_spec declared_before
    (record {
      apart = λ z w y x. entry_marks z w y (first_token x) (no_mark x);
      fits = λ z w y. Fits-marks Fixed ((rest_spec z w).blocks y) (entry_marks z w y);
    })
    word_at entry_at word_law rest_law s

-- 9. The same trees as they are published
abbrev entry_of : (w : EntryWord) → EntryRest w → Entry
entry_of (kind_word k) y = declares (record { kind = k; name = y.0; dims = y.1.0; domain = y.1.1 })
entry_of alias_word y = names (record { name = y.0; target = y.1 })

abbrev rest_of : Entry → (w : EntryWord) × EntryRest w
rest_of (declares d) = (kind_word d.kind, (d.name, (d.dims, d.domain)))
rest_of (names a) = (alias_word, (a.name, a.target))

entry_again : (e : Entry) → entry_of (rest_of e).0 (rest_of e).1 ≡ e
entry_again (declares d) = refl
entry_again (names a) = refl

entry_spells : (s : Declaring) (w : EntryWord) (y : EntryRest w) → spell_entry (entry_of w y) ≡ entry_token w ∷ (rest_spec s w).spell y
entry_spells s (kind_word k) y = refl
entry_spells s alias_word y = refl

entry_breaks : (s : Declaring) (w : EntryWord) (y : EntryRest w) → breaks_entry s (entry_of w y) ≡ on (judge_word s (inl w)) ++ behind 1 ((rest_spec s w).breaks y)
entry_breaks s (kind_word k) y = refl
entry_breaks s alias_word y = refl

entry_means : (s : Declaring) (w : EntryWord) (y : EntryRest w) → value_entry s (entry_of w y) ≡ (rest_spec s w).value y
entry_means s (kind_word k) y = refl
entry_means s alias_word y = refl

abbrev entries_onto : (s : Declaring) → Trees s → List Entry
entries_onto s (last h) = []
entries_onto s (more y gs) = entry_of y.0 y.1 ∷ entries_onto (after s y) gs

abbrev head_onto : (s : Declaring) → Trees s → Head
head_onto s (last h) = h
head_onto s (more y gs) = head_onto (after s y) gs

abbrev trees_back : List Entry → Head → (s : Declaring) → Trees s
trees_back [] h s = last h
trees_back (e ∷ es) h s = more (rest_of e) (trees_back es h (after s (rest_of e)))

entries_again : (es : List Entry) (h : Head) (s : Declaring) → entries_onto s (trees_back es h s) ≡ es
entries_again [] h s = refl
entries_again (e ∷ es) h s =
    ap (λ a. a ∷ entries_onto (after s (rest_of e)) (trees_back es h (after s (rest_of e)))) (entry_again e)
    ∙ ap (λ r. e ∷ r) (entries_again es h (after s (rest_of e)))

head_again : (es : List Entry) (h : Head) (s : Declaring) → head_onto s (trees_back es h s) ≡ h
head_again [] h s = refl
head_again (e ∷ es) h s = head_again es h (after s (rest_of e))

entries_spell : (s : Declaring) (gs : Trees s) → spell_declarations (entries_onto s gs) (head_onto s gs) ≡ (body s).spell gs
entries_spell s (last h) = refl
entries_spell s (more y gs) =
    ap (λ l. l ++ spell_declarations (entries_onto (after s y) gs) (head_onto (after s y) gs)) (entry_spells s y.0 y.1)
    ∙ ap (λ l. (entry_token y.0 ∷ (rest_spec s y.0).spell y.1) ++ l) (entries_spell (after s y) gs)

entries_break : (s : Declaring) (gs : Trees s) → breaks_entries s (entries_onto s gs) ≡ (body s).breaks gs
entries_break s (last h) = refl
entries_break s (more y gs) =
    ap (λ l. l ++ behind (length (spell_entry (entry_of y.0 y.1))) (breaks_entries (value_entry s (entry_of y.0 y.1)) (entries_onto (after s y) gs))) (entry_breaks s y.0 y.1)
    ∙ ap (λ l. broken ++ behind (length l) (breaks_entries (value_entry s (entry_of y.0 y.1)) (entries_onto (after s y) gs))) (entry_spells s y.0 y.1)
    ∙ ap (λ z. broken ++ behind size (breaks_entries z (entries_onto (after s y) gs))) (entry_means s y.0 y.1)
    ∙ ap (λ l. broken ++ behind size l) (entries_break (after s y) gs)
  where
    broken : List Break
    broken = on (judge_word s (inl y.0)) ++ behind 1 ((rest_spec s y.0).breaks y.1)

    size : ℕ
    size = length (entry_token y.0 ∷ (rest_spec s y.0).spell y.1)

entries_mean : (s : Declaring) (gs : Trees s) → ◌≡◌ {A = Problem × Head} ((value_entries s (entries_onto s gs)).problem, head_onto s gs) ((body s).value gs)
entries_mean s (last h) = refl
entries_mean s (more y gs) =
    ap (λ (z : Declaring). ((value_entries z (entries_onto (after s y) gs)).problem, head_onto (after s y) gs)) (entry_means s y.0 y.1)
    ∙ entries_mean (after s y) gs

entries_blocks : (s : Declaring) (gs : Trees s) (t : Terminal) → false ≡ (body s).blocks gs t
entries_blocks s gs t = sym (body_blocks Fixed first_token (λ w. w) judge_word heads.End rest_spec declared_before s gs t)

pub section_law : (p : Problem) → Lawful (variables_spec p) (variables_at p)
section_law p = Lawful-view (body (so_far p)) (variables_spec p)
    (record {
      onto = λ gs. (entries_onto (so_far p) gs, head_onto (so_far p) gs);
      back = λ x. trees_back x.0 x.1 (so_far p);
      again = λ x. λ i. (entries_again x.0 x.1 (so_far p) i, head_again x.0 x.1 (so_far p) i);
      spell = entries_spell (so_far p);
      breaks = λ gs. ap first (entries_break (so_far p) gs);
      value = entries_mean (so_far p);
      blocks = entries_blocks (so_far p);
      start = refl;
    })
    (variables_at p) (body_law (so_far p))
