-- What the code of variables does, step by step, is what the reader answers.
use Rattle.std.proofs.Common.{◌≡◌, ◌⊎◌, ℕ, ◌<◌, ◌≤◌, ℤ, pos, ◌+ℤ◌, ◌-ℤ◌, ◌≤ℤ◌, Bool, true, false, List, [], ◌∷◌, length, drop, Option, Some, None, is_some, Ok, Err, if◌then◌else◌, refl, sym, ap, ◌∙◌, subst, inl, inr, int_lt, arith}
use Rattle.std.proofs.lemmas.Int.{ints}
use Rattle.mn_lexer.specs.Terminals.{Terminal}
use Rattle.mn_lexer.specs.declared.marks.Mark.{Mark}
use Rattle.mn_lexer.specs.declared.marks.Mark.TheVariants.{OpenSquare, CloseSquare, OpenCurly, CloseCurly, Dots}
use Rattle.mn_grammar.specs.Places.{when}
use Rattle.mn_grammar.specs.Reading.{Reader, one, which_of, either_of, or_else, which_mark, go_on, then_read, ret, refused, fault_at, judged, number_at, name_at, mark_at}
use Rattle.mn_grammar.specs.Gives.{Stops}
use Rattle.mn_grammar.specs.declared.site.Site.TheVariants.{Fixed, MarksOnly}
use Rattle.mn_grammar.specs.declared.Kind.TheVariants as kinds
use Rattle.mn_grammar.specs.declared.Limit.TheVariants as limits
use Rattle.mn_grammar.specs.declared.Stop.{Stop}
use Rattle.mn_grammar.specs.declared.Stop.TheVariants.{Refused}
use Rattle.mn_model.specs.Domain.{stretch}
use Rattle.mn_model.specs.Problem.{Problem}
use Rattle.mn_grammar.specs.Places.{on}
use Rattle.mn_grammar.specs.Lists.{items_at, maybe_at}
use Rattle.mn_grammar.specs.declared.site.Site.TheVariants.{Free}
use Rattle.mn_grammar.specs.Tokens.{is_the_mark}
use Rattle.mn_cursor.specs.Looks.{first_as}
use Rattle.mn_cursor.specs.Lists.{comma_or_at}
use Rattle.mn_decls.specs.Variables.{any_number, fair_dim, fair_end, stretch_at, dims_ends, with_dim, dim_at, dims_at, dims_list_at, spell_number, spell_part, breaks_part, ends_of_part, parts_ends, with_part, fair_first, fair_last, one_value, part_at, range_at, parts_at, parts_list_at, new_name, declaration_at, domain_at, Declaring, so_far, EntryWord, kind_word, alias_word, entry_token, entry_words, which_word, word_at, judge_word, entry_at, alias_at, declared_before, entries_at}
use Rattle.mn_references.specs.Conditions.{as_kind}
use Rattle.mn_grammar.specs.declared.Kind.{Kind}
use Rattle.mn_cursor.specs.Added.{with_declaration}
use Rattle.mn_cursor.specs.Heads.{head_of}
use Rattle.mn_cursor.specs.declared.heads.Head.{Head}
use Rattle.mn_model.specs.declared.variable.Kind as variable
use Rattle.mn_model.specs.declared.limits.TheConstants.{SPAN}
use Rattle.mn_model.proofs.Stretches.{length-stretch}
use Rattle.mn_cursor.proofs.ListSteps.{entry_stops, comma_stops, entry_goes_on, entry_ends}
use Rattle.mn_decls.proofs.VariableLaw.{nothing_goes_on, dims_are, dim_law, part_blocks, parts_are, part_law, rest_spec, rest_law}
use Rattle.mn_cursor.proofs.Looking.{one_seen, unseen_stops, seen_stops, seen_reads}
use Rattle.mn_cursor.proofs.Turning.{stops_first, stops_second, stops_same, with_mark, without_mark, one_leaves, read_leaves, item_stops, item_goes_on, body_ends}
use Rattle.mn_cursor.proofs.Turning.{first_stops as first_stops_of}

-- 1. The ends of a stretch
module _ (limited : Bool) (ts : List Terminal) where
  pub open_stops : (e : Stop) → Stops e (mark_at MarksOnly OpenCurly None ts) → Stops e (stretch_at limited ts)
  unfolding stretch_at
  open_stops e stops = stops_first e _ _ stops

  module _ (us : List Terminal) (opened : mark_at MarksOnly OpenCurly None ts ≡ Ok (tt {0}, us)) where
    pub lo_stops : (e : Stop) → Stops e (number_at any_number us) → Stops e (stretch_at limited ts)
    unfolding stretch_at
    lo_stops e stops = stops_second e _ _ tt us opened (stops_first e _ _ stops)

    module _ (lo : ℤ) (vs : List Terminal) (low : number_at any_number us ≡ Ok (lo, vs)) where
      pub dots_stop : (e : Stop) → Stops e (mark_at MarksOnly Dots None vs) → Stops e (stretch_at limited ts)
      unfolding stretch_at
      dots_stop e stops = stops_second e _ _ tt us opened (stops_second e _ _ lo vs low (stops_first e _ _ stops))

      module _ (ws : List Terminal) (dotted : mark_at MarksOnly Dots None vs ≡ Ok (tt {0}, ws)) where
        pub hi_stops : (e : Stop) → Stops e (number_at (fair_end limited lo) ws) → Stops e (stretch_at limited ts)
        unfolding stretch_at
        hi_stops e stops = stops_second e _ _ tt us opened (stops_second e _ _ lo vs low (stops_second e _ _ tt ws dotted (stops_first e _ _ stops)))

        module _ (hi : ℤ) (xs : List Terminal) (high : number_at (fair_end limited lo) ws ≡ Ok (hi, xs)) where
          pub close_stops : (e : Stop) → Stops e (mark_at MarksOnly CloseCurly None xs) → Stops e (stretch_at limited ts)
          unfolding stretch_at
          close_stops e stops =
              stops_second e _ _ tt us opened (stops_second e _ _ lo vs low (stops_second e _ _ tt ws dotted (stops_second e _ _ hi xs high (stops_first e _ _ stops))))

          pub stretch_reads : (ys : List Terminal) → mark_at MarksOnly CloseCurly None xs ≡ Ok (tt {0}, ys) → stretch_at limited ts ≡ Ok (stretch lo hi, ys)
          unfolding stretch_at
          stretch_reads ys closed =
              ap (λ r. go_on r (λ u. then_read (number_at any_number) (λ a. then_read (mark_at MarksOnly Dots None) (λ u. then_read (number_at (fair_end limited a)) (λ b. then_read (mark_at MarksOnly CloseCurly None) (λ u. ret (stretch a b))))))) opened
              ∙ ap (λ r. go_on r (λ a. then_read (mark_at MarksOnly Dots None) (λ u. then_read (number_at (fair_end limited a)) (λ b. then_read (mark_at MarksOnly CloseCurly None) (λ u. ret (stretch a b)))))) low
              ∙ ap (λ r. go_on r (λ u. then_read (number_at (fair_end limited lo)) (λ b. then_read (mark_at MarksOnly CloseCurly None) (λ u. ret (stretch lo b))))) dotted
              ∙ ap (λ r. go_on r (λ b. then_read (mark_at MarksOnly CloseCurly None) (λ u. ret (stretch lo b)))) high
              ∙ ap (λ r. go_on r (λ u. ret (stretch lo hi))) closed

-- 2. Dimensions
abbrev pub dims_from : Problem → List ℕ → Reader (List ℕ)
dims_from p s = items_at CloseSquare dims_ends with_dim (dim_at p) s

module _ (p : Problem) (before : List ℕ) (ts : List Terminal) where
  pub dim_stops : (e : Stop) → Stops e (dim_at p before ts) → Stops e (dims_from p before ts)
  dim_stops e stops = entry_stops CloseSquare spell_number (λ s z. on (fair_dim p s z)) (λ s z. z) with_dim nothing_goes_on Free (pos 0) with_dim (dims_are p) (dim_at p) (dim_law p) before ts e stops

  module _ (z : ℤ) (us : List Terminal) (is : dim_at p before ts ≡ Ok (z, us)) where
    pub dim_comma_stops : (e : Stop) → Stops e (comma_or_at CloseSquare us) → Stops e (dims_from p before ts)
    dim_comma_stops e stops = comma_stops CloseSquare spell_number (λ s z. on (fair_dim p s z)) (λ s z. z) with_dim nothing_goes_on Free (pos 0) with_dim (dims_are p) (dim_at p) (dim_law p) before ts z us is e stops

    pub dim_goes_on : (vs : List Terminal) → comma_or_at CloseSquare us ≡ Ok (true, vs) → (dims_from p (with_dim before z) vs ≡ dims_from p before ts) × (length vs < length ts)
    dim_goes_on vs goes = entry_goes_on CloseSquare spell_number (λ s z. on (fair_dim p s z)) (λ s z. z) with_dim nothing_goes_on Free (pos 0) with_dim (dims_are p) (dim_at p) (dim_law p) before ts z us is vs goes

    pub dim_ends : (vs : List Terminal) → comma_or_at CloseSquare us ≡ Ok (false, vs) → dims_from p before ts ≡ Ok (with_dim before z, vs)
    dim_ends vs goes = entry_ends CloseSquare spell_number (λ s z. on (fair_dim p s z)) (λ s z. z) with_dim nothing_goes_on Free (pos 0) with_dim (dims_are p) (dim_at p) (dim_law p) before ts z us is vs goes

-- 3. Dimensions that may be left out
module _ (p : Problem) (ts : List Terminal) where
  pub no_dims : is_some (first_as (which_mark OpenSquare) ts) ≡ false → dims_at p ts ≡ Ok ([], ts)
  unfolding dims_at
  no_dims none = without_mark OpenSquare (then_read (mark_at MarksOnly OpenSquare None) (λ u. dims_list_at p)) (ret []) ts none

  some_dims : is_some (first_as (which_mark OpenSquare) ts) ≡ true → dims_at p ts ≡ go_on (mark_at MarksOnly OpenSquare None ts) (λ u. dims_list_at p)
  unfolding dims_at
  some_dims there = with_mark OpenSquare (then_read (mark_at MarksOnly OpenSquare None) (λ u. dims_list_at p)) (ret []) ts there

  module _ (there : is_some (first_as (which_mark OpenSquare) ts) ≡ true) where
    pub square_stops : (e : Stop) → Stops e (mark_at MarksOnly OpenSquare None ts) → Stops e (dims_at p ts)
    square_stops e stops = stops_same e _ _ (some_dims there) (stops_first e _ _ stops)

    module _ (us : List Terminal) (opened : mark_at MarksOnly OpenSquare None ts ≡ Ok (tt {0}, us)) where
      pub dims_same : dims_at p ts ≡ dims_list_at p us
      dims_same = some_dims there ∙ ap (λ r. go_on r (λ u. dims_list_at p)) opened

-- 4. A part of a domain
module _ (values : List ℤ) (ts : List Terminal) where
  pub first_stops : (e : Stop) → Stops e (number_at (fair_first values) ts) → Stops e (part_at values ts)
  unfolding part_at
  first_stops e stops = stops_first e _ _ stops

  module _ (a : ℤ) (us : List Terminal) (is : number_at (fair_first values) ts ≡ Ok (a, us)) where
    behind_first : part_at values ts ≡ or_else (is_the_mark Dots) (range_at values a) (ret (a, a)) us
    unfolding part_at
    behind_first = ap (λ r. go_on r (λ z. or_else (is_the_mark Dots) (range_at values z) (ret (z, z)))) is

    pub alone : is_some (first_as (which_mark Dots) us) ≡ false → part_at values ts ≡ Ok ((a, a), us)
    alone none = behind_first ∙ without_mark Dots (range_at values a) (ret (a, a)) us none

    module _ (there : is_some (first_as (which_mark Dots) us) ≡ true) where
      with_dots : part_at values ts ≡ range_at values a us
      with_dots = behind_first ∙ with_mark Dots (range_at values a) (ret (a, a)) us there

      pub part_dots_stop : (e : Stop) → Stops e (mark_at MarksOnly Dots None us) → Stops e (part_at values ts)
      part_dots_stop e stops = stops_same e _ _ with_dots (stops_first e _ _ stops)

      module _ (vs : List Terminal) (dotted : mark_at MarksOnly Dots None us ≡ Ok (tt {0}, vs)) where
        pub last_stops : (e : Stop) → Stops e (number_at (fair_last values a) vs) → Stops e (part_at values ts)
        last_stops e stops = stops_same e _ _ with_dots (stops_second e _ _ tt vs dotted (stops_first e _ _ stops))

        pub range_reads : (b : ℤ) (ws : List Terminal) → number_at (fair_last values a) vs ≡ Ok (b, ws) → part_at values ts ≡ Ok ((a, b), ws)
        range_reads b ws high =
            with_dots
            ∙ ap (λ r. go_on r (λ u. then_read (number_at (fair_last values a)) (λ b. ret (a, b)))) dotted
            ∙ ap (λ r. go_on r (λ b. ret (a, b))) high

-- 5. Parts
abbrev pub parts_from : List ℤ → Reader (List ℤ)
parts_from s = items_at CloseCurly parts_ends with_part part_at s

module _ (values : List ℤ) (ts : List Terminal) where
  pub part_stops : (e : Stop) → Stops e (part_at values ts) → Stops e (parts_from values ts)
  part_stops e stops = entry_stops CloseCurly spell_part breaks_part (λ s x. ends_of_part x) with_part part_blocks Free (one_value (pos 0)) with_part parts_are part_at part_law values ts e stops

  module _ (part : ℤ × ℤ) (us : List Terminal) (is : part_at values ts ≡ Ok (part, us)) where
    pub part_comma_stops : (e : Stop) → Stops e (comma_or_at CloseCurly us) → Stops e (parts_from values ts)
    part_comma_stops e stops = comma_stops CloseCurly spell_part breaks_part (λ s x. ends_of_part x) with_part part_blocks Free (one_value (pos 0)) with_part parts_are part_at part_law values ts part us is e stops

    pub part_goes_on : (vs : List Terminal) → comma_or_at CloseCurly us ≡ Ok (true, vs) → (parts_from (with_part values part) vs ≡ parts_from values ts) × (length vs < length ts)
    part_goes_on vs goes = entry_goes_on CloseCurly spell_part breaks_part (λ s x. ends_of_part x) with_part part_blocks Free (one_value (pos 0)) with_part parts_are part_at part_law values ts part us is vs goes

    pub part_ends : (vs : List Terminal) → comma_or_at CloseCurly us ≡ Ok (false, vs) → parts_from values ts ≡ Ok (with_part values part, vs)
    part_ends vs goes = entry_ends CloseCurly spell_part breaks_part (λ s x. ends_of_part x) with_part part_blocks Free (one_value (pos 0)) with_part parts_are part_at part_law values ts part us is vs goes

-- 6. Parts in their brackets
seen_mark : (m : Mark) (l : List Terminal) → is_some (first_as (which_mark m) l) ≡ true → first_as (which_mark m) l ≡ Some (tt {0})
seen_mark m l there = by (first_as (which_mark m) l) there
  where
    by : (o : Option (Unit {0})) → is_some o ≡ true → o ≡ Some (tt {0})
    by None e = cc
    by (Some u) e = refl

judged_empty : (l : List Terminal) → is_some (first_as (which_mark CloseCurly) l) ≡ true → mark_at MarksOnly CloseCurly (Some kinds.EmptyDomain) l ≡ Err (fault_at l kinds.EmptyDomain)
unfolding mark_at
judged_empty l there = one_seen MarksOnly (which_mark CloseCurly) (λ _. Some kinds.EmptyDomain) tt l (seen_mark CloseCurly l there)

module _ (ts : List Terminal) where
  pub curly_stops : (e : Stop) → Stops e (mark_at MarksOnly OpenCurly None ts) → Stops e (parts_at ts)
  unfolding parts_at
  curly_stops e stops = stops_first e _ _ stops

  module _ (us : List Terminal) (opened : mark_at MarksOnly OpenCurly None ts ≡ Ok (tt {0}, us)) where
    behind_curly : parts_at ts ≡ or_else (is_the_mark CloseCurly) (then_read (mark_at MarksOnly CloseCurly (Some kinds.EmptyDomain)) (λ _. ret [])) (items_at CloseCurly parts_ends with_part part_at []) us
    unfolding parts_at maybe_at
    behind_curly = ap (λ r. go_on r (λ u. maybe_at CloseCurly parts_ends (Some kinds.EmptyDomain) [] with_part part_at [])) opened

    pub empty_stops : (e : Stop) → is_some (first_as (which_mark CloseCurly) us) ≡ true → e ≡ Refused (fault_at us kinds.EmptyDomain) → Stops e (parts_at ts)
    empty_stops e there is =
        subst (λ x. Stops x (parts_at ts)) (sym is)
        (behind_curly ∙ with_mark CloseCurly (then_read (mark_at MarksOnly CloseCurly (Some kinds.EmptyDomain)) (λ _. ret [])) (items_at CloseCurly parts_ends with_part part_at []) us there ∙ ap (λ r. go_on r (λ _. ret [])) (judged_empty us there))

    pub parts_same : is_some (first_as (which_mark CloseCurly) us) ≡ false → parts_at ts ≡ parts_list_at us
    unfolding parts_list_at
    parts_same none = behind_curly ∙ without_mark CloseCurly (then_read (mark_at MarksOnly CloseCurly (Some kinds.EmptyDomain)) (λ _. ret [])) (items_at CloseCurly parts_ends with_part part_at []) us none

-- 7. A declaration behind its kind's word
module _ (p : Problem) (k : variable.Kind) (ts : List Terminal) where
  pub name_stops : (e : Stop) → Stops e (name_at (new_name p) ts) → Stops e (declaration_at p k ts)
  unfolding declaration_at
  name_stops e stops = stops_first e _ _ stops

  module _ (w : List ℕ) (us : List Terminal) (named : name_at (new_name p) ts ≡ Ok (w, us)) where
    pub dims_stop : (e : Stop) → Stops e (dims_at p us) → Stops e (declaration_at p k ts)
    unfolding declaration_at
    dims_stop e stops = stops_second e _ _ w us named (stops_first e _ _ stops)

    module _ (dims : List ℕ) (vs : List Terminal) (sized : dims_at p us ≡ Ok (dims, vs)) where
      pub domain_stops : (e : Stop) → Stops e (domain_at k vs) → Stops e (declaration_at p k ts)
      unfolding declaration_at
      domain_stops e stops = stops_second e _ _ w us named (stops_second e _ _ dims vs sized (stops_first e _ _ stops))

      pub declaration_reads : (values : List ℤ) (ws : List Terminal) → domain_at k vs ≡ Ok (values, ws) → declaration_at p k ts ≡ Ok (with_declaration p w dims k values, ws)
      unfolding declaration_at
      declaration_reads values ws is =
          ap (λ r. go_on r (λ n. then_read (dims_at p) (λ d. then_read (domain_at k) (λ v. ret (with_declaration p n d k v))))) named
          ∙ ap (λ r. go_on r (λ d. then_read (domain_at k) (λ v. ret (with_declaration p w d k v)))) sized
          ∙ ap (λ r. go_on r (λ v. ret (with_declaration p w dims k v))) is

-- 8. The section, by its first token
word_leaves : (s : Declaring) (ts : List Terminal) (w : EntryWord ⊎ Head) (us : List Terminal) → word_at s ts ≡ Ok (w, us) → length us < length ts
unfolding word_at
word_leaves s ts w us e = one_leaves Fixed which_word (judge_word s) ts w us e

entry_leaves : (s : Declaring) (w : EntryWord) (ts : List Terminal) (z : Declaring) (us : List Terminal) → entry_at s w ts ≡ Ok (z, us) → length us ≤ length ts
entry_leaves s w ts z us e = read_leaves (rest_spec s w) (entry_at s w) (rest_law s w) ts z us e

module _ (s : Declaring) (ts : List Terminal) where
  pub unseen_word : (e : Stop) → (first_as which_word ts ≡ None) × (e ≡ Refused (refused Fixed ts)) → Stops e (entries_at s ts)
  unfolding entries_at word_at
  unseen_word e is = first_stops_of word_at entry_at declared_before word_leaves entry_leaves s ts e (unseen_stops Fixed which_word (judge_word s) ts e is)

  module _ (w : EntryWord) (is : first_as which_word ts ≡ Some (inl w)) where
    pub word_stops : (e : Stop) → Stops e (judged (judge_word s (inl w)) (tt {0}) ts (drop 1 ts)) → Stops e (entries_at s ts)
    unfolding entries_at word_at
    word_stops e stops = first_stops_of word_at entry_at declared_before word_leaves entry_leaves s ts e (seen_stops Fixed which_word (judge_word s) (inl w) ts e is stops)

    module _ (us : List Terminal) (reads : judged (judge_word s (inl w)) (tt {0}) ts (drop 1 ts) ≡ Ok (tt {0}, us)) where
      word_read : word_at s ts ≡ Ok (inl w, us)
      unfolding word_at
      word_read = seen_reads Fixed which_word (judge_word s) (inl w) ts us is reads

      pub rest_stops : (e : Stop) → Stops e (entry_at s w us) → Stops e (entries_at s ts)
      unfolding entries_at
      rest_stops e stops = item_stops word_at entry_at declared_before word_leaves entry_leaves s ts w us e word_read (stops_first e _ _ stops)

      pub rest_goes_on : (z : Declaring) (vs : List Terminal) → entry_at s w us ≡ Ok (z, vs) → (entries_at z vs ≡ entries_at s ts) × (length vs < length ts)
      unfolding entries_at
      rest_goes_on z vs goes = (
        sym (item_goes_on word_at entry_at declared_before word_leaves entry_leaves s ts w us z vs word_read goes),
        let one = word_leaves s ts (inl w) us word_read in
            let two = entry_leaves s w us z vs goes in
            omega arith,
      )

  head_seen : (h : Head) → first_as which_word ts ≡ Some (inr h) → first_as head_of ts ≡ Some h
  head_seen h is = at ts is
    where
      by : (o : Option EntryWord) (r : Option Head) → either_of o r ≡ Some (inr h) → r ≡ Some h
      by (Some w) r e = absurd (let same : inl w ≡ inr h = cc in absurd cc)
      by None (Some g) e = let same : ◌≡◌ {A = EntryWord ⊎ Head} (inr g) (inr h) = cc in cc
      by None None e = cc

      at : (us : List Terminal) → first_as which_word us ≡ Some (inr h) → first_as head_of us ≡ Some h
      at [] e = cc
      at (t ∷ us) e = by (which_of entry_token entry_words t) (head_of t) e

  module _ (h : Head) (is : first_as which_word ts ≡ Some (inr h)) where
    pub head_stops : (k : Kind) (e : Stop) → as_kind s.behind ≡ Some k → e ≡ Refused (fault_at ts k) → Stops e (entries_at s ts)
    unfolding entries_at word_at
    head_stops k e broken refused_so =
        first_stops_of word_at entry_at declared_before word_leaves entry_leaves s ts e
        (subst (λ x. Stops x (one Fixed which_word (judge_word s) ts)) (sym refused_so)
        (one_seen Fixed which_word (judge_word s) (inr h) ts is ∙ ap (λ c. judged c (inr h) ts (drop 1 ts)) broken))

    pub entries_end : as_kind s.behind ≡ None → (h' : Head) × (first_as head_of ts ≡ Some h') × (entries_at s ts ≡ Ok ((s.problem, h'), drop 1 ts))
    unfolding entries_at word_at
    entries_end kept = (
      h,
      head_seen h is,
      body_ends word_at entry_at declared_before word_leaves entry_leaves s ts h (drop 1 ts)
          (one_seen Fixed which_word (judge_word s) (inr h) ts is ∙ ap (λ c. judged c (inr h) ts (drop 1 ts)) kept),
    )

-- what follows a kind's word is a declaration
module _ (s : Declaring) (k : variable.Kind) (ts : List Terminal) where
  pub kind_stops : (e : Stop) → Stops e (declaration_at s.problem k ts) → Stops e (entry_at s (kind_word k) ts)
  unfolding entry_at
  kind_stops e stops = stops_first e _ _ stops

  pub kind_reads : (q : Problem) (us : List Terminal) → declaration_at s.problem k ts ≡ Ok (q, us) → entry_at s (kind_word k) ts ≡ Ok (so_far q, us)
  unfolding entry_at
  kind_reads q us reads = ap (λ r. go_on r (λ q. ret (so_far q))) reads

-- and what follows ALIAS is an alias
pub alias_same : (s : Declaring) → entry_at s alias_word ≡ alias_at s.problem
unfolding entry_at
alias_same s = refl

-- 9. A domain suits its kind, and room for a variable
pub is_short : (lo hi : ℤ) → fair_end true lo hi ≡ None → length (stretch lo hi) ≤ SPAN
is_short lo hi fair = by (int_lt hi lo) refl fair
  where
    inner : (c : Bool) → int_lt (pos SPAN) ((hi -ℤ lo) +ℤ pos 1) ≡ c → when c (kinds.Limit limits.Span) ≡ None → lo ≤ℤ hi → length (stretch lo hi) ≤ SPAN
    inner true e f le = cc
    inner false e f le = let long = length-stretch lo hi le in omega (arith, ints, long, e)

    by : (b : Bool) → int_lt hi lo ≡ b → (if b then Some kinds.EmptyDomain else when (int_lt (pos SPAN) ((hi -ℤ lo) +ℤ pos 1)) (kinds.Limit limits.Span)) ≡ None → length (stretch lo hi) ≤ SPAN
    by true e f = cc
    by false e f = inner (int_lt (pos SPAN) ((hi -ℤ lo) +ℤ pos 1)) refl f (omega (arith, ints, e))
