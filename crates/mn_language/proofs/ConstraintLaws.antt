-- Constraints are read lawfully, those with others inside to a depth.
use Rattle.std.proofs.Common.{◌≡◌, ℕ, zero, suc, ◌<◌, Bool, true, false, List, [], ◌∷◌, length, ◌++◌, codes, Option, Some, None, refl, sym, ap, subst, ◌∙◌, arith, append-nil}
use Rattle.mn_lexer.specs.Terminals.{Terminal, word, mark}
use Rattle.mn_lexer.specs.declared.marks.Mark.TheVariants.{OpenCurly, CloseCurly, OpenRound, CloseRound, Comma}
use Rattle.mn_model.specs.Problem.{Problem}
use Rattle.mn_model.specs.declared.constraint.Con.{Con}
use Rattle.mn_grammar.specs.Tokens.{is_the_mark}
use Rattle.mn_grammar.specs.Kinds.{is_condition}
use Rattle.mn_grammar.specs.Places.{Break, when, on, behind}
use Rattle.mn_grammar.specs.Reading.{Reader, which_of, ret, then_read, mark_at, never, within}
use Rattle.mn_grammar.specs.Lawful.{Spec, first, Sound, Lawful}
use Rattle.mn_grammar.specs.Lists.{Items, final, also, spell_items, spell_maybe, Judge, breaks_items, value_items, maybe_at}
use Rattle.mn_grammar.specs.Rows.{Arguments}
use Rattle.mn_grammar.proofs.Breaks.{behind_behind, alike_append, alike_behind, kind_when}
use Rattle.mn_grammar.proofs.Leaves.{leaf}
use Rattle.mn_grammar.proofs.Classes.{Lawful-one_of}
use Rattle.mn_grammar.proofs.Joins.{joined, Lawful-then}
use Rattle.mn_grammar.proofs.Steps.{join_leaf, join_mark, mark_then, Lawful-mark_then, mark_last, Lawful-mark_last}
use Rattle.mn_grammar.proofs.Views.{IsView}
use Rattle.mn_grammar.proofs.Items.{maybe_spec, Lawful-maybe, nothing_on}
use Rattle.mn_grammar.proofs.Nested.{unread, Sound-unread, behind_name, nest_law}
use Rattle.mn_grammar.specs.declared.site.Site.TheVariants.{Fixed, MarksOnly}
use Rattle.mn_grammar.specs.declared.Kind.{Kind}
use Rattle.mn_grammar.specs.declared.Kind.TheVariants as kinds
use Rattle.mn_grammar.specs.declared.Limit.TheVariants as limits
use Rattle.mn_references.specs.Conditions.{lesser, as_kind}
use Rattle.mn_references.specs.Entries.{Entry, a_term, Placed, value_entry}
use Rattle.mn_references.specs.Referring.{entry_at}
use Rattle.mn_references.proofs.Referable.{as_kind_kinds, lesser_kinds}
use Rattle.mn_references.proofs.Listable.{a_term_place, blocks_entry, entry_spec, entry_law, entry_marks, entry_solid}
use Rattle.mn_language.specs.Arguments.{Written, term_of}
use Rattle.mn_language.specs.Constraints.{Constraint, simple, gathers_none, gathers, ties, Children, one_child, child_and, spell_constraint, spell_children, Before, inside, cells_behind, at_depth, at_inside, at_form, value_constraint, value_children, breaks_constraint, breaks_children, gathered, tied}
use Rattle.mn_language.specs.Constructing.{child_ends, with_child, gather_at, tie_at, behind_form, form_at, depth_inside, constraint_at}
use Rattle.mn_language.specs.Forms.{form_line, form_token, all_forms}
use Rattle.mn_language.specs.declared.forms.Form.{Form}
use Rattle.mn_language.specs.declared.forms.Form.TheVariants.{Leaf as of_leaf, Gather as of_gather, Tie as of_tie}
use Rattle.mn_language.specs.declared.forms.Gather.{Gather}
use Rattle.mn_language.specs.declared.forms.Gather.TheVariants.{Or, And}
use Rattle.mn_language.specs.declared.forms.Leaf.TheVariants as form
use Rattle.mn_language.specs.declared.forms.Tie.{Tie}
use Rattle.mn_language.specs.declared.forms.Tie.TheVariants.{Reify, Reifyimply}
use Rattle.mn_language.proofs.ArgumentLaws.{entry_no_round, spells_row, leaf_spec, leaf_law}

-- 1. The names
pub known : (f : Form) → which_of form_token all_forms (form_token f) ≡ Some f
known (of_leaf form.Eq) = refl
known (of_leaf form.Diseq) = refl
known (of_leaf form.Ineq) = refl
known (of_leaf form.Watchless) = refl
known (of_leaf form.Minuseq) = refl
known (of_leaf form.Abs) = refl
known (of_leaf form.Difference) = refl
known (of_leaf form.Product) = refl
known (of_leaf form.Div) = refl
known (of_leaf form.Modulo) = refl
known (of_leaf form.Max) = refl
known (of_leaf form.Min) = refl
known (of_leaf form.Sumleq) = refl
known (of_leaf form.Sumgeq) = refl
known (of_leaf form.Weightedsumleq) = refl
known (of_leaf form.Weightedsumgeq) = refl
known (of_leaf form.Watchsumleq) = refl
known (of_leaf form.Watchsumgeq) = refl
known (of_leaf form.Litsumgeq) = refl
known (of_leaf form.Element) = refl
known (of_leaf form.Watchelement) = refl
known (of_leaf form.ElementOne) = refl
known (of_leaf form.WatchelementOne) = refl
known (of_leaf form.Table) = refl
known (of_leaf form.Negativetable) = refl
known (of_leaf form.Alldiff) = refl
known (of_leaf form.Lexleq) = refl
known (of_leaf form.Lexless) = refl
known (of_leaf form.Watchvecneq) = refl
known (of_leaf form.Hamming) = refl
known (of_leaf form.Occurrence) = refl
known (of_leaf form.Occurrenceleq) = refl
known (of_leaf form.Occurrencegeq) = refl
known (of_leaf form.Nvalueleq) = refl
known (of_leaf form.WLiteral) = refl
known (of_leaf form.WNotliteral) = refl
known (of_leaf form.WInset) = refl
known (of_leaf form.WNotinset) = refl
known (of_leaf form.WInrange) = refl
known (of_leaf form.WNotinrange) = refl
known (of_leaf form.WInintervalset) = refl
known (of_leaf form.Always) = refl
known (of_leaf form.Never) = refl
known (of_gather Or) = refl
known (of_gather And) = refl
known (of_tie Reify) = refl
known (of_tie Reifyimply) = refl

depth_kinds : (d : ℕ) (kind : Kind) → at_depth d ≡ Some kind → is_condition kind ≡ true
depth_kinds zero kind e = kind_when true (kinds.Limit limits.Nesting) refl kind e
depth_kinds (suc d) kind e = cc

inside_kinds : (d : ℕ) (f : Form) (kind : Kind) → at_inside d f ≡ Some kind → is_condition kind ≡ true
inside_kinds d (of_leaf f) kind e = cc
inside_kinds d (of_gather g) kind e = depth_kinds d kind e
inside_kinds d (of_tie t) kind e = depth_kinds d kind e

pub form_kinds : (d : ℕ) (s : Before) (f : Form) (kind : Kind) → at_form d s f ≡ Some kind → is_condition kind ≡ true
form_kinds d s f kind e = lesser_kinds (when s.full (kinds.Limit limits.Constraints)) (at_inside d f) (kind_when s.full (kinds.Limit limits.Constraints) refl) (inside_kinds d f) kind e

abbrev name : ℕ → Before → Spec Form Form
name d s = leaf Fixed form_token (λ f. f) (at_form d s) (of_leaf form.Eq)

name_law : (d : ℕ) (s : Before) → Lawful (name d s) (form_at d s)
unfolding form_at
name_law d s = Lawful-one_of Fixed form_token all_forms (at_form d s) (of_leaf form.Eq) known ((refl, refl), (word (codes "eq"), refl, refl)) (form_kinds d s)

front_nil : (l m : List Terminal) → (l ≡ [] → ⊥) → l ++ m ≡ [] → ⊥
front_nil [] m solid e = solid refl
front_nil (t ∷ l) m solid e = cc

-- 2. What follows a name
abbrev pub Behind : Form → Type 0
Behind (of_leaf f) = Arguments Written (form_line f).takes
Behind (of_gather g) = (l : Option (Items Constraint)) × Unit {0}
Behind (of_tie t) = (c : Constraint) × ((e : Entry) × Unit {0})

module _ (p : Problem) where
  -- the forms where d may stand inside one another, behind s
  abbrev pub constraint_spec : ℕ → Before → Spec Constraint Con
  constraint_spec d s = record {
    spell = spell_constraint;
    breaks = λ c. breaks_constraint p c d s;
    value = λ c. value_constraint p c s.cells;
    blocks = λ c t. false;
    start = Fixed;
    any = gathers_none Or;
  }

  abbrev child_judge : (Before → Spec Constraint Con) → ℕ → Judge Constraint (List Con) Con
  child_judge of n = record {
    spell = spell_constraint;
    breaks = λ cs. (of (inside (cells_behind n cs))).breaks;
    value = λ cs. (of (inside (cells_behind n cs))).value;
    ends = child_ends;
  }

  abbrev no_more : Constraint → Terminal → Bool
  no_more c t = false

  abbrev children_spec : (Before → Spec Constraint Con) → ℕ → Spec (Option (Items Constraint)) (List Con)
  children_spec of n = maybe_spec CloseCurly (child_judge of n) no_more Fixed (gathers_none Or) None [] with_child []

  abbrev gather_end : Gather → List Con → Spec (Unit {0}) Con
  gather_end g cs = mark_last CloseRound None (gathered g cs)

  abbrev gather_list : (Before → Spec Constraint Con) → ℕ → Gather → Spec ((l : Option (Items Constraint)) × Unit {0}) Con
  gather_list of n g = joined (children_spec of n) (λ l. gather_end g ((children_spec of n).value l))

  abbrev gather_spec : (Before → Spec Constraint Con) → ℕ → Gather → Spec ((l : Option (Items Constraint)) × Unit {0}) Con
  gather_spec of n g = mark_then OpenRound None (mark_then OpenCurly None (gather_list of n g))

  abbrev the_bit : Entry → Placed
  the_bit e = value_entry p (a_term p true) e

  abbrev tie_last : Tie → Con → Placed → Spec (Unit {0}) Con
  tie_last t c v = mark_last CloseRound (as_kind v.behind) (tied t c (term_of v.terms))

  abbrev tie_bit : Tie → Con → Spec ((e : Entry) × Unit {0}) Con
  tie_bit t c = joined (entry_spec p (a_term p true)) (λ e. tie_last t c (the_bit e))

  abbrev tie_child : (Before → Spec Constraint Con) → ℕ → Tie → Spec ((c : Constraint) × ((e : Entry) × Unit {0})) Con
  tie_child of n t = joined (of (inside n)) (λ c. mark_then Comma None (tie_bit t ((of (inside n)).value c)))

  abbrev tie_spec : (Before → Spec Constraint Con) → ℕ → Tie → Spec ((c : Constraint) × ((e : Entry) × Unit {0})) Con
  tie_spec of n t = mark_then OpenRound None (tie_child of n t)

  abbrev after : ℕ → Before → (Before → Spec Constraint Con) → (f : Form) → Spec (Behind f) Con
  after d s of (of_leaf f) = leaf_spec p s.cells f
  after d s of (of_gather g) = gather_spec of s.cells g
  after d s of (of_tie t) = tie_spec of s.cells t

  abbrev never_read : {X : Type 0} → Spec X Con → Spec X Con
  never_read of = unread of.spell of.value MarksOnly of.any

  abbrev at_last : ℕ → Before → (f : Form) → Spec (Behind f) Con
  at_last d s (of_leaf f) = leaf_spec p s.cells f
  at_last d s (of_gather g) = never_read (gather_spec (constraint_spec d) s.cells g)
  at_last d s (of_tie t) = never_read (tie_spec (constraint_spec d) s.cells t)

  abbrev pub following : (d : ℕ) (s : Before) → (f : Form) → Spec (Behind f) Con
  following d s = behind_name after at_last constraint_spec d s (depth_inside d)

  abbrev pub pairs : (d : ℕ) (s : Before) → Spec ((f : Form) × Behind f) Con
  pairs d s = joined (name d s) (following d s)

  -- 3. What a reader inside has to show, so that what follows a name is lawful
  constraint_solid : (c : Constraint) → spell_constraint c ≡ [] → ⊥
  constraint_solid (simple f a) e = cc
  constraint_solid (gathers_none g) e = cc
  constraint_solid (gathers g cs) e = cc
  constraint_solid (ties t c e) e' = cc

  not_shut : (w : List ℕ) (l : List Terminal) (t : Terminal) (q : List Terminal) → word w ∷ l ≡ t ∷ q → is_the_mark CloseCurly t ≡ false
  not_shut w l t q e = let same : word w ≡ t = cc in ap (is_the_mark CloseCurly) (sym same)

  constraint_not_shut : (c : Constraint) (t : Terminal) (q : List Terminal) → spell_constraint c ≡ t ∷ q → is_the_mark CloseCurly t ≡ false
  constraint_not_shut (simple f a) t q e = not_shut _ _ t q e
  constraint_not_shut (gathers_none g) t q e = not_shut _ _ t q e
  constraint_not_shut (gathers g cs) t q e = not_shut _ _ t q e
  constraint_not_shut (ties u c e) t q e' = not_shut _ _ t q e'

  maybe_solid : (l : Option (Items Constraint)) → spell_maybe CloseCurly spell_constraint l ≡ [] → ⊥
  maybe_solid None e = cc
  maybe_solid (Some (final c)) e = front_nil (spell_constraint c) _ (constraint_solid c) e
  maybe_solid (Some (also c l)) e = front_nil (spell_constraint c) _ (constraint_solid c) e

  module _ (d : ℕ) (read : Before → Reader Con) (law : (z : Before) → Lawful (constraint_spec d z) (read z)) (n : ℕ) where
    children_law : Lawful (children_spec (constraint_spec d) n) (maybe_at CloseCurly child_ends None [] with_child (λ cs. read (inside (cells_behind n cs))) [])
    children_law =
        Lawful-maybe CloseCurly (child_judge (constraint_spec d) n) no_more Fixed (gathers_none Or) None [] with_child
        (record {
          other = refl;
          solid = constraint_solid;
          marks = λ c t e. refl;
          no_comma = λ c. refl;
          no_shut = λ c. refl;
          comma_kinds = λ cs c kind e. cc;
          close_kinds = λ cs c kind e. cc;
        })
        constraint_not_shut (λ kind e. cc) [] (λ cs. read (inside (cells_behind n cs))) (λ cs. law (inside (cells_behind n cs)))

    end_law : (g : Gather) (cs : List Con) → Lawful (gather_end g cs) (then_read (mark_at MarksOnly CloseRound None) (λ u. ret (gathered g cs)))
    end_law g cs = Lawful-mark_last CloseRound None (gathered g cs) (λ kind e. cc)

    gather_law : (g : Gather) → Lawful (gather_spec (constraint_spec d) n g) (gather_at n read g)
    unfolding gather_at
    gather_law g =
        let children = children_spec (constraint_spec d) n in
        let list = Lawful-then children (λ l. gather_end g (children.value l))
        (join_mark children (λ l. gather_end g (children.value l)) maybe_solid (λ l t e. refl) (λ l. refl) (λ l u t q e. refl))
        (maybe_at CloseCurly child_ends None [] with_child (λ cs. read (inside (cells_behind n cs))) [])
        (λ cs. then_read (mark_at MarksOnly CloseRound None) (λ u. ret (gathered g cs)))
        children_law (λ l. (end_law g (children.value l)).sound) (λ l kept. end_law g (children.value l)) in
        let curly = Lawful-mark_then OpenCurly None (λ kind e. cc) (gather_list (constraint_spec d) n g) _ list.sound (λ kept. list) in
        Lawful-mark_then OpenRound None (λ kind e. cc) (mark_then OpenCurly None (gather_list (constraint_spec d) n g)) _ curly.sound (λ kept. curly)

    last_law : (t : Tie) (c : Con) (v : Placed) → Lawful (tie_last t c v) (then_read (mark_at MarksOnly CloseRound (as_kind v.behind)) (λ u. ret (tied t c (term_of v.terms))))
    last_law t c v = Lawful-mark_last CloseRound (as_kind v.behind) (tied t c (term_of v.terms)) (as_kind_kinds v.behind)

    entry_round : (e : Entry) (t : Terminal) (q : List Terminal) → mark CloseRound ∷ [] ≡ t ∷ q → blocks_entry e t ≡ false
    entry_round e t q same = let round : mark CloseRound ≡ t = cc in subst (λ u. blocks_entry e u ≡ false) round (entry_no_round e)

    bit_law : (t : Tie) (c : Con) → Lawful (tie_bit t c) (then_read (entry_at p (a_term p true)) (λ v. then_read (mark_at MarksOnly CloseRound (as_kind v.behind)) (λ u. ret (tied t c (term_of v.terms)))))
    bit_law t c =
        Lawful-then (entry_spec p (a_term p true)) (λ e. tie_last t c (the_bit e))
        (join_mark (entry_spec p (a_term p true)) (λ e. tie_last t c (the_bit e)) entry_solid entry_marks (λ e. refl) (λ e u t q same. entry_round e t q same))
        (entry_at p (a_term p true))
        (λ v. then_read (mark_at MarksOnly CloseRound (as_kind v.behind)) (λ u. ret (tied t c (term_of v.terms))))
        (entry_law p (a_term p true) (a_term_place p true)) (λ e. (last_law t c (the_bit e)).sound) (λ e kept. last_law t c (the_bit e))

    comma_law : (t : Tie) (c : Con) → Lawful (mark_then Comma None (tie_bit t c)) (then_read (mark_at MarksOnly Comma None) (λ u. then_read (entry_at p (a_term p true)) (λ v. then_read (mark_at MarksOnly CloseRound (as_kind v.behind)) (λ u. ret (tied t c (term_of v.terms))))))
    comma_law t c = Lawful-mark_then Comma None (λ kind e. cc) (tie_bit t c) _ (bit_law t c).sound (λ kept. bit_law t c)

    tie_law : (t : Tie) → Lawful (tie_spec (constraint_spec d) n t) (tie_at p n read t)
    unfolding tie_at
    tie_law t =
        let of = constraint_spec d (inside n) in
        let child = Lawful-then of (λ c. mark_then Comma None (tie_bit t (of.value c)))
        (join_mark of (λ c. mark_then Comma None (tie_bit t (of.value c))) constraint_solid (λ c u e. refl) (λ c. refl) (λ c y u q e. refl))
        (read (inside n))
        (λ c. then_read (mark_at MarksOnly Comma None) (λ u. then_read (entry_at p (a_term p true)) (λ v. then_read (mark_at MarksOnly CloseRound (as_kind v.behind)) (λ u. ret (tied t c (term_of v.terms))))))
        (law (inside n)) (λ c. (comma_law t (of.value c)).sound) (λ c kept. comma_law t (of.value c)) in
        Lawful-mark_then OpenRound None (λ kind e. cc) (tie_child (constraint_spec d) n t) _ child.sound (λ kept. child)

  pub behind_law : (d e : ℕ) (s : Before) → ((z : Before) → Lawful (constraint_spec e z) (constraint_at p e z)) → (f : Form) → Lawful (after d s (constraint_spec e) f) (behind_form p s (constraint_at p e) f)
  behind_law d e s law (of_leaf f) = leaf_law p s.cells f
  behind_law d e s law (of_gather g) = gather_law e (constraint_at p e) law s.cells g
  behind_law d e s law (of_tie t) = tie_law e (constraint_at p e) law s.cells t

  last_sound : (d : ℕ) (s : Before) (f : Form) → Sound (at_last d s f)
  last_sound d s (of_leaf f) = (leaf_law p s.cells f).sound
  last_sound d s (of_gather g) = Sound-unread (gather_spec (constraint_spec d) s.cells g).spell (gather_spec (constraint_spec d) s.cells g).value MarksOnly (gather_spec (constraint_spec d) s.cells g).any
  last_sound d s (of_tie t) = Sound-unread (tie_spec (constraint_spec d) s.cells t).spell (tie_spec (constraint_spec d) s.cells t).value MarksOnly (tie_spec (constraint_spec d) s.cells t).any

  never_kept : (full : Bool) → on (lesser (when full (kinds.Limit limits.Constraints)) (at_depth zero)) ≡ [] → ⊥
  never_kept true e = cc
  never_kept false e = cc

  last_law_of : (d : ℕ) (s : Before) → depth_inside d ≡ None → (f : Form) → (name d s).breaks f ≡ [] → Lawful (at_last d s f) (behind_form p s (λ z. never) f)
  last_law_of zero s same (of_leaf f) kept = leaf_law p s.cells f
  last_law_of (suc d) s same (of_leaf f) kept = leaf_law p s.cells f
  last_law_of zero s same (of_gather g) kept = absurd (never_kept s.full kept)
  last_law_of (suc d) s same (of_gather g) kept = absurd cc
  last_law_of zero s same (of_tie t) kept = absurd (never_kept s.full kept)
  last_law_of (suc d) s same (of_tie t) kept = absurd cc

  smaller : (d e : ℕ) → depth_inside d ≡ Some e → e < d
  smaller zero e same = cc
  smaller (suc d) e same = let x : d ≡ e = cc in omega arith

  turn : (d : ℕ) (s : Before) (ts : List Terminal) → then_read (form_at d s) (behind_form p s (within (constraint_at p) (depth_inside d))) ts ≡ constraint_at p d s ts
  unfolding constraint_at
  turn zero s ts = refl
  turn (suc d) s ts = refl

-- 4. The same trees
pub children_of : Items Constraint → Children
children_of (final c) = one_child c
children_of (also c l) = child_and c (children_of l)

pub items_of : Children → Items Constraint
items_of (one_child c) = final c
items_of (child_and c cs) = also c (items_of cs)

children_again : (cs : Children) → children_of (items_of cs) ≡ cs
unfolding children_of items_of
children_again (one_child c) = refl
children_again (child_and c cs) = ap (λ r. child_and c r) (children_again cs)

children_spell : (l : Items Constraint) → spell_children (children_of l) ≡ spell_items CloseCurly spell_constraint l
unfolding children_of
children_spell (final c) = refl
children_spell (also c l) = ap (λ r. spell_constraint c ++ mark Comma ∷ r) (children_spell l)

children_value : (p : Problem) (l : Items Constraint) (d n : ℕ) (before : List Con) → value_children p (children_of l) n before ≡ value_items (child_judge p (constraint_spec p d) n) with_child l before
unfolding children_of
children_value p (final c) d n before = refl
children_value p (also c l) d n before = children_value p l d n (before ++ value_constraint p c (cells_behind n before) ∷ [])

children_breaks : (p : Problem) (l : Items Constraint) (d n : ℕ) (before : List Con) → first (breaks_children p (children_of l) d n before) ≡ first (breaks_items (child_judge p (constraint_spec p d) n) l before)
unfolding children_of
children_breaks p (final c) d n before = ap first (sym (append-nil (breaks_constraint p c d (inside (cells_behind n before)))))
children_breaks p (also c l) d n before =
    let later = before ++ value_constraint p c (cells_behind n before) ∷ [] in
    alike_append (breaks_constraint p c d (inside (cells_behind n before))) (breaks_constraint p c d (inside (cells_behind n before))) _ _ refl
    (alike_behind (length (spell_constraint c)) _ _ (alike_behind 1 (breaks_children p (children_of l) d n later) (breaks_items (child_judge p (constraint_spec p d) n) l later) (children_breaks p l d n later)))

abbrev pub onto : (f : Form) → Behind f → Constraint
onto (of_leaf f) a = simple f a
onto (of_gather g) (None, u) = gathers_none g
onto (of_gather g) (Some l, u) = gathers g (children_of l)
onto (of_tie t) y = ties t y.0 y.1.0

abbrev pub back : Constraint → (f : Form) × Behind f
back (simple f a) = (of_leaf f, a)
back (gathers_none g) = (of_gather g, (None, tt))
back (gathers g cs) = (of_gather g, (Some (items_of cs), tt))
back (ties t c e) = (of_tie t, (c, (e, tt)))

pub again : (c : Constraint) → onto (back c).0 (back c).1 ≡ c
again (simple f a) = refl
again (gathers_none g) = refl
again (gathers g cs) = ap (λ r. gathers g r) (children_again cs)
again (ties t c e) = refl

module _ (p : Problem) where
  pub view_spell : (d : ℕ) (s : Before) (f : Form) (y : Behind f) → spell_constraint (onto f y) ≡ (pairs p d s).spell (f, y)
  view_spell zero s (of_leaf f) a = ap (λ l. form_token (of_leaf f) ∷ mark OpenRound ∷ l) (spells_row p s.cells (form_line f).takes a)
  view_spell (suc d) s (of_leaf f) a = ap (λ l. form_token (of_leaf f) ∷ mark OpenRound ∷ l) (spells_row p s.cells (form_line f).takes a)
  view_spell zero s (of_gather g) (None, u) = refl
  view_spell (suc d) s (of_gather g) (None, u) = refl
  view_spell zero s (of_gather g) (Some l, u) = ap (λ r. form_token (of_gather g) ∷ mark OpenRound ∷ mark OpenCurly ∷ r ++ mark CloseRound ∷ []) (children_spell l)
  view_spell (suc d) s (of_gather g) (Some l, u) = ap (λ r. form_token (of_gather g) ∷ mark OpenRound ∷ mark OpenCurly ∷ r ++ mark CloseRound ∷ []) (children_spell l)
  view_spell zero s (of_tie t) y = refl
  view_spell (suc d) s (of_tie t) y = refl

  thrice : (bs : List Break) → behind 1 (behind 1 (behind 1 bs)) ≡ behind 3 bs
  thrice bs = ap (λ l. behind 1 l) (behind_behind 1 1 bs) ∙ behind_behind 1 2 bs

  pub view_breaks : (d : ℕ) (s : Before) (f : Form) (y : Behind f) → first (breaks_constraint p (onto f y) d s) ≡ first ((pairs p d s).breaks (f, y))
  view_breaks zero s (of_leaf f) a = ap (λ l. first (on (at_form zero s (of_leaf f)) ++ l)) (sym (behind_behind 1 1 _))
  view_breaks (suc d) s (of_leaf f) a = ap (λ l. first (on (at_form (suc d) s (of_leaf f)) ++ l)) (sym (behind_behind 1 1 _))
  view_breaks zero s (of_gather g) (None, u) = ap first (sym (append-nil (on (at_form zero s (of_gather g)))))
  view_breaks (suc d) s (of_gather g) (None, u) = ap first (sym (append-nil (on (at_form (suc d) s (of_gather g)))))
  view_breaks zero s (of_gather g) (Some l, u) = ap first (sym (append-nil (on (at_form zero s (of_gather g)))))
  view_breaks (suc d) s (of_gather g) (Some l, u) =
      let listed = breaks_items (child_judge p (constraint_spec p d) s.cells) l [] in
      alike_append (on (at_form (suc d) s (of_gather g))) (on (at_form (suc d) s (of_gather g))) _ _ refl
      (alike_behind 3 (breaks_children p (children_of l) d s.cells []) (listed ++ []) (children_breaks p l d s.cells [] ∙ ap first (sym (append-nil listed)))
      ∙ ap first (sym (thrice (listed ++ []))))
  view_breaks zero s (of_tie t) y = ap first (sym (append-nil (on (at_form zero s (of_tie t)))))
  view_breaks (suc d) s (of_tie t) y = ap (λ l. first (on (at_form (suc d) s (of_tie t)) ++ l)) (sym (behind_behind 1 1 _))

  pub view_value : (d : ℕ) (s : Before) (f : Form) (y : Behind f) → value_constraint p (onto f y) s.cells ≡ (pairs p d s).value (f, y)
  view_value zero s (of_leaf f) a = refl
  view_value (suc d) s (of_leaf f) a = refl
  view_value zero s (of_gather g) (None, u) = refl
  view_value (suc d) s (of_gather g) (None, u) = refl
  view_value zero s (of_gather g) (Some l, u) = ap (gathered g) (children_value p l zero s.cells [])
  view_value (suc d) s (of_gather g) (Some l, u) = ap (gathered g) (children_value p l d s.cells [])
  view_value zero s (of_tie t) y = refl
  view_value (suc d) s (of_tie t) y = refl

  pub view_blocks : (d : ℕ) (s : Before) (f : Form) (y : Behind f) (t : Terminal) → false ≡ (pairs p d s).blocks (f, y) t
  view_blocks zero s (of_leaf f) y t = refl
  view_blocks (suc d) s (of_leaf f) y t = refl
  view_blocks zero s (of_gather g) y t = refl
  view_blocks (suc d) s (of_gather g) y t = refl
  view_blocks zero s (of_tie u) y t = refl
  view_blocks (suc d) s (of_tie u) y t = sym (nothing_on (blocks_entry y.1.0 t))

  view : (d : ℕ) (s : Before) → IsView (pairs p d s) (constraint_spec p d s)
  view d s = record {
    onto = λ y. onto y.0 y.1;
    back = back;
    again = again;
    spell = λ y. view_spell d s y.0 y.1;
    breaks = λ y. view_breaks d s y.0 y.1;
    value = λ y. view_value d s y.0 y.1;
    blocks = λ y t. view_blocks d s y.0 y.1 t;
    start = refl;
  }

-- 5. So constraints are read, where d may stand inside one another
pub constraint_law : (p : Problem) (d : ℕ) (s : Before) → Lawful (constraint_spec p d s) (constraint_at p d s)
constraint_law p = nest_law depth_inside (λ d. d) name (after p) (at_last p) (constraint_spec p) form_at (λ d. behind_form p) (constraint_at p) (record {
  turn = turn p;
  smaller = smaller p;
  names = name_law;
  joins = λ d s. join_leaf Fixed form_token (λ f. f) (at_form d s) (of_leaf form.Eq) (following p d s);
  deeper = λ d e s same law f. behind_law p d e s law f;
  deepest = λ d s same f. last_sound p d s f;
  deepest_reads = λ d s same f kept. last_law_of p d s same f kept;
  view = view p;
})
