-- Bracketed lists of entries that are read lawfully.
use Rattle.std.proofs.Common.{◌≡◌, ◌⊎◌, ◌+◌, Bool, true, false, ◌||◌, ◌&&◌, List, [], ◌∷◌, ◌++◌, length, Option, Some, None, Ok, Err, refl, sym, ap, ap₂, ◌∙◌, subst, inl, inr, append_assoc, append-nil, length-append}
use Rattle.mn_lexer.specs.Terminals.{Terminal, mark}
use Rattle.mn_lexer.specs.declared.marks.Mark.{Mark}
use Rattle.mn_lexer.specs.declared.marks.Mark.TheVariants.{Comma}
use Rattle.mn_grammar.specs.Tokens.{is_the_mark}
use Rattle.mn_grammar.specs.Kinds.{is_condition}
use Rattle.mn_grammar.specs.Places.{Break, on, behind}
use Rattle.mn_grammar.specs.Reading.{Answer, Reader, go_on, Site, MarksOnly, Turn, goes_on, is_done, then_read, ret, loop, mark_at, end_at}
use Rattle.mn_grammar.specs.Lawful.{Spec, OnlyMarks, first, Lawful}
use Rattle.mn_grammar.specs.Lists.{Items, final, also, spell_items, spell_maybe, Judge, breaks_items, value_items, breaks_maybe, value_maybe, turn_at, items_at, maybe_at}
use Rattle.mn_grammar.proofs.Breaks.{behind_append, behind_behind}
use Rattle.mn_grammar.proofs.Sites.{is_nil, both_nil, Fits-marks, Fits-nothing}
use Rattle.mn_grammar.proofs.Leaves.{nothing, Lawful-ret}
use Rattle.mn_grammar.proofs.Marks.{the_mark, is_itself, is_no_other, a_mark, Lawful-mark, end_token, an_end, Lawful-end}
use Rattle.mn_grammar.proofs.Joins.{joined, Join, Lawful-then}
use Rattle.mn_grammar.proofs.Choices.{either, Choice, Lawful-or}
use Rattle.mn_grammar.proofs.Views.{IsView, Lawful-view}
use Rattle.mn_grammar.proofs.Loops.{Turns, last, more, turns, Loop, Lawful-loop, turn_fails, turn_goes_on, turn_ends}
use Rattle.mn_grammar.specs.declared.Fault.{Fault}
use Rattle.mn_grammar.specs.declared.Kind.{Kind}

-- what would go on with a part that isn't the last counts for nothing
pub nothing_on : (b : Bool) → ((b && false) || false) ≡ false
nothing_on true = refl
nothing_on false = refl

-- The list is closed by `shut`; j judges the entries; `blocks`, `start` and `some` complete an entry's trees.
module _ {A S V : Type 0} (shut : Mark) (j : Judge A S V) (blocks : A → Terminal → Bool) (start : Site) (some : A) where
  -- the trees of an entry
  abbrev pub entry_spec : S → Spec A V
  entry_spec s = record { spell = j.spell; breaks = j.breaks s; value = j.value s; blocks = blocks; start = start; any = some }

  -- What the entries have to show: they have tokens; only marks go on with one, and neither `,` nor the closing mark;
  -- and the conditions on those have kinds of conditions.
  pub record Entries : Type 0 where
    pub other : is_the_mark Comma (mark shut) ≡ false
    pub solid : (a : A) → j.spell a ≡ [] → ⊥
    pub marks : (a : A) → OnlyMarks (blocks a)
    pub no_comma : (a : A) → blocks a (mark Comma) ≡ false
    pub no_shut : (a : A) → blocks a (mark shut) ≡ false
    pub comma_kinds : (s : S) (v : V) (kind : Kind) → j.ends.comma s v ≡ Some kind → is_condition kind ≡ true
    pub close_kinds : (s : S) (v : V) (kind : Kind) → j.ends.close s v ≡ Some kind → is_condition kind ≡ true

module _ {A S V R : Type 0} (shut : Mark) (j : Judge A S V) (blocks : A → Terminal → Bool) (start : Site) (some : A) (result : S → V → R) where
  -- the trees of a list
  abbrev pub items_spec : S → Spec (Items A) R
  items_spec s = record {
    spell = spell_items shut j.spell;
    breaks = λ l. breaks_items j l s;
    value = λ l. value_items j result l s;
    blocks = λ l t. false;
    start = start;
    any = final some;
  }

  module _ (are : Entries shut j blocks start some) where
    abbrev entry : S → Spec A V
    entry s = entry_spec shut j blocks start some s

    abbrev end_of : (s : S) → A → Spec Bool (Turn S R)
    end_of s a = let v = j.value s a in an_end shut (j.ends.comma s v) (j.ends.close s v) (j.ends.next s v) (result s v)

    end_apart : (a : A) (x : Bool) (t : Terminal) (q : List Terminal) → end_token shut x ∷ [] ≡ t ∷ q → blocks a t ≡ false
    end_apart a true t q e = let same : mark Comma ≡ t = cc in subst (λ u. blocks a u ≡ false) same (are.no_comma a)
    end_apart a false t q e = let same : mark shut ≡ t = cc in subst (λ u. blocks a u ≡ false) same (are.no_shut a)

    end_join : (s : S) → Join (entry s) (end_of s)
    end_join s = record {
      apart = λ a x t q e. end_apart a x t q e;
      fits = λ a. are.marks a;
      starts = λ a none. absurd (are.solid a none);
    }

    -- an entry and its end: the list goes on, or is closed
    abbrev spell_turn : A ⊎ A → List Terminal
    spell_turn (inl a) = j.spell a ++ mark Comma ∷ []
    spell_turn (inr a) = j.spell a ++ mark shut ∷ []

    abbrev breaks_turn : S → A ⊎ A → List Break
    breaks_turn s (inl a) = j.breaks s a ++ behind (length (j.spell a)) (on (j.ends.comma s (j.value s a)))
    breaks_turn s (inr a) = j.breaks s a ++ behind (length (j.spell a)) (on (j.ends.close s (j.value s a)))

    abbrev value_turn : S → A ⊎ A → Turn S R
    value_turn s (inl a) = goes_on (j.ends.next s (j.value s a))
    value_turn s (inr a) = is_done (result s (j.value s a))

    abbrev turn : S → Spec (A ⊎ A) (Turn S R)
    turn s = record {
      spell = spell_turn;
      breaks = breaks_turn s;
      value = value_turn s;
      blocks = λ x t. false;
      start = start;
      any = inr some;
    }

    abbrev turn_onto : A → Bool → A ⊎ A
    turn_onto a true = inl a
    turn_onto a false = inr a

    abbrev turn_back : A ⊎ A → A × Bool
    turn_back (inl a) = (a, true)
    turn_back (inr a) = (a, false)

    turn_again : (x : A ⊎ A) → turn_onto (turn_back x).0 (turn_back x).1 ≡ x
    turn_again (inl a) = refl
    turn_again (inr a) = refl

    turn_spell : (a : A) (b : Bool) → spell_turn (turn_onto a b) ≡ j.spell a ++ end_token shut b ∷ []
    turn_spell a true = refl
    turn_spell a false = refl

    turn_breaks : (s : S) (a : A) (b : Bool) → breaks_turn s (turn_onto a b) ≡ (joined (entry s) (end_of s)).breaks (a, b)
    turn_breaks s a true = refl
    turn_breaks s a false = refl

    turn_value : (s : S) (a : A) (b : Bool) → value_turn s (turn_onto a b) ≡ (joined (entry s) (end_of s)).value (a, b)
    turn_value s a true = refl
    turn_value s a false = refl

    turn_view : (s : S) → IsView (joined (entry s) (end_of s)) (turn s)
    turn_view s = record {
      onto = λ p. turn_onto p.0 p.1;
      back = turn_back;
      again = turn_again;
      spell = λ p. turn_spell p.0 p.1;
      breaks = λ p. ap first (turn_breaks s p.0 p.1);
      value = λ p. turn_value s p.0 p.1;
      blocks = λ p t. sym (nothing_on (blocks p.0 t));
      start = refl;
    }

    abbrev next_of : S → A → S
    next_of s a = j.ends.next s (j.value s a)

    abbrev result_of : S → A → R
    result_of s a = result s (j.value s a)

    turn_grows : (a : A) → j.spell a ++ mark Comma ∷ [] ≡ [] → ⊥
    turn_grows a none = are.solid a (both_nil (j.spell a) (mark Comma ∷ []) none).0

    abbrev some_turns : (s : S) → Turns (λ s. A) (λ s. A) next_of s
    some_turns s = last some

    is_loop : Loop turn next_of result_of some_turns
    is_loop = record {
      goes = λ s a. refl;
      ends = λ s a. refl;
      grows = λ s a none. turn_grows a none;
      apart = λ s a gs t q e. refl;
      fits = λ s a. Fits-nothing start;
      fits_last = λ s a. Fits-nothing start;
    }

    abbrev onto : (s : S) → Turns (λ s. A) (λ s. A) next_of s → Items A
    onto s (last a) = final a
    onto s (more a gs) = also a (onto (next_of s a) gs)

    abbrev back : (l : Items A) (s : S) → Turns (λ s. A) (λ s. A) next_of s
    back (final a) s = last a
    back (also a l) s = more a (back l (next_of s a))

    again : (l : Items A) (s : S) → onto s (back l s) ≡ l
    again (final a) s = refl
    again (also a l) s = ap (λ r. also a r) (again l (next_of s a))

    abbrev looped : (s : S) → Spec (Turns (λ s. A) (λ s. A) next_of s) R
    looped s = turns turn next_of result_of some_turns s

    view_spell : (s : S) (gs : Turns (λ s. A) (λ s. A) next_of s) → spell_items shut j.spell (onto s gs) ≡ (looped s).spell gs
    view_spell s (last a) = refl
    view_spell s (more a gs) =
        ap (λ l. j.spell a ++ mark Comma ∷ l) (view_spell (next_of s a) gs)
        ∙ sym (append_assoc (j.spell a) (mark Comma ∷ []) ((looped (next_of s a)).spell gs))

    view_breaks : (s : S) (gs : Turns (λ s. A) (λ s. A) next_of s) → breaks_items j (onto s gs) s ≡ (looped s).breaks gs
    view_breaks s (last a) = refl
    view_breaks s (more a gs) =
        let n = length (j.spell a) in
        let here = on (j.ends.comma s (j.value s a)) in
        let rest = breaks_items j (onto (next_of s a) gs) (next_of s a) in
        let size : n + 1 ≡ length (j.spell a ++ mark Comma ∷ []) = sym (length-append (j.spell a) (mark Comma ∷ [])) in
        ap (λ l. j.breaks s a ++ l) (behind_append n here (behind 1 rest) ∙ ap (λ l. behind n here ++ l) (behind_behind n 1 rest))
        ∙ sym (append_assoc (j.breaks s a) (behind n here) (behind (n + 1) rest))
        ∙ ap₂ (λ m l. (j.breaks s a ++ behind n here) ++ behind m l) size (view_breaks (next_of s a) gs)

    view_value : (s : S) (gs : Turns (λ s. A) (λ s. A) next_of s) → value_items j result (onto s gs) s ≡ (looped s).value gs
    view_value s (last a) = refl
    view_value s (more a gs) = view_value (next_of s a) gs

    view_blocks : (s : S) (gs : Turns (λ s. A) (λ s. A) next_of s) (t : Terminal) → false ≡ (looped s).blocks gs t
    view_blocks s (last a) t = refl
    view_blocks s (more a gs) t = view_blocks (next_of s a) gs t

    view : (s : S) → IsView (looped s) (items_spec s)
    view s = record {
      onto = onto s;
      back = λ l. back l s;
      again = λ l. again l s;
      spell = view_spell s;
      breaks = λ gs. ap first (view_breaks s gs);
      value = view_value s;
      blocks = view_blocks s;
      start = refl;
    }

    module _ (read : S → Reader V) (law : (s : S) → Lawful (entry_spec shut j blocks start some s) (read s)) where
      turn_law : (s : S) → Lawful (turn s) (turn_at shut j.ends result read s)
      turn_law s =
          Lawful-view (joined (entry s) (end_of s)) (turn s) (turn_view s) (turn_at shut j.ends result read s)
          (Lawful-then (entry s) (end_of s) (end_join s) (read s) (λ v. end_at shut (j.ends.comma s v) (j.ends.close s v) (j.ends.next s v) (result s v)) (law s)
          (λ a. (end_law a).sound)
          (λ a kept. end_law a))
        where
          end_law : (a : A) → Lawful (end_of s a) (let v = j.value s a in end_at shut (j.ends.comma s v) (j.ends.close s v) (j.ends.next s v) (result s v))
          end_law a = let v = j.value s a in Lawful-end shut (j.ends.comma s v) (j.ends.close s v) (j.ends.next s v) (result s v) are.other (are.comma_kinds s v) (are.close_kinds s v)

      -- a list of lawful entries is lawful
      pub Lawful-items : (s : S) → Lawful (items_spec s) (items_at shut j.ends result read s)
      unfolding items_at
      Lawful-items s =
          Lawful-view (looped s) (items_spec s) (view s) (loop (turn_at shut j.ends result read) s)
          (Lawful-loop turn next_of result_of some_turns is_loop (turn_at shut j.ends result read) turn_law s)

      -- what a list answers, by what its entry and the end behind it do
      pub entry_fails : (s : S) (ts : List Terminal) (e : Fault) → read s ts ≡ Err e → items_at shut j.ends result read s ts ≡ Err e
      unfolding items_at
      entry_fails s ts e same =
          turn_fails turn next_of result_of some_turns is_loop (turn_at shut j.ends result read) turn_law s ts e
          (ap (λ r. go_on r (λ v. end_at shut (j.ends.comma s v) (j.ends.close s v) (j.ends.next s v) (result s v))) same)

      module _ (s : S) (ts : List Terminal) (v : V) (rest : List Terminal) (entry_is : read s ts ≡ Ok (v, rest)) where
        end_is : (r : Answer (Turn S R)) → end_at shut (j.ends.comma s v) (j.ends.close s v) (j.ends.next s v) (result s v) rest ≡ r → turn_at shut j.ends result read s ts ≡ r
        end_is r same = ap (λ r. go_on r (λ v. end_at shut (j.ends.comma s v) (j.ends.close s v) (j.ends.next s v) (result s v))) entry_is ∙ same

        pub end_fails : (e : Fault) → end_at shut (j.ends.comma s v) (j.ends.close s v) (j.ends.next s v) (result s v) rest ≡ Err e → items_at shut j.ends result read s ts ≡ Err e
        unfolding items_at
        end_fails e same = turn_fails turn next_of result_of some_turns is_loop (turn_at shut j.ends result read) turn_law s ts e (end_is (Err e) same)

        pub list_goes_on : (z : S) (left : List Terminal) → end_at shut (j.ends.comma s v) (j.ends.close s v) (j.ends.next s v) (result s v) rest ≡ Ok (goes_on z, left) → items_at shut j.ends result read s ts ≡ items_at shut j.ends result read z left
        unfolding items_at
        list_goes_on z left same = turn_goes_on turn next_of result_of some_turns is_loop (turn_at shut j.ends result read) turn_law s ts z left (end_is (Ok (goes_on z, left)) same)

        pub list_ends : (r : R) (left : List Terminal) → end_at shut (j.ends.comma s v) (j.ends.close s v) (j.ends.next s v) (result s v) rest ≡ Ok (is_done r, left) → items_at shut j.ends result read s ts ≡ Ok (r, left)
        unfolding items_at
        list_ends r left same = turn_ends turn next_of result_of some_turns is_loop (turn_at shut j.ends result read) turn_law s ts r left (end_is (Ok (is_done r, left)) same)

-- the front of two lists, where the first isn't empty
front_of : (l m : List Terminal) (t : Terminal) (q : List Terminal) → (l ≡ [] → ⊥) → l ++ m ≡ t ∷ q → (r : List Terminal) × (l ≡ t ∷ r)
front_of [] m t q some e = absurd (some refl)
front_of (u ∷ l) m t q some e = let same : u ≡ t = cc in (l, ap (λ x. x ∷ l) same)

not_nil : (b : Bool) (l : List Terminal) → (l ≡ [] → ⊥) → ((b && is_nil l) || false) ≡ false
not_nil b [] some = absurd (some refl)
not_nil b (t ∷ l) some = nothing_on b

module _ {A S V R : Type 0} (shut : Mark) (j : Judge A S V) (blocks : A → Terminal → Bool) (start : Site) (some : A) (empty : Option Kind) (none : R) (result : S → V → R) where
  -- the trees of a list that may be empty
  abbrev pub maybe_spec : S → Spec (Option (Items A)) R
  maybe_spec s = record {
    spell = spell_maybe shut j.spell;
    breaks = λ l. breaks_maybe j empty l s;
    value = λ l. value_maybe j none result l s;
    blocks = λ l t. false;
    start = start;
    any = Some (final some);
  }

  module _ (are : Entries shut j blocks start some) (not_shut : (a : A) (t : Terminal) (q : List Terminal) → j.spell a ≡ t ∷ q → is_the_mark shut t ≡ false) (empty_kinds : (kind : Kind) → empty ≡ Some kind → is_condition kind ≡ true) where
    abbrev shut_spec : Spec (Unit {0} × Unit {0}) R
    shut_spec = joined (a_mark MarksOnly shut empty) (λ u. nothing MarksOnly none)

    shut_law : Lawful shut_spec (then_read (mark_at MarksOnly shut empty) (λ u. ret none))
    shut_law =
        Lawful-then (a_mark MarksOnly shut empty) (λ u. nothing MarksOnly none)
        (record { apart = λ u v t q e. refl; fits = λ u. Fits-nothing MarksOnly; starts = λ u e. absurd cc })
        (mark_at MarksOnly shut empty) (λ u. ret none)
        (Lawful-mark shut empty empty_kinds)
        (λ u. (Lawful-ret MarksOnly none).sound)
        (λ u kept. Lawful-ret MarksOnly none)

    items_solid : (l : Items A) → spell_items shut j.spell l ≡ [] → ⊥
    items_solid (final a) e = are.solid a (both_nil (j.spell a) (mark shut ∷ []) e).0
    items_solid (also a l) e = are.solid a (both_nil (j.spell a) (mark Comma ∷ spell_items shut j.spell l) e).0

    items_apart : (l : Items A) (t : Terminal) (q : List Terminal) → spell_items shut j.spell l ≡ t ∷ q → is_the_mark shut t ≡ false
    items_apart (final a) t q e = let f = front_of (j.spell a) (mark shut ∷ []) t q (are.solid a) e in not_shut a t f.0 f.1
    items_apart (also a l) t q e = let f = front_of (j.spell a) (mark Comma ∷ spell_items shut j.spell l) t q (are.solid a) e in not_shut a t f.0 f.1

    module _ (s : S) where
      abbrev listed : Spec (Items A) R
      listed = items_spec shut j blocks start some result s

      choice : Choice (is_the_mark shut) shut_spec listed
      choice = record {
        begins = λ x. (mark shut, [], refl, is_itself shut);
        starts = λ t e. ((tt, tt), [], ap (λ u. u ∷ []) (sym (the_mark shut t e)));
        apart = λ l t q e. items_apart l t q e;
        fits = Fits-marks start (is_the_mark shut) (is_no_other shut);
      }

      abbrev maybe_onto : (Unit {0} × Unit {0}) ⊎ Items A → Option (Items A)
      maybe_onto (inl x) = None
      maybe_onto (inr l) = Some l

      abbrev maybe_back : Option (Items A) → (Unit {0} × Unit {0}) ⊎ Items A
      maybe_back None = inl (tt, tt)
      maybe_back (Some l) = inr l

      maybe_view : IsView (either (is_the_mark shut) shut_spec listed) (maybe_spec s)
      maybe_view = record {
        onto = maybe_onto;
        back = maybe_back;
        again = elim [ None ↦ refl | Some l ↦ refl ];
        spell = elim [ inl x ↦ refl | inr l ↦ refl ];
        breaks = elim [ inl x ↦ ap first (sym (append-nil (on empty))) | inr l ↦ refl ];
        value = elim [ inl x ↦ refl | inr l ↦ refl ];
        blocks = elim [ inl x ↦ λ t. refl | inr l ↦ λ t. sym (not_nil (is_the_mark shut t) (spell_items shut j.spell l) (items_solid l)) ];
        start = refl;
      }

      -- a list that may be empty, of lawful entries, is lawful
      pub Lawful-maybe : (read : S → Reader V) → ((z : S) → Lawful (entry_spec shut j blocks start some z) (read z)) → Lawful (maybe_spec s) (maybe_at shut j.ends empty none result read s)
      unfolding maybe_at
      Lawful-maybe read law =
          Lawful-view (either (is_the_mark shut) shut_spec listed) (maybe_spec s) maybe_view (maybe_at shut j.ends empty none result read s)
          (Lawful-or (is_the_mark shut) shut_spec listed choice (then_read (mark_at MarksOnly shut empty) (λ u. ret none)) (items_at shut j.ends result read s)
          shut_law (Lawful-items shut j blocks start some result are read law s))
