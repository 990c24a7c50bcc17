-- The reader of whole texts is lawful.
use Rattle.std.proofs.Common.{◌≡◌, ◌⊎◌, false, pos, List, [], ◌∷◌, ◌++◌, length, codes, Option, None, refl, sym, ap, ◌∙◌, inl, inr}
use Rattle.std.proofs.lemmas.Bool.{or_from, and_left}
use Rattle.mn_lexer.specs.Terminals.{Terminal, word, number}
use Rattle.mn_lexer.specs.declared.LexFault.{LexFault}
use Rattle.mn_grammar.specs.Places.{Break, behind}
use Rattle.mn_grammar.specs.Reading as reading
use Rattle.mn_grammar.specs.Reading.{Turn, goes_on, is_done, word_at, then_read, ret}
use Rattle.mn_grammar.specs.Lawful.{Spec, first, Lawful}
use Rattle.mn_grammar.specs.Laws.{IsExact}
use Rattle.mn_grammar.specs.declared.site.Site.TheVariants.{Fixed}
use Rattle.mn_grammar.proofs.Breaks.{behind_behind}
use Rattle.mn_grammar.proofs.Sites.{Fits-none}
use Rattle.mn_grammar.proofs.Leaves.{leaf}
use Rattle.mn_grammar.proofs.Words.{Lawful-word}
use Rattle.mn_grammar.proofs.Classes.{Lawful-one_of}
use Rattle.mn_grammar.proofs.Joins.{joined}
use Rattle.mn_grammar.proofs.Steps.{valued, Lawful-valued, token_then, Lawful-token_then, Lawful-leaf_then}
use Rattle.mn_grammar.proofs.Loops.{Turns, last, more, turns, Loop, Lawful-loop}
use Rattle.mn_grammar.proofs.Sections.{going, Lawful-going, ending, Lawful-ending}
use Rattle.mn_grammar.proofs.Views.{Lawful-view}
use Rattle.mn_grammar.proofs.Exact.{exact}
use Rattle.mn_model.specs.Problem.{Problem}
use Rattle.mn_cursor.specs.Heads.{head_token, all_heads}
use Rattle.mn_asking.specs.Search as asks
use Rattle.mn_asking.specs.Searching.{search_at}
use Rattle.mn_decls.specs.TupleLists.{TupleList as Tuples, tuplelist_spec, tuplelist_at, whole}
use Rattle.mn_decls.specs.Variables.{Entry, declares, names, variables_spec, variables_at}
use Rattle.mn_cursor.specs.declared.heads.Head.{Head}
use Rattle.mn_cursor.specs.declared.heads.Head.TheVariants.{Variables, TupleList, Search, Constraints, End}
use Rattle.mn_cursor.proofs.HeadTokens.{head_known}
use Rattle.mn_asking.proofs.Askable as askable
use Rattle.mn_decls.proofs.TupleListLaw.{lists_law}
use Rattle.mn_decls.proofs.VariableLaw as variable_law
use Rattle.mn_language.specs.Constraints.{Constraint, simple, gathers_none, gathers, ties, constraints_spec}
use Rattle.mn_language.specs.Constructing.{constraints_at}
use Rattle.mn_language.specs.Texts.{Section, variables, tuple_lists, search, constraints, first_head, spell_entries, spell_sections, spell_text, Stated, nothing_stated, asking, breaks_entries, after_section, breaks_sections, value_sections, breaks_text, text_spec}
use Rattle.mn_language.specs.WholeTexts.{Place, with_problem, with_asking, no_break, section_at, place_at, behind_head, any_head, sections_at, version_token, version_at, behind_title, text_at}
use Rattle.mn_language.proofs.SectionLaw.{constraints_law}

-- 1. A section behind its head: which trees it has hangs on the head
abbrev pub Entries : Head → Type 0
Entries Variables = List Entry × Head
Entries TupleList = List Tuples × Head
Entries Search = asks.Section
Entries Constraints = List Constraint × Head
Entries End = ⊥

abbrev pub Ends : Head → Type 0
Ends End = Unit {0}
Ends _ = ⊥

abbrev pub variables_turn : Stated → Spec (List Entry × Head) Place
variables_turn s = valued (with_problem s) (variables_spec s.problem)

abbrev pub lists_turn : Stated → Spec (List Tuples × Head) Place
lists_turn s = valued (with_problem s) (tuplelist_spec s.problem)

abbrev pub search_turn : Stated → Spec asks.Section Place
search_turn s = valued with_asking (askable.section_spec (asking s))

abbrev pub constraints_turn : Stated → Spec (List Constraint × Head) Place
constraints_turn s = valued (with_problem s) (constraints_spec s.problem)

abbrev pub turn_of : Stated → (h : Head) → Spec (Entries h ⊎ Ends h) (Turn Place Problem)
turn_of s Variables = going (variables_turn s)
turn_of s TupleList = going (lists_turn s)
turn_of s Search = going (search_turn s)
turn_of s Constraints = going (constraints_turn s)
turn_of s End = ending Fixed s.problem

abbrev pub next_of : Stated → (h : Head) → Entries h → Place
next_of s Variables x = (variables_turn s).value x
next_of s TupleList x = (lists_turn s).value x
next_of s Search x = (search_turn s).value x
next_of s Constraints x = (constraints_turn s).value x
next_of s End x = absurd x

abbrev pub done_of : Stated → (h : Head) → Ends h → Problem
done_of s h e = s.problem

abbrev pub Goes : Place → Type 0
Goes z = Entries z.head

abbrev pub Last : Place → Type 0
Last z = Ends z.head

abbrev pub turn : (z : Place) → Spec (Goes z ⊎ Last z) (Turn Place Problem)
turn z = turn_of z.said z.head

abbrev pub next : (z : Place) → Goes z → Place
next z x = next_of z.said z.head x

abbrev pub done : (z : Place) → Last z → Problem
done z e = done_of z.said z.head e

abbrev pub Sections : Stated → Head → Type 0
Sections s h = Turns Goes Last next (record { said = s; head = h })

abbrev pub some_of : (s : Stated) (h : Head) → Sections s h
some_of s Variables = more ([], End) (last tt)
some_of s TupleList = more ([], End) (last tt)
some_of s Search = more (record { items = []; next = End }) (last tt)
some_of s Constraints = more ([], End) (last tt)
some_of s End = last tt

abbrev pub some : (z : Place) → Turns Goes Last next z
some z = some_of z.said z.head

-- 2. They are a loop
turn_goes : (s : Stated) (h : Head) (x : Entries h) → (turn_of s h).value (inl x) ≡ goes_on (next_of s h x)
turn_goes s Variables x = refl
turn_goes s TupleList x = refl
turn_goes s Search x = refl
turn_goes s Constraints x = refl
turn_goes s End x = absurd x

turn_ends : (s : Stated) (h : Head) (e : Ends h) → (turn_of s h).value (inr e) ≡ is_done (done_of s h e)
turn_ends s Variables e = absurd e
turn_ends s TupleList e = absurd e
turn_ends s Search e = absurd e
turn_ends s Constraints e = absurd e
turn_ends s End e = refl

variables_grow : (es : List Entry) (h : Head) → spell_entries (variables es) h ≡ [] → ⊥
variables_grow [] h e = cc
variables_grow (declares d ∷ es) h e = cc
variables_grow (names a ∷ es) h e = cc

lists_grow : (ls : List Tuples) (h : Head) → spell_entries (tuple_lists ls) h ≡ [] → ⊥
lists_grow [] h e = cc
lists_grow (l ∷ ls) h e = cc

search_grows : (items : List asks.Item) (h : Head) → spell_entries (search items) h ≡ [] → ⊥
search_grows [] h e = cc
search_grows (asks.var_order static refs ∷ items) h e = cc
search_grows (asks.val_order ways ∷ items) h e = cc
search_grows (asks.objective maximise r ∷ items) h e = cc
search_grows (asks.print printing ∷ items) h e = cc

constraints_grow : (cs : List Constraint) (h : Head) → spell_entries (constraints cs) h ≡ [] → ⊥
constraints_grow [] h e = cc
constraints_grow (simple f a ∷ cs) h e = cc
constraints_grow (gathers_none g ∷ cs) h e = cc
constraints_grow (gathers g ds ∷ cs) h e = cc
constraints_grow (ties t c r ∷ cs) h e = cc

turn_grows : (s : Stated) (h : Head) (x : Entries h) → (turn_of s h).spell (inl x) ≡ [] → ⊥
turn_grows s Variables x e = variables_grow x.0 x.1 e
turn_grows s TupleList x e = lists_grow x.0 x.1 e
turn_grows s Search x e = search_grows x.items x.next e
turn_grows s Constraints x e = constraints_grow x.0 x.1 e
turn_grows s End x e = x

turn_blocks : (s : Stated) (h : Head) (x : Entries h) (t : Terminal) → (turn_of s h).blocks (inl x) t ≡ false
turn_blocks s Variables x t = refl
turn_blocks s TupleList x t = refl
turn_blocks s Search x t = refl
turn_blocks s Constraints x t = refl
turn_blocks s End x t = absurd x

last_blocks : (s : Stated) (h : Head) (e : Ends h) (t : Terminal) → (turn_of s h).blocks (inr e) t ≡ false
last_blocks s Variables e t = absurd e
last_blocks s TupleList e t = absurd e
last_blocks s Search e t = absurd e
last_blocks s Constraints e t = absurd e
last_blocks s End e t = refl

pub is_loop : Loop turn next done some
is_loop = record {
  goes = λ z x. turn_goes z.said z.head x;
  ends = λ z e. turn_ends z.said z.head e;
  grows = λ z x e. turn_grows z.said z.head x e;
  apart = λ z x gs t q e. turn_blocks z.said z.head x t;
  fits = λ z x. Fits-none (turn (next z x)).start (turn_blocks z.said z.head x);
  fits_last = λ z e. Fits-none (turn z).start (last_blocks z.said z.head e);
}

section_law : (s : Stated) (h : Head) → Lawful (turn_of s h) (section_at s h)
unfolding section_at
section_law s Variables =
    Lawful-going (variables_turn s) (then_read (variables_at s.problem) (λ r. ret (with_problem s r)))
    (Lawful-valued (with_problem s) (variables_spec s.problem) (variables_at s.problem) (variable_law.section_law s.problem))
section_law s TupleList =
    Lawful-going (lists_turn s) (then_read (tuplelist_at s.problem) (λ r. ret (with_problem s r)))
    (Lawful-valued (with_problem s) (tuplelist_spec s.problem) (tuplelist_at s.problem) (lists_law (whole s.problem)))
section_law s Search =
    Lawful-going (search_turn s) (then_read (search_at (asking s)) (λ r. ret (with_asking r)))
    (Lawful-valued with_asking (askable.section_spec (asking s)) (search_at (asking s)) (askable.section_law (asking s)))
section_law s Constraints =
    Lawful-going (constraints_turn s) (then_read (constraints_at s.problem) (λ r. ret (with_problem s r)))
    (Lawful-valued (with_problem s) (constraints_spec s.problem) (constraints_at s.problem) (constraints_law s.problem))
section_law s End = Lawful-ending Fixed s.problem

pub place_law : (z : Place) → Lawful (turn z) (place_at z)
place_law z = section_law z.said z.head

abbrev sections_spec : (s : Stated) (h : Head) → Spec (Sections s h) Problem
sections_spec s h = turns turn next done some (record { said = s; head = h })

sections_law : (s : Stated) (h : Head) → Lawful (sections_spec s h) (behind_head s h)
unfolding behind_head
sections_law s h = Lawful-loop turn next done some is_loop place_at place_law (record { said = s; head = h })

-- 3. The text, by these trees
abbrev heads_leaf : Spec Head Head
heads_leaf = leaf Fixed head_token (λ h. h) no_break End

heads_law : Lawful heads_leaf any_head
unfolding any_head
heads_law = Lawful-one_of Fixed head_token all_heads no_break End head_known ((refl, refl), (head_token End, refl, refl)) (λ h k e. cc)

headed_law : Lawful (joined heads_leaf (sections_spec nothing_stated)) (sections_at nothing_stated)
unfolding sections_at
headed_law = Lawful-leaf_then Fixed head_token (λ h. h) no_break End any_head (sections_spec nothing_stated) (behind_head nothing_stated) heads_law (sections_law nothing_stated)

abbrev version_spec : Spec ((h : Head) × Sections nothing_stated h) Problem
version_spec = token_then Fixed (number (pos 3)) None (joined heads_leaf (sections_spec nothing_stated))

version_leaf_law : Lawful (leaf Fixed version_token (λ u. u) no_break tt) version_at
unfolding version_at
version_leaf_law = Lawful-one_of Fixed version_token (tt ∷ []) no_break tt (λ u. refl) ((refl, refl), (number (pos 3), refl, refl)) (λ u k e. cc)

version_law : Lawful version_spec behind_title
unfolding behind_title
version_law = Lawful-token_then Fixed (number (pos 3)) None version_at (joined heads_leaf (sections_spec nothing_stated)) (sections_at nothing_stated) version_leaf_law headed_law.sound (λ kept. headed_law)

abbrev titled : Spec ((h : Head) × Sections nothing_stated h) Problem
titled = token_then Fixed (word (codes "MINION")) None version_spec

titled_law : Lawful titled text_at
unfolding text_at
titled_law = Lawful-token_then Fixed (word (codes "MINION")) None (word_at (codes "MINION") None) version_spec behind_title (Lawful-word (codes "MINION") None refl (λ k e. cc)) version_law.sound (λ kept. version_law)

-- 4. The same trees as they are published
abbrev section_of : (h : Head) → Entries h → Section
section_of Variables x = variables x.0
section_of TupleList x = tuple_lists x.0
section_of Search x = search x.items
section_of Constraints x = constraints x.0
section_of End x = absurd x

abbrev onto : (z : Place) → Turns Goes Last next z → List Section
onto z (last e) = []
onto z (more x xs) = section_of z.head x ∷ onto (next z x) xs

first_onto : (s : Stated) (h : Head) (xs : Sections s h) → first_head (onto (record { said = s; head = h }) xs) ≡ h
first_onto s Variables (last e) = absurd e
first_onto s TupleList (last e) = absurd e
first_onto s Search (last e) = absurd e
first_onto s Constraints (last e) = absurd e
first_onto s End (last e) = refl
first_onto s Variables (more x xs) = refl
first_onto s TupleList (more x xs) = refl
first_onto s Search (more x xs) = refl
first_onto s Constraints (more x xs) = refl
first_onto s End (more x xs) = absurd x

first_of : (z : Place) (xs : Turns Goes Last next z) → first_head (onto z xs) ≡ z.head
first_of z xs = first_onto z.said z.head xs

-- the head behind a section is that of the next
abbrev head_behind : (h : Head) → Entries h → Head
head_behind Variables x = x.1
head_behind TupleList x = x.1
head_behind Search x = x.next
head_behind Constraints x = x.1
head_behind End x = absurd x

behind_next : (s : Stated) (h : Head) (x : Entries h) → (next_of s h x).head ≡ head_behind h x
behind_next s Variables x = refl
behind_next s TupleList x = refl
behind_next s Search x = refl
behind_next s Constraints x = refl
behind_next s End x = absurd x

said_next : (s : Stated) (h : Head) (x : Entries h) → (next_of s h x).said ≡ after_section s (section_of h x)
said_next s Variables x = refl
said_next s TupleList x = refl
said_next s Search x = refl
said_next s Constraints x = refl
said_next s End x = absurd x

entries_spell : (s : Stated) (h : Head) (x : Entries h) → spell_entries (section_of h x) (head_behind h x) ≡ (turn_of s h).spell (inl x)
entries_spell s Variables x = refl
entries_spell s TupleList x = refl
entries_spell s Search x = refl
entries_spell s Constraints x = refl
entries_spell s End x = absurd x

entries_break : (s : Stated) (h : Head) (x : Entries h) → breaks_entries s (section_of h x) ≡ (turn_of s h).breaks (inl x)
entries_break s Variables x = refl
entries_break s TupleList x = refl
entries_break s Search x = refl
entries_break s Constraints x = refl
entries_break s End x = absurd x

-- a section with the head of those behind it is spelled as it is in the loop
section_spells : (z : Place) (x : Goes z) (xs : Turns Goes Last next (next z x)) → spell_entries (section_of z.head x) (first_head (onto (next z x) xs)) ≡ (turn z).spell (inl x)
section_spells z x xs =
    ap (λ h. spell_entries (section_of z.head x) h) (first_of (next z x) xs ∙ behind_next z.said z.head x) ∙ entries_spell z.said z.head x

last_spells : (s : Stated) (h : Head) (e : Ends h) → [] ≡ (turn_of s h).spell (inr e)
last_spells s Variables e = absurd e
last_spells s TupleList e = absurd e
last_spells s Search e = absurd e
last_spells s Constraints e = absurd e
last_spells s End e = refl

last_breaks : (s : Stated) (h : Head) (e : Ends h) → [] ≡ (turn_of s h).breaks (inr e)
last_breaks s Variables e = absurd e
last_breaks s TupleList e = absurd e
last_breaks s Search e = absurd e
last_breaks s Constraints e = absurd e
last_breaks s End e = refl

all_spell : (z : Place) (xs : Turns Goes Last next z) → spell_sections (onto z xs) ≡ (turns turn next done some z).spell xs
all_spell z (last e) = last_spells z.said z.head e
all_spell z (more x xs) = λ i. section_spells z x xs i ++ all_spell (next z x) xs i

all_break : (z : Place) (xs : Turns Goes Last next z) → breaks_sections z.said (onto z xs) ≡ (turns turn next done some z).breaks xs
all_break z (last e) = last_breaks z.said z.head e
all_break z (more x xs) =
    ap (λ s. breaks_entries z.said (section_of z.head x) ++ behind (length (spell_entries (section_of z.head x) (first_head (onto (next z x) xs)))) (breaks_sections s (onto (next z x) xs))) (sym (said_next z.said z.head x))
    ∙ (λ i. entries_break z.said z.head x i ++ behind (length (section_spells z x xs i)) (all_break (next z x) xs i))

all_mean : (z : Place) (xs : Turns Goes Last next z) → value_sections z.said (onto z xs) ≡ (turns turn next done some z).value xs
all_mean z (last e) = refl
all_mean z (more x xs) = ap (λ s. value_sections s (onto (next z x) xs)) (sym (said_next z.said z.head x)) ∙ all_mean (next z x) xs

all_end : (z : Place) (xs : Turns Goes Last next z) (t : Terminal) → (turns turn next done some z).blocks xs t ≡ false
all_end z (last e) t = last_blocks z.said z.head e t
all_end z (more x xs) t = or_from _ _ (and_left _ _ (turn_blocks z.said z.head x t)) (all_end (next z x) xs t)

abbrev back : (s : Stated) → (ss : List Section) → Sections s (first_head ss)
back s [] = last tt
back s (variables ds ∷ ss) = more (ds, first_head ss) (back (after_section s (variables ds)) ss)
back s (tuple_lists ls ∷ ss) = more (ls, first_head ss) (back (after_section s (tuple_lists ls)) ss)
back s (search items ∷ ss) = more (record { items = items; next = first_head ss }) (back (after_section s (search items)) ss)
back s (constraints cs ∷ ss) = more (cs, first_head ss) (back (after_section s (constraints cs)) ss)

again : (s : Stated) (ss : List Section) → onto (record { said = s; head = first_head ss }) (back s ss) ≡ ss
again s [] = refl
again s (variables ds ∷ ss) = ap (λ l. variables ds ∷ l) (again (after_section s (variables ds)) ss)
again s (tuple_lists ls ∷ ss) = ap (λ l. tuple_lists ls ∷ l) (again (after_section s (tuple_lists ls)) ss)
again s (search items ∷ ss) = ap (λ l. search items ∷ l) (again (after_section s (search items)) ss)
again s (constraints cs ∷ ss) = ap (λ l. constraints cs ∷ l) (again (after_section s (constraints cs)) ss)

abbrev start : Head → Place
start h = record { said = nothing_stated; head = h }

text_spells : (h : Head) (xs : Sections nothing_stated h) → spell_text (onto (start h) xs) ≡ titled.spell (h, xs)
text_spells h xs = λ i. word (codes "MINION") ∷ number (pos 3) ∷ head_token (first_of (start h) xs i) ∷ all_spell (start h) xs i

three_behind : (l : List Break) → behind 3 l ≡ behind 1 (behind 1 (behind 1 l))
three_behind l = sym (behind_behind 1 2 l) ∙ ap (λ m. behind 1 m) (sym (behind_behind 1 1 l))

text_breaks : (h : Head) (xs : Sections nothing_stated h) → breaks_text (onto (start h) xs) ≡ titled.breaks (h, xs)
text_breaks h xs = ap (λ l. behind 3 l) (all_break (start h) xs) ∙ three_behind ((sections_spec nothing_stated h).breaks xs)

-- so whole texts are read as they are published
pub text_law : Lawful text_spec text_at
text_law =
    Lawful-view titled text_spec
    (record {
      onto = λ p. onto (start p.0) p.1;
      back = λ ss. (first_head ss, back nothing_stated ss);
      again = λ ss. again nothing_stated ss;
      spell = λ p. text_spells p.0 p.1;
      breaks = λ p. ap first (text_breaks p.0 p.1);
      value = λ p. all_mean (start p.0) p.1;
      blocks = λ p t. sym (all_end (start p.0) p.1 t);
      start = refl;
    })
    text_at titled_law

pub text_is_exact : (stop : Option LexFault) → IsExact text_spec stop (reading.whole stop text_at)
text_is_exact stop = exact text_spec stop text_at text_law (λ ss t. refl)
