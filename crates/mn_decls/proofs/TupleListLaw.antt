-- The reader of the section of tuple lists is lawful.
use Rattle.std.proofs.Common.{◌≡◌, ◌⊎◌, ℕ, ℤ, pos, ◌*ℤ◌, Bool, true, false, not, ◌||◌, ◌&&◌, List, [], ◌∷◌, ◌++◌, length, map, Option, Some, None, Ok, Err, drop, is_some, refl, sym, ap, ◌∙◌, subst, if◌then◌else◌, inl, inr, append_assoc, append-nil, int_lt}
use Rattle.mn_lexer.specs.Terminals.{Terminal, word, number, head, mark}
use Rattle.mn_grammar.specs.Tokens.{Name, name_of, number_of, is_number}
use Rattle.mn_grammar.specs.Kinds.{is_condition}
use Rattle.mn_grammar.specs.Places.{on}
use Rattle.mn_grammar.specs.Reading.{go_on, turned, fault_at, judged, Turn, goes_on, is_done, which_either, either_of, number_at, then_read, ret}
use Rattle.mn_grammar.specs.Lawful.{Spec, first, Lawful}
use Rattle.mn_grammar.specs.declared.site.Site.TheVariants.{Mixed, Free}
use Rattle.mn_grammar.specs.declared.Kind.{Kind}
use Rattle.mn_grammar.specs.declared.Kind.TheVariants as kinds
use Rattle.mn_grammar.specs.declared.Limit.TheVariants as limits
use Rattle.mn_grammar.proofs.Breaks.{alike_append, alike_behind, kind_when}
use Rattle.mn_grammar.proofs.Leaves.{nothing, Lawful-one, Lawful-ret}
use Rattle.mn_grammar.proofs.Words.{name_token, name_class, a_number_leaf, Lawful-number}
use Rattle.mn_grammar.proofs.Classes.{set_class, either_token, either_value, either_class}
use Rattle.mn_grammar.proofs.Choices.{either, Choice, Lawful-or}
use Rattle.mn_grammar.proofs.Joins.{joined}
use Rattle.mn_grammar.proofs.Steps.{valued, Lawful-valued, Lawful-leaf_then}
use Rattle.mn_grammar.proofs.Views.{Lawful-view}
use Rattle.mn_grammar.proofs.Loops.{Turns, last, more, turns, Loop, Lawful-loop, loop_turn}
use Rattle.mn_grammar.proofs.Sections.{firsts, body_spec, body_blocks, Lawful-body}
use Rattle.mn_model.specs.Problem.{Problem, listed_as}
use Rattle.mn_cursor.specs.Looks.{first_as}
use Rattle.mn_cursor.specs.Heads.{head_token, all_heads, head_of}
use Rattle.mn_cursor.specs.declared.heads.Head.{Head}
use Rattle.mn_cursor.specs.declared.heads.Head.TheVariants as heads
use Rattle.mn_cursor.proofs.HeadTokens.{head_known}
use Rattle.mn_decls.specs.TupleLists.{TupleList, spell_list, spell_lists, Listing, listed, after_list, is_past_cells, fair_count, fair_size, fair_number, breaks_numbers, breaks_list, breaks_lists, value_lists, lists_spec, number_turn, numbers_at, list_at, judge_first, first_at, listed_before, lists_at}

-- 1. Kinds of conditions
pub kind_if : (b : Bool) (j : Kind) (c : Option Kind) → is_condition j ≡ true → ((k : Kind) → c ≡ Some k → is_condition k ≡ true) → (k : Kind) → (if b then Some j else c) ≡ Some k → is_condition k ≡ true
kind_if true j c is others k e = let same : j ≡ k = cc in subst (λ x. is_condition x ≡ true) same is
kind_if false j c is others k e = others k e

count_kinds : (p : Problem) (z : ℤ) (k : Kind) → fair_count p z ≡ Some k → is_condition k ≡ true
count_kinds p z k e = kind_if (int_lt z (pos 0)) kinds.Shape _ refl (kind_when (is_past_cells p z) (kinds.Limit limits.Cells) refl) k e

size_kinds : (p : Problem) (count z : ℤ) (k : Kind) → fair_size p count z ≡ Some k → is_condition k ≡ true
size_kinds p count z k e = kind_if (int_lt z (pos 1)) kinds.Shape _ refl (kind_when (is_past_cells p (count *ℤ z)) (kinds.Limit limits.Cells) refl) k e

number_kinds : (wanted : ℤ) (before : List ℤ) (z : ℤ) (k : Kind) → fair_number wanted before z ≡ Some k → is_condition k ≡ true
number_kinds wanted before z k e = kind_when (not (int_lt (pos (length before)) wanted)) kinds.Shape refl k e

first_kinds : (s : Listing) (w : List ℕ ⊎ Head) (k : Kind) → judge_first s w ≡ Some k → is_condition k ≡ true
first_kinds s (inl name) k e = kind_if (is_some (listed_as s.problem.tuples name)) kinds.Name _ refl (kind_when s.lacks kinds.Shape refl) k e
first_kinds s (inr h) k e = kind_when s.lacks kinds.Shape refl k e

-- 2. The numbers of a list
abbrev numbers_spec : ℤ → List ℤ → Spec (List ℤ) (List ℤ)
numbers_spec wanted before = record {
  spell = map (λ z. number z);
  breaks = breaks_numbers wanted before;
  value = λ zs. before ++ zs;
  blocks = λ zs t. is_number t;
  start = Mixed;
  any = [];
}

abbrev one_number : ℤ → List ℤ → Spec ℤ (Turn (List ℤ) (List ℤ))
one_number wanted before = valued (λ z. goes_on (before ++ z ∷ [])) (a_number_leaf (fair_number wanted before))

abbrev no_number : List ℤ → Spec (Unit {0}) (Turn (List ℤ) (List ℤ))
no_number before = nothing Mixed (is_done before)

abbrev turn_spec : ℤ → List ℤ → Spec (ℤ ⊎ Unit {0}) (Turn (List ℤ) (List ℤ))
turn_spec wanted before = either is_number (one_number wanted before) (no_number before)

number_starts : (t : Terminal) → is_number t ≡ true → (z : ℤ) × (q : List Terminal) × (number z ∷ [] ≡ t ∷ q)
number_starts (number z) e = (z, [], refl)
number_starts (word bs) e = cc
number_starts (head bs) e = cc
number_starts (mark m) e = cc

choice : (wanted : ℤ) (before : List ℤ) → Choice is_number (one_number wanted before) (no_number before)
choice wanted before = record {
  begins = λ z. (number z, [], refl, refl);
  starts = number_starts;
  apart = λ u t q e. cc;
  fits = tt;
}

turn_law : (wanted : ℤ) (before : List ℤ) → Lawful (turn_spec wanted before) (number_turn wanted before)
turn_law wanted before =
    Lawful-or is_number (one_number wanted before) (no_number before) (choice wanted before)
    (then_read (number_at (fair_number wanted before)) (λ z. ret (goes_on (before ++ z ∷ [])))) (ret (is_done before))
    (Lawful-valued (λ z. goes_on (before ++ z ∷ [])) (a_number_leaf (fair_number wanted before)) (number_at (fair_number wanted before)) (Lawful-number (fair_number wanted before) (number_kinds wanted before)))
    (Lawful-ret Mixed (is_done before))

abbrev next : List ℤ → ℤ → List ℤ
next before z = before ++ z ∷ []

abbrev all : List ℤ → Unit {0} → List ℤ
all before u = before

abbrev Rows : List ℤ → Type 0
Rows = Turns (λ s. ℤ) (λ s. Unit {0}) next

abbrev no_rows : (before : List ℤ) → Rows before
no_rows before = last tt

abbrev looped : ℤ → (before : List ℤ) → Spec (Rows before) (List ℤ)
looped wanted before = turns (turn_spec wanted) next all no_rows before

is_loop : (wanted : ℤ) → Loop (turn_spec wanted) next all no_rows
is_loop wanted = record {
  goes = λ s z. refl;
  ends = λ s u. refl;
  grows = λ s z e. cc;
  apart = λ s z gs t q e. refl;
  fits = λ s z. tt;
  fits_last = λ s u. tt;
}

numbers_onto : (before : List ℤ) → Rows before → List ℤ
numbers_onto before (last u) = []
numbers_onto before (more z gs) = z ∷ numbers_onto (next before z) gs

numbers_back : List ℤ → (before : List ℤ) → Rows before
numbers_back [] before = last tt
numbers_back (z ∷ zs) before = more z (numbers_back zs (next before z))

numbers_again : (zs before : List ℤ) → numbers_onto before (numbers_back zs before) ≡ zs
unfolding numbers_onto numbers_back
numbers_again [] before = refl
numbers_again (z ∷ zs) before = ap (λ l. z ∷ l) (numbers_again zs (next before z))

numbers_spell : (wanted : ℤ) (before : List ℤ) (gs : Rows before) → map (λ z. number z) (numbers_onto before gs) ≡ (looped wanted before).spell gs
unfolding numbers_onto
numbers_spell wanted before (last u) = refl
numbers_spell wanted before (more z gs) = ap (λ l. number z ∷ l) (numbers_spell wanted (next before z) gs)

numbers_breaks : (wanted : ℤ) (before : List ℤ) (gs : Rows before) → first (breaks_numbers wanted before (numbers_onto before gs)) ≡ first ((looped wanted before).breaks gs)
unfolding numbers_onto
numbers_breaks wanted before (last u) = refl
numbers_breaks wanted before (more z gs) =
    alike_append (on (fair_number wanted before z)) (on (fair_number wanted before z)) _ _ refl
    (alike_behind 1 (breaks_numbers wanted (next before z) (numbers_onto (next before z) gs)) ((looped wanted (next before z)).breaks gs) (numbers_breaks wanted (next before z) gs))

numbers_value : (wanted : ℤ) (before : List ℤ) (gs : Rows before) → before ++ numbers_onto before gs ≡ (looped wanted before).value gs
unfolding numbers_onto
numbers_value wanted before (last u) = append-nil before
numbers_value wanted before (more z gs) =
    sym (append_assoc before (z ∷ []) (numbers_onto (next before z) gs)) ∙ numbers_value wanted (next before z) gs

is_blocked : (b : Bool) → b ≡ ((b && true) || false)
is_blocked true = refl
is_blocked false = refl

numbers_blocks : (wanted : ℤ) (before : List ℤ) (gs : Rows before) (t : Terminal) → is_number t ≡ (looped wanted before).blocks gs t
numbers_blocks wanted before (last u) t = is_blocked (is_number t)
numbers_blocks wanted before (more z gs) t = numbers_blocks wanted (next before z) gs t

numbers_law : (wanted : ℤ) (before : List ℤ) → Lawful (numbers_spec wanted before) (numbers_at wanted before)
unfolding numbers_at
numbers_law wanted before = Lawful-view (looped wanted before) (numbers_spec wanted before)
    (record {
      onto = numbers_onto before;
      back = λ zs. numbers_back zs before;
      again = λ zs. numbers_again zs before;
      spell = numbers_spell wanted before;
      breaks = numbers_breaks wanted before;
      value = numbers_value wanted before;
      blocks = numbers_blocks wanted before;
      start = refl;
    })
    (numbers_at wanted before) (Lawful-loop (turn_spec wanted) next all no_rows (is_loop wanted) (number_turn wanted) (turn_law wanted) before)

-- 3. What stands behind a list's name
abbrev numbers_item : Listing → List ℕ → ℤ → ℤ → Spec (List ℤ) Listing
numbers_item s w count size = valued (λ numbers. listed s.problem w count size numbers) (numbers_spec (count *ℤ size) [])

abbrev size_item : Listing → List ℕ → ℤ → Spec ((size : ℤ) × List ℤ) Listing
size_item s w count = joined (a_number_leaf (fair_size s.problem count)) (numbers_item s w count)

abbrev pub list_item : Listing → List ℕ → Spec ((count : ℤ) × ((size : ℤ) × List ℤ)) Listing
list_item s w = joined (a_number_leaf (fair_count s.problem)) (size_item s w)

numbers_item_law : (s : Listing) (w : List ℕ) (count size : ℤ) → Lawful (numbers_item s w count size) (then_read (numbers_at (count *ℤ size) []) (λ numbers. ret (listed s.problem w count size numbers)))
numbers_item_law s w count size =
    Lawful-valued (λ numbers. listed s.problem w count size numbers) (numbers_spec (count *ℤ size) []) (numbers_at (count *ℤ size) []) (numbers_law (count *ℤ size) [])

size_item_law : (s : Listing) (w : List ℕ) (count : ℤ) → Lawful (size_item s w count) (then_read (number_at (fair_size s.problem count)) (λ size. then_read (numbers_at (count *ℤ size) []) (λ numbers. ret (listed s.problem w count size numbers))))
size_item_law s w count =
    Lawful-leaf_then Free (λ z. number z) (λ z. z) (fair_size s.problem count) (pos 0) (number_at (fair_size s.problem count)) (numbers_item s w count)
    (λ size. then_read (numbers_at (count *ℤ size) []) (λ numbers. ret (listed s.problem w count size numbers)))
    (Lawful-number (fair_size s.problem count) (size_kinds s.problem count)) (numbers_item_law s w count)

pub list_law : (s : Listing) (w : List ℕ) → Lawful (list_item s w) (list_at s w)
unfolding list_at
list_law s w =
    Lawful-leaf_then Free (λ z. number z) (λ z. z) (fair_count s.problem) (pos 0) (number_at (fair_count s.problem)) (size_item s w)
    (λ count. then_read (number_at (fair_size s.problem count)) (λ size. then_read (numbers_at (count *ℤ size) []) (λ numbers. ret (listed s.problem w count size numbers))))
    (Lawful-number (fair_count s.problem) (count_kinds s.problem)) (size_item_law s w)

-- 4. A name or a head
abbrev tokens : Name ⊎ Head → Terminal
tokens = either_token name_token head_token

no_name : (h : Head) → name_of (head_token h) ≡ None
no_name heads.Variables = refl
no_name heads.TupleList = refl
no_name heads.Search = refl
no_name heads.Constraints = refl
no_name heads.End = refl

names_wanted : (t : Terminal) (w : List ℕ) → name_of t ≡ Some w → is_some (which_either name_of head_of t) ≡ true
names_wanted t w e = ap (λ o. is_some (either_of o (head_of t))) e

abbrev named_item : Listing → Name → Spec ((count : ℤ) × ((size : ℤ) × List ℤ)) Listing
named_item s n = list_item s n.bytes

abbrev first_spec : Listing → Spec (Name ⊎ Head) (List ℕ ⊎ Head)
first_spec s = firsts Mixed tokens (λ (n : Name). n.bytes) judge_first heads.End named_item listed_before s

first_law : (s : Listing) → Lawful (first_spec s) (first_at s)
unfolding first_at
first_law s = Lawful-one Mixed tokens (either_value (λ n. n.bytes) (λ h. h)) (which_either name_of head_of) (judge_first s) (inr heads.End) (record {
  class = either_class name_token (λ n. n.bytes) name_of head_token (λ h. h) head_of name_class (set_class head_token all_heads head_known) no_name;
  is_site = ((head_token heads.End, refl, refl), inl names_wanted);
  kinds = first_kinds s;
})

-- 5. The section
abbrev body : (s : Listing) → Spec (Turns (λ (z : Listing). (n : Name) × ((count : ℤ) × ((size : ℤ) × List ℤ))) (λ z. Head) (λ z p. (named_item z p.0).value p.1) s) (Problem × Head)
body s = body_spec Mixed tokens (λ (n : Name). n.bytes) judge_first heads.End named_item listed_before s

number_no_name : (n : Name) → is_number (name_token n) ≡ false
number_no_name n = refl

numbers_stop : (x : Name ⊎ Head) (zs : List ℤ) → is_number (tokens x) ≡ false
numbers_stop (inl n) zs = refl
numbers_stop (inr h) zs = refl

body_law : (s : Listing) → Lawful (body s) (lists_at s)
unfolding lists_at
body_law s = Lawful-body Mixed tokens (λ (n : Name). n.bytes) judge_first heads.End named_item listed_before
    (record { apart = λ z n y x. numbers_stop x y.1.1; fits = λ z n y. tt }) first_at list_at first_law (λ z n. list_law z n.bytes) s

-- 6. The same trees as they are published
abbrev Trees : Listing → Type 0
Trees s = Turns (λ (z : Listing). (n : Name) × ((count : ℤ) × ((size : ℤ) × List ℤ))) (λ z. Head) (λ z p. (named_item z p.0).value p.1) s

abbrev a_list : (n : Name) × ((count : ℤ) × ((size : ℤ) × List ℤ)) → TupleList
a_list p = record { name = p.0; count = p.1.0; size = p.1.1.0; numbers = p.1.1.1 }

abbrev after : Listing → (n : Name) × ((count : ℤ) × ((size : ℤ) × List ℤ)) → Listing
after s p = (named_item s p.0).value p.1

lists_onto : (s : Listing) → Trees s → List TupleList
lists_onto s (last h) = []
lists_onto s (more p gs) = a_list p ∷ lists_onto (after s p) gs

head_onto : (s : Listing) → Trees s → Head
head_onto s (last h) = h
head_onto s (more p gs) = head_onto (after s p) gs

trees_back : List TupleList → Head → (s : Listing) → Trees s
trees_back [] h s = last h
trees_back (l ∷ ls) h s = more (l.name, (l.count, (l.size, l.numbers))) (trees_back ls h (after_list s l))

lists_again : (ls : List TupleList) (h : Head) (s : Listing) → lists_onto s (trees_back ls h s) ≡ ls
unfolding lists_onto trees_back
lists_again [] h s = refl
lists_again (l ∷ ls) h s = ap (λ r. l ∷ r) (lists_again ls h (after_list s l))

head_again : (ls : List TupleList) (h : Head) (s : Listing) → head_onto s (trees_back ls h s) ≡ h
unfolding head_onto trees_back
head_again [] h s = refl
head_again (l ∷ ls) h s = head_again ls h (after_list s l)

lists_spell : (s : Listing) (gs : Trees s) → spell_lists (lists_onto s gs) (head_onto s gs) ≡ (body s).spell gs
unfolding lists_onto head_onto
lists_spell s (last h) = refl
lists_spell s (more p gs) = ap (λ r. spell_list (a_list p) ++ r) (lists_spell (after s p) gs)

lists_breaks : (s : Listing) (gs : Trees s) → first (breaks_lists s (lists_onto s gs)) ≡ first ((body s).breaks gs)
unfolding lists_onto
lists_breaks s (last h) = refl
lists_breaks s (more p gs) =
    alike_append (breaks_list s (a_list p)) (breaks_list s (a_list p)) _ _ refl
    (alike_behind (length (spell_list (a_list p))) (breaks_lists (after s p) (lists_onto (after s p) gs)) ((body (after s p)).breaks gs) (lists_breaks (after s p) gs))

lists_value : (s : Listing) (gs : Trees s) → ◌≡◌ {A = Problem × Head} (value_lists s (lists_onto s gs), head_onto s gs) ((body s).value gs)
unfolding lists_onto head_onto
lists_value s (last h) = refl
lists_value s (more p gs) = lists_value (after s p) gs

lists_blocks : (s : Listing) (gs : Trees s) (t : Terminal) → false ≡ (body s).blocks gs t
lists_blocks s gs t = sym (body_blocks Mixed tokens (λ (n : Name). n.bytes) judge_first heads.End named_item listed_before s gs t)

pub lists_law : (s : Listing) → Lawful (lists_spec s) (lists_at s)
lists_law s = Lawful-view (body s) (lists_spec s)
    (record {
      onto = λ gs. (lists_onto s gs, head_onto s gs);
      back = λ x. trees_back x.0 x.1 s;
      again = λ x. λ i. (lists_again x.0 x.1 s i, head_again x.0 x.1 s i);
      spell = lists_spell s;
      breaks = lists_breaks s;
      value = lists_value s;
      blocks = lists_blocks s;
      start = refl;
    })
    (lists_at s) (body_law s)

-- 7. What the reader of numbers answers, by the first token
module _ (wanted : ℤ) (before : List ℤ) where
  numbers_turn : (ts : List Terminal) → numbers_at wanted before ts ≡ go_on (number_turn wanted before ts) (turned (numbers_at wanted))
  unfolding numbers_at
  numbers_turn ts = loop_turn (turn_spec wanted) next all no_rows (is_loop wanted) (number_turn wanted) (turn_law wanted) before ts

  pub numbers_go_on : (ts : List Terminal) (z : ℤ) → first_as number_of ts ≡ Some z → fair_number wanted before z ≡ None → numbers_at wanted before ts ≡ numbers_at wanted (before ++ z ∷ []) (drop 1 ts)
  unfolding number_at
  numbers_go_on [] z is fair = cc
  numbers_go_on (number n ∷ ts) z is fair =
      let same : n ≡ z = cc in
      subst (λ m. numbers_at wanted before (number n ∷ ts) ≡ numbers_at wanted (before ++ m ∷ []) ts) same
      (numbers_turn (number n ∷ ts)
      ∙ ap (λ c. go_on (go_on (judged c n (number n ∷ ts) ts) (λ y. ret (goes_on (before ++ y ∷ [])))) (turned (numbers_at wanted))) (ap (fair_number wanted before) same ∙ fair))
  numbers_go_on (word bs ∷ ts) z is fair = cc
  numbers_go_on (head bs ∷ ts) z is fair = cc
  numbers_go_on (mark m ∷ ts) z is fair = cc

  pub numbers_surplus : (ts : List Terminal) (z : ℤ) → first_as number_of ts ≡ Some z → fair_number wanted before z ≡ Some kinds.Shape → numbers_at wanted before ts ≡ Err (fault_at ts kinds.Shape)
  unfolding number_at
  numbers_surplus [] z is fair = cc
  numbers_surplus (number n ∷ ts) z is fair =
      let same : n ≡ z = cc in
      numbers_turn (number n ∷ ts)
      ∙ ap (λ c. go_on (go_on (judged c n (number n ∷ ts) ts) (λ y. ret (goes_on (before ++ y ∷ [])))) (turned (numbers_at wanted))) (ap (fair_number wanted before) same ∙ fair)
  numbers_surplus (word bs ∷ ts) z is fair = cc
  numbers_surplus (head bs ∷ ts) z is fair = cc
  numbers_surplus (mark m ∷ ts) z is fair = cc

  pub numbers_end : (ts : List Terminal) → first_as number_of ts ≡ None → numbers_at wanted before ts ≡ Ok (before, ts)
  numbers_end [] is = numbers_turn []
  numbers_end (number n ∷ ts) is = cc
  numbers_end (word bs ∷ ts) is = numbers_turn (word bs ∷ ts)
  numbers_end (head bs ∷ ts) is = numbers_turn (head bs ∷ ts)
  numbers_end (mark m ∷ ts) is = numbers_turn (mark m ∷ ts)
