-- Another small language: `less(1,2)` and `any{..}` of any number of forms, one within another, with three `less` in
-- all. It shows a row of arguments with a condition on the values so far, a list that may be empty, nesting to a depth,
-- and a state that goes through all of it.
use Rattle.std.proofs.Common.{◌≡◌, ℕ, ℤ, zero, suc, ◌<◌, Bool, true, false, List, [], ◌∷◌, ◌++◌, length, codes, pos, int_lt, leb, Option, Some, None, Ok, Err, Result, refl, sym, ap, ◌∙◌, arith, append-nil}
use Rattle.mn_lexer.specs.Terminals.{Terminal, word, number, mark}
use Rattle.mn_lexer.specs.declared.marks.Mark.TheVariants.{OpenCurly, CloseCurly, OpenRound, CloseRound, Comma}
use Rattle.mn_grammar.specs.Tokens.{is_the_mark}
use Rattle.mn_grammar.specs.Kinds.{is_condition}
use Rattle.mn_grammar.specs.Places.{Break, when, on, behind}
use Rattle.mn_grammar.specs.Reading.{Reader, Fixed, Free, MarksOnly, which_of, one_of, ret, then_read, loop, mark_at, end_at, number_at, never, within, whole}
use Rattle.mn_grammar.specs.Lawful.{Spec, first, Sound, Lawful}
use Rattle.mn_grammar.specs.Lists.{Items, final, also, spell_items, spell_maybe, Ends, Judge, breaks_items, value_items, value_maybe, items_at, maybe_at}
use Rattle.mn_grammar.specs.Rows.{Sorts, Arguments, row_at}
use Rattle.mn_grammar.proofs.Breaks.{behind_behind, alike_append, alike_behind, kind_when}
use Rattle.mn_grammar.proofs.Leaves.{leaf}
use Rattle.mn_grammar.proofs.Classes.{Lawful-one_of}
use Rattle.mn_grammar.proofs.Words.{Lawful-number}
use Rattle.mn_grammar.proofs.Joins.{joined}
use Rattle.mn_grammar.proofs.Steps.{join_leaf, valued, Lawful-valued, mark_then, Lawful-mark_then}
use Rattle.mn_grammar.proofs.Views.{IsView}
use Rattle.mn_grammar.proofs.Items.{maybe_spec, Lawful-maybe}
use Rattle.mn_grammar.proofs.Tables.{row_spec, row_law}
use Rattle.mn_grammar.proofs.Nested.{unread, Sound-unread, behind_name, nest_law}
use Rattle.mn_grammar.specs.declared.Fault.{Fault}
use Rattle.mn_grammar.specs.declared.Kind.{Kind}
use Rattle.mn_grammar.specs.declared.Kind.TheVariants as kinds
use Rattle.mn_grammar.specs.declared.Limit.TheVariants as limits

-- 1. The language: trees, spelling, conditions by the depth that is left
mutual
  data Form : Type 0 where
    less : ℤ → ℤ → Form
    any_of_none : Form
    any_of : Forms → Form

  data Forms : Type 0 where
    only : Form → Forms
    and_more : Form → Forms → Forms

abbrev mutual
  spell_form : Form → List Terminal
  spell_form (less a b) =
      word (codes "less") ∷ mark OpenRound ∷ number a ∷ mark Comma ∷ number b ∷ mark CloseRound ∷ []
  spell_form any_of_none = word (codes "any") ∷ mark OpenCurly ∷ mark CloseCurly ∷ []
  spell_form (any_of fs) = word (codes "any") ∷ mark OpenCurly ∷ spell_forms fs

  spell_forms : Forms → List Terminal
  spell_forms (only f) = spell_form f ++ mark CloseCurly ∷ []
  spell_forms (and_more f fs) = spell_form f ++ mark Comma ∷ spell_forms fs

abbrev in_order : ℤ → ℤ → Option Kind
in_order a b = when (int_lt b a) kinds.Shape

abbrev deep : ℕ → Option Kind
deep zero = Some (kinds.Limit limits.Nesting)
deep (suc d) = None

abbrev room : ℕ → Option Kind
room n = when (leb 3 n) (kinds.Limit limits.Constraints)

-- the number of `less` behind a form, by that before it
abbrev mutual
  value_form : Form → ℕ → ℕ
  value_form (less a b) n = suc n
  value_form any_of_none n = n
  value_form (any_of fs) n = value_forms fs n

  value_forms : Forms → ℕ → ℕ
  value_forms (only f) n = value_form f n
  value_forms (and_more f fs) n = value_forms fs (value_form f n)

abbrev mutual
  breaks_form : Form → ℕ → ℕ → List Break
  breaks_form (less a b) d n = on (room n) ++ behind 5 (on (in_order a b))
  breaks_form any_of_none d n = on (deep d)
  breaks_form (any_of fs) zero n = on (deep zero)
  breaks_form (any_of fs) (suc d) n = behind 2 (breaks_forms fs d n)

  breaks_forms : Forms → ℕ → ℕ → List Break
  breaks_forms (only f) d n = breaks_form f d n
  breaks_forms (and_more f fs) d n =
      breaks_form f d n ++ behind (length (spell_form f)) (behind 1 (breaks_forms fs d (value_form f n)))

abbrev form_spec : ℕ → ℕ → Spec Form ℕ
form_spec d n = record {
  spell = spell_form;
  breaks = λ f. breaks_form f d n;
  value = λ f. value_form f n;
  blocks = λ f t. false;
  start = Fixed;
  any = any_of_none;
}

-- 2. The sorts of argument, the marks of a list, the names
data Sort : Type 0 where
  a_num : Sort

abbrev Num : Sort → Type 0
Num s = ℤ

abbrev behind_num : Sort → List ℤ → Option Kind
behind_num s (a ∷ b ∷ []) = in_order a b
behind_num s _ = None

abbrev sorts : Sorts Sort ℤ Num
sorts = record {
  spell = λ s z. number z ∷ [];
  breaks = λ s vs z. [];
  value = λ s vs z. z;
  on_mark = behind_num;
}

abbrev row : List Sort
row = a_num ∷ a_num ∷ []

abbrev counted : Ends ℕ ℕ
counted = record { next = λ n v. v; comma = λ n v. None; close = λ n v. None }

abbrev count : ℕ → ℕ → ℕ
count n v = v

abbrev token : Bool → Terminal
token true = word (codes "any")
token false = word (codes "less")

abbrev all_forms : List Bool
all_forms = true ∷ false ∷ []

abbrev judge : ℕ → ℕ → Bool → Option Kind
judge d n true = deep d
judge d n false = room n

-- 3. The reader
abbrev name_at : ℕ → ℕ → Reader Bool
name_at d n = one_of Fixed token all_forms (judge d n)

abbrev after_at : ℕ → ℕ → (ℕ → Reader ℕ) → Bool → Reader ℕ
after_at d n inside true = then_read (mark_at MarksOnly OpenCurly None) (λ u. maybe_at CloseCurly counted None n count inside n)
after_at d n inside false =
    then_read (mark_at MarksOnly OpenRound None) (λ u. then_read (row_at behind_num (λ s vs. number_at (λ z. None)) row) (λ vs. ret (suc n)))

abbrev form_at : ℕ → ℕ → Reader ℕ
form_at zero n = then_read (name_at zero n) (after_at zero n (λ z. never))
form_at (suc d) n = then_read (name_at (suc d) n) (after_at (suc d) n (form_at d))

-- 4. What it reads: a name, and what follows
abbrev Behind : Bool → Type 0
Behind true = Option (Items Form)
Behind false = Arguments Num row

abbrev judge_of : (ℕ → Spec Form ℕ) → Judge Form ℕ ℕ
judge_of s = record { spell = spell_form; breaks = λ n. (s n).breaks; value = λ n. (s n).value; ends = counted }

abbrev listed : ℕ → (ℕ → Spec Form ℕ) → Spec (Option (Items Form)) ℕ
listed n s = maybe_spec CloseCurly (judge_of s) (λ f t. false) Fixed any_of_none None n count n

abbrev numbers : Spec (Arguments Num row) (List ℤ)
numbers = row_spec sorts (λ s z t. false) (λ s. Free) (λ s. pos 0) row

abbrev after : ℕ → ℕ → (ℕ → Spec Form ℕ) → (b : Bool) → Spec (Behind b) ℕ
after d n s true = mark_then OpenCurly None (listed n s)
after d n s false = mark_then OpenRound None (valued (λ vs. suc n) numbers)

abbrev at_last : ℕ → ℕ → (b : Bool) → Spec (Behind b) ℕ
at_last d n true = unread (λ l. mark OpenCurly ∷ spell_maybe CloseCurly spell_form l) (λ l. value_maybe (judge_of (form_spec d)) n count l n) MarksOnly None
at_last d n false = mark_then OpenRound None (valued (λ vs. suc n) numbers)

abbrev inner : ℕ → Option ℕ
inner zero = None
inner (suc d) = Some d

abbrev name : ℕ → ℕ → Spec Bool Bool
name d n = leaf Fixed token (λ b. b) (judge d n) false

abbrev following : (d n : ℕ) → (b : Bool) → Spec (Behind b) ℕ
following d n = behind_name after at_last form_spec d n (inner d)

abbrev pairs : ℕ → ℕ → Spec ((b : Bool) × Behind b) ℕ
pairs d n = joined (name d n) (following d n)

-- 5. The same trees
forms_of : Items Form → Forms
forms_of (final f) = only f
forms_of (also f l) = and_more f (forms_of l)

items_of : Forms → Items Form
items_of (only f) = final f
items_of (and_more f fs) = also f (items_of fs)

forms_again : (fs : Forms) → forms_of (items_of fs) ≡ fs
unfolding forms_of items_of
forms_again (only f) = refl
forms_again (and_more f fs) = ap (λ r. and_more f r) (forms_again fs)

forms_spell : (l : Items Form) → spell_forms (forms_of l) ≡ spell_items CloseCurly spell_form l
unfolding forms_of
forms_spell (final f) = refl
forms_spell (also f l) = ap (λ r. spell_form f ++ mark Comma ∷ r) (forms_spell l)

forms_breaks : (l : Items Form) (d n : ℕ) → first (breaks_forms (forms_of l) d n) ≡ first (breaks_items (judge_of (form_spec d)) l n)
unfolding forms_of
forms_breaks (final f) d n = ap first (sym (append-nil (breaks_form f d n)))
forms_breaks (also f l) d n =
    let z = value_form f n in
    alike_append (breaks_form f d n) (breaks_form f d n) _ _ refl
    (alike_behind (length (spell_form f)) _ _ (alike_behind 1 (breaks_forms (forms_of l) d z) (breaks_items (judge_of (form_spec d)) l z) (forms_breaks l d z)))

forms_value : (l : Items Form) (d n : ℕ) → value_forms (forms_of l) n ≡ value_items (judge_of (form_spec d)) count l n
unfolding forms_of
forms_value (final f) d n = refl
forms_value (also f l) d n = forms_value l d (value_form f n)

abbrev onto : (b : Bool) → Behind b → Form
onto true None = any_of_none
onto true (Some l) = any_of (forms_of l)
onto false p = less p.0 p.1.0

abbrev back : Form → (b : Bool) × Behind b
back (less a b) = (false, (a, (b, tt)))
back any_of_none = (true, None)
back (any_of fs) = (true, Some (items_of fs))

again : (f : Form) → onto (back f).0 (back f).1 ≡ f
again (less a b) = refl
again any_of_none = refl
again (any_of fs) = ap (λ r. any_of r) (forms_again fs)

view_spell : (d n : ℕ) (b : Bool) (y : Behind b) → spell_form (onto b y) ≡ (pairs d n).spell (b, y)
view_spell zero n true None = refl
view_spell (suc d) n true None = refl
view_spell zero n true (Some l) = ap (λ r. word (codes "any") ∷ mark OpenCurly ∷ r) (forms_spell l)
view_spell (suc d) n true (Some l) = ap (λ r. word (codes "any") ∷ mark OpenCurly ∷ r) (forms_spell l)
view_spell zero n false p = refl
view_spell (suc d) n false p = refl

fifth : (c : Option Kind) → behind 5 (on c) ≡ behind 1 (behind 1 (behind 1 (behind 1 (behind 1 (on c)))))
fifth None = refl
fifth (Some k) = refl

view_breaks : (d n : ℕ) (b : Bool) (y : Behind b) → first (breaks_form (onto b y) d n) ≡ first ((pairs d n).breaks (b, y))
view_breaks zero n true None = refl
view_breaks (suc d) n true None = refl
view_breaks zero n true (Some l) = refl
view_breaks (suc d) n true (Some l) =
    alike_behind 2 _ _ (forms_breaks l d n) ∙ ap first (sym (behind_behind 1 1 (breaks_items (judge_of (form_spec d)) l n)))
view_breaks zero n false p = ap (λ l. first (on (room n) ++ l)) (fifth (in_order p.0 p.1.0))
view_breaks (suc d) n false p = ap (λ l. first (on (room n) ++ l)) (fifth (in_order p.0 p.1.0))

view_value : (d n : ℕ) (b : Bool) (y : Behind b) → value_form (onto b y) n ≡ (pairs d n).value (b, y)
view_value zero n true None = refl
view_value (suc d) n true None = refl
view_value zero n true (Some l) = forms_value l zero n
view_value (suc d) n true (Some l) = forms_value l d n
view_value zero n false p = refl
view_value (suc d) n false p = refl

view_blocks : (d n : ℕ) (b : Bool) (y : Behind b) (t : Terminal) → false ≡ (pairs d n).blocks (b, y) t
view_blocks zero n true y t = refl
view_blocks (suc d) n true y t = refl
view_blocks zero n false y t = refl
view_blocks (suc d) n false y t = refl

view : (d n : ℕ) → IsView (pairs d n) (form_spec d n)
view d n = record {
  onto = λ p. onto p.0 p.1;
  back = back;
  again = again;
  spell = λ p. view_spell d n p.0 p.1;
  breaks = λ p. view_breaks d n p.0 p.1;
  value = λ p. view_value d n p.0 p.1;
  blocks = λ p t. view_blocks d n p.0 p.1 t;
  start = refl;
}

-- 6. The names are a class of tokens
known : (b : Bool) → which_of token all_forms (token b) ≡ Some b
known true = refl
known false = refl

judge_kinds : (d n : ℕ) (b : Bool) (kind : Kind) → judge d n b ≡ Some kind → is_condition kind ≡ true
judge_kinds zero n true kind e = kind_when true (kinds.Limit limits.Nesting) refl kind e
judge_kinds (suc d) n true kind e = cc
judge_kinds d n false kind e = kind_when (leb 3 n) (kinds.Limit limits.Constraints) refl kind e

name_law : (d n : ℕ) → Lawful (name d n) (name_at d n)
name_law d n = Lawful-one_of Fixed token all_forms (judge d n) false known ((refl, refl), (word (codes "any"), refl, refl)) (judge_kinds d n)

-- 7. What follows a name is lawful: a row of numbers, or a list of forms
behind_kinds : (s : Sort) (vs : List ℤ) (kind : Kind) → behind_num s vs ≡ Some kind → is_condition kind ≡ true
behind_kinds s [] kind e = cc
behind_kinds s (a ∷ []) kind e = cc
behind_kinds s (a ∷ b ∷ c ∷ vs) kind e = cc
behind_kinds s (a ∷ b ∷ []) kind e = kind_when (int_lt b a) kinds.Shape refl kind e

numbers_law : Lawful numbers (row_at behind_num (λ s vs. number_at (λ z. None)) row)
numbers_law = row_law sorts (λ s z t. false) (λ s. Free) (λ s. pos 0)
    (record {
      solid = λ s z e. cc;
      marks = λ s z t e. refl;
      no_comma = λ s z. refl;
      no_shut = λ s z. refl;
      mark_kinds = behind_kinds;
    })
    (λ s vs. number_at (λ z. None)) (λ s vs. Lawful-number (λ z. None) (λ z kind e. cc)) row

less_law : (n : ℕ) → Lawful {V = ℕ} (mark_then OpenRound None (valued (λ vs. suc n) numbers)) (then_read (mark_at MarksOnly OpenRound None) (λ u. then_read (row_at behind_num (λ s vs. number_at (λ z. None)) row) (λ vs. ret (suc n))))
less_law n =
    let law : Lawful {V = ℕ} (valued (λ vs. suc n) numbers) (then_read (row_at behind_num (λ s vs. number_at (λ z. None)) row) (λ vs. ret (suc n))) = Lawful-valued (λ vs. suc n) numbers (row_at behind_num (λ s vs. number_at (λ z. None)) row) numbers_law in
    Lawful-mark_then OpenRound None (λ kind e. cc) (valued (λ vs. suc n) numbers) _ law.sound (λ kept. law)

form_solid : (f : Form) → spell_form f ≡ [] → ⊥
form_solid (less a b) e = cc
form_solid any_of_none e = cc
form_solid (any_of fs) e = cc

form_not_shut : (f : Form) (t : Terminal) (q : List Terminal) → spell_form f ≡ t ∷ q → is_the_mark CloseCurly t ≡ false
form_not_shut (less a b) t q e = let same : word (codes "less") ≡ t = cc in ap (is_the_mark CloseCurly) (sym same)
form_not_shut any_of_none t q e = let same : word (codes "any") ≡ t = cc in ap (is_the_mark CloseCurly) (sym same)
form_not_shut (any_of fs) t q e = let same : word (codes "any") ≡ t = cc in ap (is_the_mark CloseCurly) (sym same)

any_law : (d n : ℕ) (read : ℕ → Reader ℕ) → ((z : ℕ) → Lawful (form_spec d z) (read z)) → Lawful (mark_then OpenCurly None (listed n (form_spec d))) (then_read (mark_at MarksOnly OpenCurly None) (λ u. maybe_at CloseCurly counted None n count read n))
any_law d n read law =
    let list = Lawful-maybe CloseCurly (judge_of (form_spec d)) (λ f t. false) Fixed any_of_none None n count
    (record {
      other = refl;
      solid = form_solid;
      marks = λ f t e. refl;
      no_comma = λ f. refl;
      no_shut = λ f. refl;
      comma_kinds = λ n v kind e. cc;
      close_kinds = λ n v kind e. cc;
    })
    form_not_shut (λ kind e. cc) n read law in
    Lawful-mark_then OpenCurly None (λ kind e. cc) (listed n (form_spec d)) (maybe_at CloseCurly counted None n count read n) list.sound (λ kept. list)

deeper : (d e n : ℕ) → inner d ≡ Some e → ((z : ℕ) → Lawful (form_spec e z) (form_at e z)) → (b : Bool) → Lawful (after d n (form_spec e) b) (after_at d n (form_at e) b)
deeper d e n same law true = any_law e n (form_at e) law
deeper d e n same law false = less_law n

deepest : (d n : ℕ) → inner d ≡ None → (b : Bool) → Sound (at_last d n b)
deepest d n same true = Sound-unread _ _ MarksOnly None
deepest d n same false = (less_law n).sound

deepest_reads : (d n : ℕ) → inner d ≡ None → (b : Bool) → (name d n).breaks b ≡ [] → Lawful (at_last d n b) (after_at d n (λ z. never) b)
deepest_reads zero n same true kept = absurd cc
deepest_reads (suc d) n same true kept = absurd cc
deepest_reads d n same false kept = less_law n

smaller : (d e : ℕ) → inner d ≡ Some e → e < d
smaller zero e same = cc
smaller (suc d) e same = let x : d ≡ e = cc in omega arith

turn : (d n : ℕ) (ts : List Terminal) → then_read (name_at d n) (after_at d n (within form_at (inner d))) ts ≡ form_at d n ts
turn zero n ts = refl
turn (suc d) n ts = refl

-- 8. So forms are read to any depth
form_law : (d n : ℕ) → Lawful (form_spec d n) (form_at d n)
form_law = nest_law inner (λ d. d) name after at_last form_spec name_at after_at form_at (record {
  turn = turn;
  smaller = smaller;
  names = name_law;
  joins = λ d n. join_leaf Fixed token (λ b. b) (judge d n) false (following d n);
  deeper = deeper;
  deepest = deepest;
  deepest_reads = deepest_reads;
  view = view;
})

-- 9. And what is answered computes
abbrev answer : ℕ → List Terminal → Result ℕ Fault
answer d ts = whole None (form_at d 0) ts

abbrev less_than : ℕ → ℕ → List Terminal
less_than a b = spell_form (less (pos a) (pos b))

one_less : answer 0 (less_than 1 2) ≡ Ok 1
unfolding one_of mark_at number_at
one_less = refl

out_of_order : answer 0 (less_than 2 1) ≡ Err (record { left = 1; kind = kinds.Shape })
unfolding one_of mark_at number_at
out_of_order = refl

two_inside : answer 1 (spell_form (any_of (and_more (less (pos 1) (pos 2)) (only (less (pos 1) (pos 3)))))) ≡ Ok 2
unfolding one_of loop mark_at end_at number_at items_at maybe_at
two_inside = refl

too_deep : answer 1 (spell_form (any_of (only (any_of (only (less (pos 2) (pos 1))))))) ≡ Err (record { left = 10; kind = kinds.Limit limits.Nesting })
unfolding one_of loop mark_at end_at number_at items_at maybe_at
too_deep = refl

too_many : answer 1 (spell_form (any_of (and_more (less (pos 1) (pos 2)) (and_more (less (pos 1) (pos 2)) (and_more (less (pos 1) (pos 2)) (only (less (pos 1) (pos 2)))))))) ≡ Err (record { left = 7; kind = kinds.Limit limits.Constraints })
unfolding one_of loop mark_at end_at number_at items_at maybe_at
too_many = refl
