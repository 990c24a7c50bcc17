-- The arguments of forms are read lawfully, and so is each row of them.
use Rattle.std.proofs.Common.{◌≡◌, ◌⊎◌, ℕ, ℤ, pos, Bool, true, false, List, [], ◌∷◌, length, ◌++◌, Option, Some, None, is_some, refl, sym, ap, inl, inr, append-nil}
use Rattle.mn_lexer.specs.Terminals.{Terminal, word, number, head, mark}
use Rattle.mn_lexer.specs.declared.marks.Mark.TheVariants.{OpenSquare, CloseSquare, OpenCurly, CloseCurly, OpenRound, CloseRound, Less, Greater, Comma}
use Rattle.mn_model.specs.Problem.{Problem, listed_as}
use Rattle.mn_model.specs.declared.constraint.Con.{Con}
use Rattle.mn_model.specs.declared.constraint.Tab.{Tab}
use Rattle.mn_model.specs.declared.constraint.Tab.TheVariants.{Named}
use Rattle.mn_model.specs.declared.declaration.Tuples.{Tuples}
use Rattle.mn_grammar.specs.Tokens.{Name, name_of, is_head, is_the_mark}
use Rattle.mn_grammar.specs.Kinds.{is_condition}
use Rattle.mn_grammar.specs.Reading.{ret, then_read, one, which_mark, either_of, mark_at, number_at}
use Rattle.mn_grammar.specs.Lawful.{Spec, OnlyMarks, first, Lawful}
use Rattle.mn_grammar.specs.Lists.{Items, final, maybe_at}
use Rattle.mn_grammar.specs.Rows.{Arguments, spell_more, spell_row, row_at}
use Rattle.mn_grammar.proofs.Breaks.{kind_when}
use Rattle.mn_grammar.proofs.Leaves.{leaf, nothing, IsClass, Lawful-one, Lawful-ret}
use Rattle.mn_grammar.proofs.Marks.{mark_class}
use Rattle.mn_grammar.proofs.Words.{name_token, name_class, a_number_leaf, Lawful-number}
use Rattle.mn_grammar.proofs.Classes.{either_token, either_value, either_class}
use Rattle.mn_grammar.proofs.Joins.{joined}
use Rattle.mn_grammar.proofs.Steps.{valued, Lawful-valued, Lawful-leaf_then, mark_then, Lawful-mark_then, mark_last, Lawful-mark_last}
use Rattle.mn_grammar.proofs.Views.{Lawful-view}
use Rattle.mn_grammar.proofs.Items.{Entries, items_spec, Lawful-items, maybe_spec, Lawful-maybe}
use Rattle.mn_grammar.proofs.Tables.{sort_spec, AreSorts, row_spec, row_law}
use Rattle.mn_grammar.specs.declared.site.Site.{Site}
use Rattle.mn_grammar.specs.declared.site.Site.TheVariants.{Free, MarksOnly}
use Rattle.mn_grammar.specs.declared.Kind.{Kind}
use Rattle.mn_grammar.specs.declared.Kind.TheVariants as kinds
use Rattle.mn_grammar.specs.declared.Limit.TheVariants as limits
use Rattle.mn_references.specs.References.{Sub}
use Rattle.mn_references.specs.Entries.{Entry, of_ref, of_number, of_not, a_term, whole, listed}
use Rattle.mn_references.specs.Referring.{entry_at, vector_at}
use Rattle.mn_references.proofs.Referable.{as_kind_kinds, lesser_kinds, blocks_subs, some_name}
use Rattle.mn_references.proofs.Listable.{a_term_place, blocks_entry, entry_spec, entry_law, entry_marks, entry_no_comma, entry_solid, subs_marks, subs_no_comma, blocks_vector, vector_spec, vector_law}
use Rattle.mn_language.specs.Arguments.{Value, of_terms, placed_value, of_numbers, of_tuples, behind_value, behind_last, length_wanted, vector_wanted, numbers_wanted, Wanted, exactly, is_full, at_one, at_another, at_close, number_judge, with_number, Table, named, here, at_tuple, tuple_ends, tuple_judge, with_tuple, at_list, list_place, spell_table, breaks_table, value_table, Written, spell_argument, spell_arguments, behind_argument, arguments}
use Rattle.mn_language.specs.Constraints.{meaning}
use Rattle.mn_language.specs.Constructing.{no_break, numbers_at, range_at, tuple_at, TableStart, which_table, at_table, written_here, behind_table, table_at, one_number, argument_at, leaf_at}
use Rattle.mn_language.specs.Forms.{form_line}
use Rattle.mn_language.specs.declared.forms.Argument.{Argument}
use Rattle.mn_language.specs.declared.forms.Argument.TheVariants as takes
use Rattle.mn_language.specs.declared.forms.Leaf.{Leaf}

-- 1. Lists of numbers
nothing_broken : {W : Type 0} (w : W) (kind : Kind) → no_break w ≡ Some kind → is_condition kind ≡ true
nothing_broken w kind e = cc

one_kinds : (w : Wanted) (before : List ℤ) (z : ℤ) (kind : Kind) → at_one w before z ≡ Some kind → is_condition kind ≡ true
one_kinds w before z kind e = kind_when _ kinds.Shape refl kind e

another_kinds : (w : Wanted) (n : ℕ) (kind : Kind) → at_another w n ≡ Some kind → is_condition kind ≡ true
another_kinds w n kind e = lesser_kinds _ _ (kind_when _ (kinds.Limit limits.Vector) refl) (kind_when (is_full w.count n) kinds.Shape refl) kind e

close_kinds : (w : Wanted) (n : ℕ) (kind : Kind) → at_close w n ≡ Some kind → is_condition kind ≡ true
close_kinds w n kind e = kind_when _ kinds.Shape refl kind e

one_law : (w : Wanted) (before : List ℤ) → Lawful (a_number_leaf (at_one w before)) (number_at (at_one w before))
one_law w before = Lawful-number (at_one w before) (one_kinds w before)

abbrev no_more : {X : Type 0} → X → Terminal → Bool
no_more x t = false

abbrev numbers_in_square : Wanted → Spec (Option (Items ℤ)) (List ℤ)
numbers_in_square w = maybe_spec CloseSquare (number_judge w) no_more Free (pos 0) (at_close w 0) [] with_number []

in_square : (w : Wanted) → Entries CloseSquare (number_judge w) no_more Free (pos 0)
in_square w = record {
  other = refl;
  solid = λ z e. cc;
  marks = λ z t e. refl;
  no_comma = λ z. refl;
  no_shut = λ z. refl;
  comma_kinds = λ before z kind e. another_kinds w (length (before ++ z ∷ [])) kind e;
  close_kinds = λ before z kind e. close_kinds w (length (before ++ z ∷ [])) kind e;
}

number_not_shut : (z : ℤ) (t : Terminal) (q : List Terminal) → number z ∷ [] ≡ t ∷ q → is_the_mark CloseSquare t ≡ false
number_not_shut z t q e = let same : number z ≡ t = cc in ap (is_the_mark CloseSquare) (sym same)

abbrev numbers_spec : Wanted → Spec (Option (Items ℤ)) (List ℤ)
numbers_spec w = mark_then OpenSquare None (numbers_in_square w)

numbers_law : (w : Wanted) → Lawful (numbers_spec w) (numbers_at w)
unfolding numbers_at
numbers_law w =
    let list = Lawful-maybe CloseSquare (number_judge w) no_more Free (pos 0) (at_close w 0) [] with_number
    (in_square w) number_not_shut (close_kinds w 0) [] (λ before. number_at (at_one w before)) (one_law w) in
    Lawful-mark_then OpenSquare None (λ kind e. cc) (numbers_in_square w) _ list.sound (λ kept. list)

-- 2. Two numbers in brackets
abbrev range_last : ℤ → ℤ → Spec (Unit {0}) (List ℤ)
range_last a b = mark_last CloseSquare None (a ∷ b ∷ [])

abbrev range_second : ℤ → Spec ((b : ℤ) × Unit {0}) (List ℤ)
range_second a = joined (a_number_leaf no_break) (range_last a)

abbrev range_first : Spec ((a : ℤ) × ((b : ℤ) × Unit {0})) (List ℤ)
range_first = joined (a_number_leaf no_break) (λ a. mark_then Comma None (range_second a))

abbrev range_spec : Spec (ℤ × ℤ) (List ℤ)
range_spec = record {
  spell = λ r. spell_argument takes.Range r;
  breaks = λ r. [];
  value = λ r. r.0 ∷ r.1 ∷ [];
  blocks = λ r t. false;
  start = MarksOnly;
  any = (pos 0, pos 0);
}

range_law : Lawful range_spec range_at
unfolding range_at
range_law =
    Lawful-view (mark_then OpenSquare None range_first) range_spec
    (record {
      onto = λ y. (y.0, y.1.0);
      back = λ r. (r.0, (r.1, tt));
      again = λ r. refl;
      spell = λ y. refl;
      breaks = λ y. refl;
      value = λ y. refl;
      blocks = λ y t. refl;
      start = refl;
    })
    _ (Lawful-mark_then OpenSquare None (λ kind e. cc) range_first _ first_law.sound (λ kept. first_law))
  where
    a_number : Lawful (a_number_leaf no_break) (number_at no_break)
    a_number = Lawful-number no_break (λ z kind e. cc)

    second_law : (a : ℤ) → Lawful (range_second a) (then_read (number_at no_break) (λ b. then_read (mark_at MarksOnly CloseSquare None) (λ u. ret (a ∷ b ∷ []))))
    second_law a =
        Lawful-leaf_then Free (λ n. number n) (λ n. n) no_break (pos 0) (number_at no_break) (range_last a) (λ b. then_read (mark_at MarksOnly CloseSquare None) (λ u. ret (a ∷ b ∷ [])))
        a_number (λ b. Lawful-mark_last CloseSquare None (a ∷ b ∷ []) (λ kind e. cc))

    behind_law : (a : ℤ) → Lawful (mark_then Comma None (range_second a)) (then_read (mark_at MarksOnly Comma None) (λ u. then_read (number_at no_break) (λ b. then_read (mark_at MarksOnly CloseSquare None) (λ u. ret (a ∷ b ∷ [])))))
    behind_law a = Lawful-mark_then Comma None (λ kind e. cc) (range_second a) _ (second_law a).sound (λ kept. second_law a)

    first_law : Lawful range_first (then_read (number_at no_break) (λ a. then_read (mark_at MarksOnly Comma None) (λ u. then_read (number_at no_break) (λ b. then_read (mark_at MarksOnly CloseSquare None) (λ u. ret (a ∷ b ∷ []))))))
    first_law =
        Lawful-leaf_then Free (λ n. number n) (λ n. n) no_break (pos 0) (number_at no_break) (λ a. mark_then Comma None (range_second a))
        (λ a. then_read (mark_at MarksOnly Comma None) (λ u. then_read (number_at no_break) (λ b. then_read (mark_at MarksOnly CloseSquare None) (λ u. ret (a ∷ b ∷ [])))))
        a_number behind_law

-- 3. Tables
abbrev pub tuple_spec : ℕ → ℕ → List ℤ → Spec (Items ℤ) (List ℤ)
tuple_spec used n cells = mark_then Less (at_tuple used n cells) (items_spec Greater (number_judge (exactly n)) no_more Free (pos 0) with_number [])

in_angles : (w : Wanted) → Entries Greater (number_judge w) no_more Free (pos 0)
in_angles w = record {
  other = refl;
  solid = λ z e. cc;
  marks = λ z t e. refl;
  no_comma = λ z. refl;
  no_shut = λ z. refl;
  comma_kinds = λ before z kind e. another_kinds w (length (before ++ z ∷ [])) kind e;
  close_kinds = λ before z kind e. close_kinds w (length (before ++ z ∷ [])) kind e;
}

pub tuple_law : (used n : ℕ) (cells : List ℤ) → Lawful (tuple_spec used n cells) (tuple_at used n cells)
unfolding tuple_at
tuple_law used n cells =
    let numbers = Lawful-items Greater (number_judge (exactly n)) no_more Free (pos 0) with_number (in_angles (exactly n)) (λ before. number_at (at_one (exactly n) before)) (one_law (exactly n)) [] in
    Lawful-mark_then Less (at_tuple used n cells) (λ kind e. kind_when _ (kinds.Limit limits.Cells) refl kind e)
    (items_spec Greater (number_judge (exactly n)) no_more Free (pos 0) with_number []) _ numbers.sound (λ kept. numbers)

abbrev tuples_spec : ℕ → ℕ → Spec (Option (Items (Items ℤ))) (List ℤ)
tuples_spec used n = maybe_spec CloseCurly (tuple_judge used n) no_more MarksOnly (final (pos 0)) None [] with_tuple []

are_tuples : (used n : ℕ) → Entries CloseCurly (tuple_judge used n) no_more MarksOnly (final (pos 0))
are_tuples used n = record {
  other = refl;
  solid = λ t e. cc;
  marks = λ t u e. refl;
  no_comma = λ t. refl;
  no_shut = λ t. refl;
  comma_kinds = λ cells more kind e. cc;
  close_kinds = λ cells more kind e. cc;
}

tuple_not_shut : (l : List Terminal) (t : Terminal) (q : List Terminal) → mark Less ∷ l ≡ t ∷ q → is_the_mark CloseCurly t ≡ false
tuple_not_shut l t q e = let same : mark Less ≡ t = cc in ap (is_the_mark CloseCurly) (sym same)

pub tuples_law : (used n : ℕ) → Lawful (tuples_spec used n) (maybe_at CloseCurly tuple_ends None [] with_tuple (tuple_at used n) [])
tuples_law used n =
    Lawful-maybe CloseCurly (tuple_judge used n) no_more MarksOnly (final (pos 0)) None [] with_tuple
    (are_tuples used n) (λ x t q e. tuple_not_shut _ t q e) (λ kind e. cc) [] (tuple_at used n) (tuple_law used n)

abbrev open_token : Unit {0} → Terminal
open_token u = mark OpenCurly

abbrev TableFirst : Type 0
TableFirst = Name ⊎ Unit {0}

abbrev table_token : TableFirst → Terminal
table_token = either_token name_token open_token

abbrev table_value : TableFirst → TableStart
table_value = either_value (λ n. n.bytes) (λ u. u)

table_class : IsClass table_token table_value which_table
table_class = either_class name_token (λ n. n.bytes) name_of open_token (λ u. u) (which_mark OpenCurly) name_class (mark_class OpenCurly) (λ u. refl)

table_no_head : (t : Terminal) → is_head t ≡ true → is_some (which_table t) ≡ false
table_no_head (head bs) e = refl
table_no_head (word bs) e = cc
table_no_head (number z) e = cc
table_no_head (mark m) e = cc

table_names : (t : Terminal) (w : List ℕ) → name_of t ≡ Some w → is_some (which_table t) ≡ true
table_names t w e = ap (λ o. is_some (either_of o (which_mark OpenCurly t))) e

list_kinds : (n : ℕ) (o : Option Tuples) (kind : Kind) → at_list n o ≡ Some kind → is_condition kind ≡ true
list_kinds n None kind e = kind_when true kinds.Name refl kind e
list_kinds n (Some t) kind e = kind_when _ kinds.Shape refl kind e

table_kinds : (p : Problem) (n : ℕ) (w : TableStart) (kind : Kind) → at_table p n w ≡ Some kind → is_condition kind ≡ true
table_kinds p n (inl name) kind e = list_kinds n (listed_as p.tuples name) kind e
table_kinds p n (inr u) kind e = cc

abbrev TableRest : TableFirst → Type 0
TableRest (inl name) = Unit {0}
TableRest (inr u) = Option (Items (Items ℤ))

abbrev table_rest : Problem → ℕ → ℕ → (x : TableFirst) → Spec (TableRest x) Tab
table_rest p used n (inl name) = nothing MarksOnly (Named (list_place p.tuples name.bytes))
table_rest p used n (inr u) = valued (written_here n) (tuples_spec used n)

table_rest_law : (p : Problem) (used n : ℕ) (x : TableFirst) → Lawful (table_rest p used n x) (behind_table p used n (table_value x))
unfolding behind_table
table_rest_law p used n (inl name) = Lawful-ret MarksOnly (Named (list_place p.tuples name.bytes))
table_rest_law p used n (inr u) = Lawful-valued (written_here n) (tuples_spec used n) _ (tuples_law used n)

abbrev table_spec : Problem → ℕ → ℕ → Spec Table Tab
table_spec p used n = record {
  spell = spell_table;
  breaks = breaks_table p used n;
  value = value_table p used n;
  blocks = no_more;
  start = Free;
  any = here None;
}

abbrev table_onto : (x : TableFirst) → TableRest x → Table
table_onto (inl name) u = named name
table_onto (inr u) l = here l

abbrev table_back : Table → (x : TableFirst) × TableRest x
table_back (named name) = (inl name, tt)
table_back (here l) = (inr tt, l)

table_again : (t : Table) → table_onto (table_back t).0 (table_back t).1 ≡ t
table_again (named name) = refl
table_again (here l) = refl

module _ (p : Problem) (used n : ℕ) where
  abbrev pair_table : Spec ((x : TableFirst) × TableRest x) Tab
  pair_table = joined (leaf Free table_token table_value (at_table p n) (inl some_name)) (table_rest p used n)

  table_spells : (x : TableFirst) (y : TableRest x) → spell_table (table_onto x y) ≡ pair_table.spell (x, y)
  table_spells (inl name) u = refl
  table_spells (inr u) l = refl

  table_breaks : (x : TableFirst) (y : TableRest x) → breaks_table p used n (table_onto x y) ≡ pair_table.breaks (x, y)
  table_breaks (inl name) u = sym (append-nil _)
  table_breaks (inr u) l = refl

  table_means : (x : TableFirst) (y : TableRest x) → value_table p used n (table_onto x y) ≡ pair_table.value (x, y)
  table_means (inl name) u = refl
  table_means (inr u) l = refl

  table_goes_on : (x : TableFirst) (y : TableRest x) (t : Terminal) → false ≡ pair_table.blocks (x, y) t
  table_goes_on (inl name) u t = refl
  table_goes_on (inr u) l t = refl

table_law : (p : Problem) (used n : ℕ) → Lawful (table_spec p used n) (table_at p used n)
unfolding table_at
table_law p used n =
    Lawful-view (pair_table p used n) (table_spec p used n)
    (record {
      onto = λ y. table_onto y.0 y.1;
      back = table_back;
      again = table_again;
      spell = λ y. table_spells p used n y.0 y.1;
      breaks = λ y. ap first (table_breaks p used n y.0 y.1);
      value = λ y. table_means p used n y.0 y.1;
      blocks = λ y t. table_goes_on p used n y.0 y.1 t;
      start = refl;
    })
    (then_read (one Free which_table (at_table p n)) (behind_table p used n))
    (Lawful-leaf_then Free table_token table_value (at_table p n) (inl some_name) (one Free which_table (at_table p n)) (table_rest p used n) (behind_table p used n)
    (Lawful-one Free table_token table_value which_table (at_table p n) (inl some_name) (record {
      class = table_class;
      is_site = (table_no_head, inl table_names);
      kinds = table_kinds p n;
    }))
    (table_rest_law p used n))

-- 4. All arguments
abbrev blocks_argument : (k : Argument) → Written k → Terminal → Bool
blocks_argument takes.Term e t = blocks_entry e t
blocks_argument (takes.Vector w) v t = blocks_vector v t
blocks_argument takes.Number z t = false
blocks_argument (takes.Numbers w) l t = false
blocks_argument takes.Range r t = false
blocks_argument takes.Tuples x t = false

abbrev start_argument : Argument → Site
start_argument takes.Term = Free
start_argument (takes.Vector w) = Free
start_argument takes.Number = Free
start_argument (takes.Numbers w) = MarksOnly
start_argument takes.Range = MarksOnly
start_argument takes.Tuples = Free

abbrev some_argument : (k : Argument) → Written k
some_argument takes.Term = of_number (pos 0)
some_argument (takes.Vector w) = listed None
some_argument takes.Number = pos 0
some_argument (takes.Numbers w) = Some (final (pos 0))
some_argument takes.Range = (pos 0, pos 0)
some_argument takes.Tuples = here None

abbrev argument_spec : Problem → ℕ → (k : Argument) → List Value → Spec (Written k) Value
argument_spec p used = sort_spec (arguments p used) blocks_argument start_argument some_argument

argument_law : (p : Problem) (used : ℕ) (k : Argument) (vs : List Value) → Lawful (argument_spec p used k vs) (argument_at p used k vs)
unfolding argument_at
argument_law p used takes.Term vs = Lawful-valued placed_value (entry_spec p (a_term p false)) (entry_at p (a_term p false)) (entry_law p (a_term p false) (a_term_place p false))
argument_law p used (takes.Vector w) vs = Lawful-valued placed_value (vector_spec p (vector_wanted w vs)) (vector_at p (vector_wanted w vs)) (vector_law p (vector_wanted w vs))
argument_law p used takes.Number vs = Lawful-valued one_number (a_number_leaf no_break) (number_at no_break) (Lawful-number no_break (λ z kind e. cc))
argument_law p used (takes.Numbers w) vs = Lawful-valued (λ zs. of_numbers zs) (numbers_spec (numbers_wanted w vs)) (numbers_at (numbers_wanted w vs)) (numbers_law (numbers_wanted w vs))
argument_law p used takes.Range vs = Lawful-valued (λ zs. of_numbers zs) range_spec range_at range_law
argument_law p used takes.Tuples vs = Lawful-valued (λ tab. of_tuples tab) (table_spec p used (length_wanted vs)) (table_at p used (length_wanted vs)) (table_law p used (length_wanted vs))

argument_solid : (k : Argument) (a : Written k) → spell_argument k a ≡ [] → ⊥
argument_solid takes.Term e none = entry_solid e none
argument_solid (takes.Vector w) (whole r) none = cc
argument_solid (takes.Vector w) (listed l) none = cc
argument_solid takes.Number z none = cc
argument_solid (takes.Numbers w) l none = cc
argument_solid takes.Range r none = cc
argument_solid takes.Tuples (named name) none = cc
argument_solid takes.Tuples (here l) none = cc

argument_marks : (k : Argument) (a : Written k) → OnlyMarks (blocks_argument k a)
argument_marks takes.Term e = entry_marks e
argument_marks (takes.Vector w) (whole r) = subs_marks r.subs
argument_marks (takes.Vector w) (listed l) = λ t e. refl
argument_marks takes.Number z = λ t e. refl
argument_marks (takes.Numbers w) l = λ t e. refl
argument_marks takes.Range r = λ t e. refl
argument_marks takes.Tuples x = λ t e. refl

argument_no_comma : (k : Argument) (a : Written k) → blocks_argument k a (mark Comma) ≡ false
argument_no_comma takes.Term e = entry_no_comma e
argument_no_comma (takes.Vector w) (whole r) = subs_no_comma r.subs
argument_no_comma (takes.Vector w) (listed l) = refl
argument_no_comma takes.Number z = refl
argument_no_comma (takes.Numbers w) l = refl
argument_no_comma takes.Range r = refl
argument_no_comma takes.Tuples x = refl

subs_no_round : (o : Option (Items Sub)) → blocks_subs o (mark CloseRound) ≡ false
subs_no_round None = refl
subs_no_round (Some subs) = refl

pub entry_no_round : (e : Entry) → blocks_entry e (mark CloseRound) ≡ false
entry_no_round (of_ref r) = subs_no_round r.subs
entry_no_round (of_number z) = refl
entry_no_round (of_not r) = subs_no_round r.subs

argument_no_shut : (k : Argument) (a : Written k) → blocks_argument k a (mark CloseRound) ≡ false
argument_no_shut takes.Term e = entry_no_round e
argument_no_shut (takes.Vector w) (whole r) = subs_no_round r.subs
argument_no_shut (takes.Vector w) (listed l) = refl
argument_no_shut takes.Number z = refl
argument_no_shut (takes.Numbers w) l = refl
argument_no_shut takes.Range r = refl
argument_no_shut takes.Tuples x = refl

value_kinds : (v : Value) (kind : Kind) → behind_value v ≡ Some kind → is_condition kind ≡ true
value_kinds (of_terms terms broken) kind e = as_kind_kinds broken kind e
value_kinds (of_numbers zs) kind e = cc
value_kinds (of_tuples tab) kind e = cc

behind_kinds : (vs : List Value) (kind : Kind) → behind_last vs ≡ Some kind → is_condition kind ≡ true
behind_kinds [] kind e = cc
behind_kinds (v ∷ []) kind e = value_kinds v kind e
behind_kinds (v ∷ w ∷ vs) kind e = behind_kinds (w ∷ vs) kind e

are_arguments : (p : Problem) (used : ℕ) → AreSorts (arguments p used) blocks_argument start_argument some_argument
are_arguments p used = record {
  solid = argument_solid;
  marks = argument_marks;
  no_comma = argument_no_comma;
  no_shut = argument_no_shut;
  mark_kinds = λ k vs kind e. behind_kinds vs kind e;
}

-- 5. Rows of them, as they are spelled, and the forms that take them
row_spells : (p : Problem) (used : ℕ) (k : Argument) (others : List Argument) (a : Arguments Written (k ∷ others)) → spell_arguments (k ∷ others) a ≡ spell_more (arguments p used) k others a
row_spells p used k [] a = refl
row_spells p used k (l ∷ others) a = ap (λ r. spell_argument k a.0 ++ mark Comma ∷ r) (row_spells p used l others a.1)

pub spells_row : (p : Problem) (used : ℕ) (row : List Argument) (a : Arguments Written row) → spell_arguments row a ≡ spell_row (arguments p used) row a
spells_row p used [] u = refl
spells_row p used (k ∷ ks) a = row_spells p used k ks a

abbrev some_row : Problem → ℕ → (row : List Argument) → Spec (Arguments Written row) (List Value)
some_row p used row = row_spec (arguments p used) blocks_argument start_argument some_argument row

abbrev pub leaf_spec : Problem → ℕ → (f : Leaf) → Spec (Arguments Written (form_line f).takes) Con
leaf_spec p used f = mark_then OpenRound None (valued (meaning f) (some_row p used (form_line f).takes))

pub leaf_law : (p : Problem) (used : ℕ) (f : Leaf) → Lawful (leaf_spec p used f) (leaf_at p used f)
unfolding leaf_at
leaf_law p used f =
    let row = row_law (arguments p used) blocks_argument start_argument some_argument (are_arguments p used) (argument_at p used) (argument_law p used) (form_line f).takes in
    let law = Lawful-valued (meaning f) (some_row p used (form_line f).takes) (row_at behind_argument (argument_at p used) (form_line f).takes) row in
    Lawful-mark_then OpenRound None (λ kind e. cc) (valued (meaning f) (some_row p used (form_line f).takes)) _ law.sound (λ kept. law)
