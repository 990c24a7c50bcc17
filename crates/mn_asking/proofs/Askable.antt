-- The section on search is read lawfully.
use Rattle.std.proofs.Common.{◌≡◌, ◌⊎◌, ℕ, ◌+◌, leb, ltb, Bool, true, false, List, [], ◌∷◌, length, ◌++◌, codes, Option, Some, None, refl, sym, ap, ◌∙◌, inl, inr}
use Rattle.mn_lexer.specs.Terminals.{Terminal, word, mark}
use Rattle.mn_lexer.specs.declared.marks.Mark.TheVariants.{OpenSquare, CloseSquare, Comma}
use Rattle.mn_model.specs.Problem.{Problem}
use Rattle.mn_model.specs.declared.constraint.Term.{Term}
use Rattle.mn_model.specs.declared.limits.TheConstants.{PLACES}
use Rattle.mn_model.specs.declared.search.Print.{Print}
use Rattle.mn_model.specs.declared.search.Print.TheVariants as printed
use Rattle.mn_model.specs.declared.variable.VarId.{VarId}
use Rattle.mn_grammar.specs.Tokens.{is_the_mark}
use Rattle.mn_grammar.specs.Kinds.{is_condition}
use Rattle.mn_grammar.specs.Places.{Break, on, behind}
use Rattle.mn_grammar.specs.Reading.{then_read, one_of, which_of}
use Rattle.mn_grammar.specs.Lawful.{Spec, OnlyMarks, first, Lawful}
use Rattle.mn_grammar.specs.Lists.{Items, breaks_maybe}
use Rattle.mn_grammar.proofs.Breaks.{kind_when, behind_behind}
use Rattle.mn_grammar.proofs.Sites.{Fits-marks}
use Rattle.mn_grammar.proofs.Leaves.{leaf, nothing, Lawful-one, Lawful-ret}
use Rattle.mn_grammar.proofs.Classes.{set_class, either_token, either_value, either_class, Lawful-one_of}
use Rattle.mn_grammar.proofs.Joins.{joined}
use Rattle.mn_grammar.proofs.Steps.{valued, Lawful-valued, mark_then, Lawful-mark_then, Lawful-leaf_then}
use Rattle.mn_grammar.proofs.Views.{Lawful-view}
use Rattle.mn_grammar.proofs.Items.{maybe_spec, Lawful-maybe}
use Rattle.mn_grammar.proofs.Loops.{Turns, last, more}
use Rattle.mn_grammar.proofs.Sections.{firsts, body_spec, body_blocks, Lawful-body}
use Rattle.mn_grammar.specs.declared.site.Site.TheVariants.{Free, Fixed, MarksOnly}
use Rattle.mn_grammar.specs.declared.Kind.{Kind}
use Rattle.mn_grammar.specs.declared.Kind.TheVariants.{Again, Limit, Shape}
use Rattle.mn_grammar.specs.declared.Limit.TheVariants.{Vector as OfVector}
use Rattle.mn_references.specs.Conditions.{as_kind}
use Rattle.mn_cursor.specs.Heads.{head_token, all_heads, head_of}
use Rattle.mn_references.specs.References.{Ref, spell_ref, one_place}
use Rattle.mn_references.specs.Entries.{Row, plain, bracketed, spell_row}
use Rattle.mn_asking.specs.Search.{Asking, ItemWord, says_order, says_values, maximises, minimises, prints, item_token, may_stand, at_word, order_aim, order_judge, all_vars, way_token, at_way, spell_way, values_judge, all_ways, no_ways, rows_judge, all_rows, Printing, print_all, print_none, print_rows, Item, var_order, val_order, objective, print, spell_printing, spell_item, breaks_printing, breaks_item, with_order, with_values, with_goal, value_printing, with_print, value_item, spell_section, breaks_section, value_section}
pub use Rattle.mn_asking.specs.Search.{section_spec}
use Rattle.mn_references.specs.Referring.{ref_at, row_at}
use Rattle.mn_asking.specs.Searching.{order_at, static_token, both, no_break, behind_static, var_order_at, way_at, ways_at, val_order_at, PrintStart, all, none, listed, print_token, print_starts, rows_at, behind_print, print_at, item_rest, item_words, which_item, at_item, item_first, ended, search_at}
use Rattle.mn_references.proofs.Referable.{as_kind_kinds, lesser_kinds, blocks_subs, some_name, ref_spec, ref_law}
use Rattle.mn_references.proofs.Listable.{subs_marks, subs_no_comma, subs_no_shut, entry_marks, entry_no_comma, entry_no_shut, entry_solid, entry_not_shut, blocks_row, row_law}
use Rattle.mn_cursor.specs.declared.asked.Asked.{Asked}
use Rattle.mn_cursor.specs.declared.heads.Head.{Head}
use Rattle.mn_cursor.specs.declared.heads.Head.TheVariants.{Variables, TupleList, Search, Constraints, End}
use Rattle.mn_cursor.proofs.HeadTokens.{head_known}

-- 1. VARORDER
abbrev pub some_ref : Ref
some_ref = record { name = some_name; subs = None }

abbrev pub blocks_ref : Ref → Terminal → Bool
blocks_ref r t = blocks_subs r.subs t

abbrev pub order_spec : Problem → Spec (Option (Items Ref)) (List VarId)
order_spec p = maybe_spec CloseSquare (order_judge p) blocks_ref Free some_ref None [] all_vars []

ref_not_shut : (r : Ref) (t : Terminal) (q : List Terminal) → spell_ref r ≡ t ∷ q → is_the_mark CloseSquare t ≡ false
ref_not_shut r t q e = let same : word r.name.bytes ≡ t = cc in ap (is_the_mark CloseSquare) (sym same)

pub order_law : (p : Problem) → Lawful (order_spec p) (order_at p)
unfolding order_at
order_law p =
    Lawful-maybe CloseSquare (order_judge p) blocks_ref Free some_ref None [] all_vars
    (record {
      other = refl;
      solid = λ r e. cc;
      marks = λ r. subs_marks r.subs;
      no_comma = λ r. subs_no_comma r.subs;
      no_shut = λ r. subs_no_shut r.subs;
      comma_kinds = λ vars f kind e. lesser_kinds (as_kind f.behind) _ (as_kind_kinds f.behind) (kind_when (leb PLACES (length (vars ++ f.vars))) (Limit OfVector) refl) kind e;
      close_kinds = λ vars f kind e. as_kind_kinds f.behind kind e;
    })
    ref_not_shut (λ kind e. cc) [] (λ vars. ref_at p (order_aim vars)) (λ vars. ref_law p (order_aim vars))

abbrev after_static : Problem → Bool → Spec (Option (Items Ref)) (List VarId)
after_static p true = mark_then OpenSquare None (order_spec p)
after_static p false = order_spec p

after_static_law : (p : Problem) (b : Bool) → Lawful (after_static p b) (behind_static p b)
unfolding behind_static
after_static_law p true = Lawful-mark_then OpenSquare None (λ kind e. cc) (order_spec p) (order_at p) (order_law p).sound (λ kept. order_law p)
after_static_law p false = order_law p

static_known : (b : Bool) → which_of static_token both (static_token b) ≡ Some b
static_known true = refl
static_known false = refl

abbrev var_order_spec : Problem → Spec (Bool × Option (Items Ref)) (List VarId)
var_order_spec p = joined (leaf Fixed static_token (λ b. b) no_break true) (after_static p)

var_order_law : (p : Problem) → Lawful (var_order_spec p) (var_order_at p)
unfolding var_order_at
var_order_law p =
    Lawful-leaf_then Fixed static_token (λ b. b) no_break true (one_of Fixed static_token both no_break) (after_static p) (behind_static p)
    (Lawful-one_of Fixed static_token both no_break true static_known ((refl, refl), (word (codes "STATIC"), refl, refl)) (λ b kind e. cc))
    (after_static_law p)

-- 2. VALORDER
way_known : (d : Bool) → which_of way_token both (way_token d) ≡ Some d
way_known true = refl
way_known false = refl

way_law : (wanted : ℕ) (down : List Bool) → Lawful (leaf Fixed way_token (λ d. d) (at_way wanted down) true) (way_at wanted down)
unfolding way_at
way_law wanted down = Lawful-one_of Fixed way_token both (at_way wanted down) true way_known ((refl, refl), (word (codes "a"), refl, refl)) (λ d kind e. kind_when (leb wanted (length down)) Shape refl kind e)

way_not_shut : (d : Bool) (t : Terminal) (q : List Terminal) → spell_way d ≡ t ∷ q → is_the_mark CloseSquare t ≡ false
way_not_shut true t q e = let same : word (codes "d") ≡ t = cc in ap (is_the_mark CloseSquare) (sym same)
way_not_shut false t q e = let same : word (codes "a") ≡ t = cc in ap (is_the_mark CloseSquare) (sym same)

abbrev pub ways_spec : ℕ → Spec (Option (Items Bool)) (List Bool)
ways_spec wanted = maybe_spec CloseSquare (values_judge wanted) (λ d t. false) Fixed true (no_ways wanted) [] all_ways []

abbrev val_order_spec : ℕ → Spec (Option (Items Bool)) (List Bool)
val_order_spec wanted = mark_then OpenSquare None (ways_spec wanted)

pub ways_law : (wanted : ℕ) → Lawful (ways_spec wanted) (ways_at wanted)
unfolding ways_at
ways_law wanted =
    Lawful-maybe CloseSquare (values_judge wanted) (λ d t. false) Fixed true (no_ways wanted) [] all_ways
    (record {
      other = refl;
      solid = λ d e. cc;
      marks = λ d t e. refl;
      no_comma = λ d. refl;
      no_shut = λ d. refl;
      comma_kinds = λ down d kind e. kind_when (leb wanted (length down + 1)) Shape refl kind e;
      close_kinds = λ down d kind e. kind_when (ltb (length down + 1) wanted) Shape refl kind e;
    })
    way_not_shut (λ kind e. kind_when (ltb 0 wanted) Shape refl kind e) [] (way_at wanted) (way_law wanted)

val_order_law : (wanted : ℕ) → Lawful (val_order_spec wanted) (val_order_at wanted)
unfolding val_order_at
val_order_law wanted = Lawful-mark_then OpenSquare None (λ kind e. cc) (ways_spec wanted) (ways_at wanted) (ways_law wanted).sound (λ kept. ways_law wanted)

-- 3. PRINT
row_solid : (r : Row) → spell_row r ≡ [] → ⊥
row_solid (plain a) e = entry_solid a e
row_solid (bracketed l) e = cc

row_marks : (r : Row) → OnlyMarks (blocks_row r)
row_marks (plain e) = entry_marks e
row_marks (bracketed l) = λ t e. refl

row_no_comma : (r : Row) → blocks_row r (mark Comma) ≡ false
row_no_comma (plain e) = entry_no_comma e
row_no_comma (bracketed l) = refl

row_no_shut : (r : Row) → blocks_row r (mark CloseSquare) ≡ false
row_no_shut (plain e) = entry_no_shut e
row_no_shut (bracketed l) = refl

row_not_shut : (r : Row) (t : Terminal) (q : List Terminal) → spell_row r ≡ t ∷ q → is_the_mark CloseSquare t ≡ false
row_not_shut (plain a) t q e = entry_not_shut a t q e
row_not_shut (bracketed l) t q e = let same : mark OpenSquare ≡ t = cc in ap (is_the_mark CloseSquare) (sym same)

abbrev rows_spec : Problem → Spec (Option (Items Row)) (List (List Term))
rows_spec p = maybe_spec CloseSquare (rows_judge p) blocks_row Free (bracketed None) None [] all_rows []

rows_law : (p : Problem) → Lawful (rows_spec p) (rows_at p)
unfolding rows_at
rows_law p =
    Lawful-maybe CloseSquare (rows_judge p) blocks_row Free (bracketed None) None [] all_rows
    (record {
      other = refl;
      solid = row_solid;
      marks = row_marks;
      no_comma = row_no_comma;
      no_shut = row_no_shut;
      comma_kinds = λ rows r kind e. as_kind_kinds r.behind kind e;
      close_kinds = λ rows r kind e. as_kind_kinds r.behind kind e;
    })
    row_not_shut (λ kind e. cc) [] (λ rows. row_at p) (λ rows. row_law p)

print_known : (s : PrintStart) → which_of print_token print_starts (print_token s) ≡ Some s
print_known all = refl
print_known none = refl
print_known listed = refl

abbrev PrintRest : PrintStart → Type 0
PrintRest all = Unit {0}
PrintRest none = Unit {0}
PrintRest listed = Option (Items Row)

abbrev print_rest : Problem → (s : PrintStart) → Spec (PrintRest s) Print
print_rest p all = nothing MarksOnly printed.All
print_rest p none = nothing MarksOnly printed.Nothing
print_rest p listed = valued (λ rows. printed.Rows rows) (rows_spec p)

print_rest_law : (p : Problem) (s : PrintStart) → Lawful (print_rest p s) (behind_print p s)
unfolding behind_print
print_rest_law p all = Lawful-ret MarksOnly printed.All
print_rest_law p none = Lawful-ret MarksOnly printed.Nothing
print_rest_law p listed = Lawful-valued (λ rows. printed.Rows rows) (rows_spec p) (rows_at p) (rows_law p)

abbrev pub print_spec : Problem → Spec Printing Print
print_spec p = record { spell = spell_printing; breaks = breaks_printing p; value = value_printing p; blocks = λ x t. false; start = Fixed; any = print_all }

abbrev print_onto : (s : PrintStart) → PrintRest s → Printing
print_onto all u = print_all
print_onto none u = print_none
print_onto listed rows = print_rows rows

abbrev print_back : Printing → (s : PrintStart) × PrintRest s
print_back print_all = (all, tt)
print_back print_none = (none, tt)
print_back (print_rows rows) = (listed, rows)

print_again : (x : Printing) → print_onto (print_back x).0 (print_back x).1 ≡ x
print_again print_all = refl
print_again print_none = refl
print_again (print_rows rows) = refl

module _ (p : Problem) where
  abbrev pair_print : Spec ((s : PrintStart) × PrintRest s) Print
  pair_print = joined (leaf Fixed print_token (λ s. s) no_break all) (print_rest p)

  print_spells : (s : PrintStart) (y : PrintRest s) → spell_printing (print_onto s y) ≡ pair_print.spell (s, y)
  print_spells all y = refl
  print_spells none y = refl
  print_spells listed y = refl

  print_breaks : (s : PrintStart) (y : PrintRest s) → breaks_printing p (print_onto s y) ≡ pair_print.breaks (s, y)
  print_breaks all y = refl
  print_breaks none y = refl
  print_breaks listed y = refl

  print_means : (s : PrintStart) (y : PrintRest s) → value_printing p (print_onto s y) ≡ pair_print.value (s, y)
  print_means all y = refl
  print_means none y = refl
  print_means listed y = refl

  print_goes_on : (s : PrintStart) (y : PrintRest s) (t : Terminal) → false ≡ pair_print.blocks (s, y) t
  print_goes_on all y t = refl
  print_goes_on none y t = refl
  print_goes_on listed y t = refl

pub print_law : (p : Problem) → Lawful (print_spec p) (print_at p)
unfolding print_at
print_law p =
    Lawful-view (pair_print p) (print_spec p)
    (record {
      onto = λ y. print_onto y.0 y.1;
      back = print_back;
      again = print_again;
      spell = λ y. print_spells p y.0 y.1;
      breaks = λ y. ap first (print_breaks p y.0 y.1);
      value = λ y. print_means p y.0 y.1;
      blocks = λ y t. print_goes_on p y.0 y.1 t;
      start = refl;
    })
    (then_read (one_of Fixed print_token print_starts no_break) (behind_print p))
    (Lawful-leaf_then Fixed print_token (λ s. s) no_break all (one_of Fixed print_token print_starts no_break) (print_rest p) (behind_print p)
    (Lawful-one_of Fixed print_token print_starts no_break all print_known ((refl, refl), (word (codes "ALL"), refl, refl)) (λ s kind e. cc))
    (print_rest_law p))

-- 4. Items
abbrev pub ItemRest : ItemWord → Type 0
ItemRest says_order = Bool × Option (Items Ref)
ItemRest says_values = Option (Items Bool)
ItemRest maximises = Ref
ItemRest minimises = Ref
ItemRest prints = Printing

abbrev pub item_spec : Asking → (w : ItemWord) → Spec (ItemRest w) Asking
item_spec s says_order = valued (with_order s) (var_order_spec s.problem)
item_spec s says_values = valued (with_values s) (val_order_spec (length s.problem.order.vars))
item_spec s maximises = valued (with_goal s true) (ref_spec s.problem (one_place s.problem false))
item_spec s minimises = valued (with_goal s false) (ref_spec s.problem (one_place s.problem false))
item_spec s prints = valued (with_print s) (print_spec s.problem)

pub item_law : (s : Asking) (w : ItemWord) → Lawful (item_spec s w) (item_rest s w)
unfolding item_rest
item_law s says_order = Lawful-valued (with_order s) (var_order_spec s.problem) (var_order_at s.problem) (var_order_law s.problem)
item_law s says_values = Lawful-valued (with_values s) (val_order_spec (length s.problem.order.vars)) (val_order_at (length s.problem.order.vars)) (val_order_law (length s.problem.order.vars))
item_law s maximises = Lawful-valued (with_goal s true) (ref_spec s.problem (one_place s.problem false)) _ (ref_law s.problem (one_place s.problem false))
item_law s minimises = Lawful-valued (with_goal s false) (ref_spec s.problem (one_place s.problem false)) _ (ref_law s.problem (one_place s.problem false))
item_law s prints = Lawful-valued (with_print s) (print_spec s.problem) (print_at s.problem) (print_law s.problem)

abbrev first_token : ItemWord ⊎ Head → Terminal
first_token = either_token item_token head_token

word_known : (w : ItemWord) → which_of item_token item_words (item_token w) ≡ Some w
word_known says_order = refl
word_known says_values = refl
word_known maximises = refl
word_known minimises = refl
word_known prints = refl

head_no_item : (h : Head) → which_of item_token item_words (head_token h) ≡ None
head_no_item Variables = refl
head_no_item TupleList = refl
head_no_item Search = refl
head_no_item Constraints = refl
head_no_item End = refl

stand_kinds : (a : Asked) (w : ItemWord) (kind : Kind) → may_stand a w ≡ Some kind → is_condition kind ≡ true
stand_kinds a says_order kind e = kind_when a.order Again refl kind e
stand_kinds a says_values kind e = kind_when _ Shape refl kind e
stand_kinds a maximises kind e = kind_when a.goal Shape refl kind e
stand_kinds a minimises kind e = kind_when a.goal Shape refl kind e
stand_kinds a prints kind e = kind_when a.print Shape refl kind e

first_kinds : (s : Asking) (x : ItemWord ⊎ Head) (kind : Kind) → at_item s x ≡ Some kind → is_condition kind ≡ true
first_kinds s (inl w) kind e = lesser_kinds (as_kind s.behind) (may_stand s.asked w) (as_kind_kinds s.behind) (stand_kinds s.asked w) kind e
first_kinds s (inr h) kind e = as_kind_kinds s.behind kind e

firsts_law : (s : Asking) → Lawful (firsts Fixed first_token (λ w. w) at_item End item_spec ended s) (item_first s)
unfolding item_first
firsts_law s = Lawful-one Fixed first_token (either_value (λ w. w) (λ h. h)) which_item (at_item s) (inr End) (record {
  class = either_class item_token (λ w. w) (which_of item_token item_words) head_token (λ h. h) head_of
      (set_class item_token item_words word_known) (set_class head_token all_heads head_known) head_no_item;
  is_site = ((refl, refl), (word (codes "PRINT"), refl, refl));
  kinds = first_kinds s;
})

first_no_open : (x : ItemWord ⊎ Head) → is_the_mark OpenSquare (first_token x) ≡ false
first_no_open (inl says_order) = refl
first_no_open (inl says_values) = refl
first_no_open (inl maximises) = refl
first_no_open (inl minimises) = refl
first_no_open (inl prints) = refl
first_no_open (inr h) = refl

subs_apart : (o : Option (Items _)) (x : ItemWord ⊎ Head) → blocks_subs o (first_token x) ≡ false
subs_apart None x = first_no_open x
subs_apart (Some subs) x = refl

item_apart : (s : Asking) (w : ItemWord) (y : ItemRest w) (x : ItemWord ⊎ Head) → (item_spec s w).blocks y (first_token x) ≡ false
item_apart s says_order (true, l) x = refl
item_apart s says_order (false, l) x = refl
item_apart s says_values y x = refl
item_apart s maximises r x = subs_apart r.subs x
item_apart s minimises r x = subs_apart r.subs x
item_apart s prints y x = refl

item_marks : (s : Asking) (w : ItemWord) (y : ItemRest w) → OnlyMarks ((item_spec s w).blocks y)
item_marks s says_order (true, l) = λ t e. refl
item_marks s says_order (false, l) = λ t e. refl
item_marks s says_values y = λ t e. refl
item_marks s maximises r = subs_marks r.subs
item_marks s minimises r = subs_marks r.subs
item_marks s prints y = λ t e. refl

-- 5. The section
abbrev Body : Asking → Type 0
Body s = Turns (λ z. (w : ItemWord) × ItemRest w) (λ z. Head) (λ z y. (item_spec z y.0).value y.1) s

abbrev items_spec : (s : Asking) → Spec (Body s) (Asking × Head)
items_spec s = body_spec Fixed first_token (λ w. w) at_item End item_spec ended s

items_law : (s : Asking) → Lawful (items_spec s) (search_at s)
unfolding search_at
items_law s =
    Lawful-body Fixed first_token (λ w. w) at_item End item_spec ended
    (record { apart = item_apart; fits = λ z w y. Fits-marks Fixed ((item_spec z w).blocks y) (item_marks z w y) })
    item_first item_rest firsts_law item_law s

-- the same trees as they are published
abbrev item_of : (w : ItemWord) → ItemRest w → Item
item_of says_order y = var_order y.0 y.1
item_of says_values ways = val_order ways
item_of maximises r = objective true r
item_of minimises r = objective false r
item_of prints printing = print printing

abbrev rest_of : Item → (w : ItemWord) × ItemRest w
rest_of (var_order static refs) = (says_order, (static, refs))
rest_of (val_order ways) = (says_values, ways)
rest_of (objective true r) = (maximises, r)
rest_of (objective false r) = (minimises, r)
rest_of (print printing) = (prints, printing)

item_again : (i : Item) → item_of (rest_of i).0 (rest_of i).1 ≡ i
item_again (var_order static refs) = refl
item_again (val_order ways) = refl
item_again (objective true r) = refl
item_again (objective false r) = refl
item_again (print printing) = refl

item_spells : (s : Asking) (w : ItemWord) (y : ItemRest w) → spell_item (item_of w y) ≡ item_token w ∷ (item_spec s w).spell y
item_spells s says_order (true, l) = refl
item_spells s says_order (false, l) = refl
item_spells s says_values y = refl
item_spells s maximises r = refl
item_spells s minimises r = refl
item_spells s prints y = refl

item_breaks : (s : Asking) (w : ItemWord) (y : ItemRest w) → breaks_item s (item_of w y) ≡ on (at_word s w) ++ behind 1 ((item_spec s w).breaks y)
item_breaks s says_order (true, l) = ap (λ l. on (at_word s says_order) ++ behind 1 l) (sym (behind_behind 1 1 (breaks_maybe (order_judge s.problem) None l [])))
item_breaks s says_order (false, l) = refl
item_breaks s says_values y = refl
item_breaks s maximises r = refl
item_breaks s minimises r = refl
item_breaks s prints y = refl

item_means : (s : Asking) (w : ItemWord) (y : ItemRest w) → value_item s (item_of w y) ≡ (item_spec s w).value y
item_means s says_order (true, l) = refl
item_means s says_order (false, l) = refl
item_means s says_values y = refl
item_means s maximises r = refl
item_means s minimises r = refl
item_means s prints y = refl

abbrev said_by : (s : Asking) → (y : (w : ItemWord) × ItemRest w) → Asking
said_by s y = (item_spec s y.0).value y.1

abbrev items_onto : (s : Asking) → Body s → List Item
items_onto s (last h) = []
items_onto s (more y gs) = item_of y.0 y.1 ∷ items_onto (said_by s y) gs

abbrev next_onto : (s : Asking) → Body s → Head
next_onto s (last h) = h
next_onto s (more y gs) = next_onto (said_by s y) gs

abbrev body_back : List Item → Head → (s : Asking) → Body s
body_back [] h s = last h
body_back (i ∷ items) h s = more (rest_of i) (body_back items h (said_by s (rest_of i)))

items_again : (items : List Item) (h : Head) (s : Asking) → items_onto s (body_back items h s) ≡ items
items_again [] h s = refl
items_again (i ∷ items) h s =
    ap (λ j. j ∷ items_onto (said_by s (rest_of i)) (body_back items h (said_by s (rest_of i)))) (item_again i)
    ∙ ap (λ l. i ∷ l) (items_again items h (said_by s (rest_of i)))

next_again : (items : List Item) (h : Head) (s : Asking) → next_onto s (body_back items h s) ≡ h
next_again [] h s = refl
next_again (i ∷ items) h s = next_again items h (said_by s (rest_of i))

section_spells : (s : Asking) (gs : Body s) → spell_section (items_onto s gs) (next_onto s gs) ≡ (items_spec s).spell gs
section_spells s (last h) = refl
section_spells s (more y gs) =
    ap (λ l. l ++ spell_section (items_onto (said_by s y) gs) (next_onto (said_by s y) gs)) (item_spells s y.0 y.1)
    ∙ ap (λ l. (item_token y.0 ∷ (item_spec s y.0).spell y.1) ++ l) (section_spells (said_by s y) gs)

section_breaks : (s : Asking) (gs : Body s) → breaks_section s (items_onto s gs) ≡ (items_spec s).breaks gs
section_breaks s (last h) = refl
section_breaks s (more y gs) =
    ap (λ l. l ++ behind (length (spell_item (item_of y.0 y.1))) (breaks_section (value_item s (item_of y.0 y.1)) (items_onto (said_by s y) gs))) (item_breaks s y.0 y.1)
    ∙ ap (λ l. broken ++ behind (length l) (breaks_section (value_item s (item_of y.0 y.1)) (items_onto (said_by s y) gs))) (item_spells s y.0 y.1)
    ∙ ap (λ z. broken ++ behind size (breaks_section z (items_onto (said_by s y) gs))) (item_means s y.0 y.1)
    ∙ ap (λ l. broken ++ behind size l) (section_breaks (said_by s y) gs)
  where
    broken : List Break
    broken = on (at_word s y.0) ++ behind 1 ((item_spec s y.0).breaks y.1)

    size : ℕ
    size = length (item_token y.0 ∷ (item_spec s y.0).spell y.1)

section_means : (s : Asking) (gs : Body s) → (value_section s (items_onto s gs), next_onto s gs) ≡ (items_spec s).value gs
section_means s (last h) = refl
section_means s (more y gs) =
    ap (λ z. (value_section z (items_onto (said_by s y) gs), next_onto (said_by s y) gs)) (item_means s y.0 y.1)
    ∙ section_means (said_by s y) gs

section_goes_on : (s : Asking) (gs : Body s) (t : Terminal) → false ≡ (items_spec s).blocks gs t
section_goes_on s gs t = sym (body_blocks Fixed first_token (λ w. w) at_item End item_spec ended s gs t)

pub section_law : (s : Asking) → Lawful (section_spec s) (search_at s)
section_law s =
    Lawful-view (items_spec s) (section_spec s)
    (record {
      onto = λ gs. record { items = items_onto s gs; next = next_onto s gs };
      back = λ x. body_back x.items x.next s;
      again = λ x. λ i. record { items = items_again x.items x.next s i; next = next_again x.items x.next s i };
      spell = section_spells s;
      breaks = λ gs. ap first (section_breaks s gs);
      value = section_means s;
      blocks = section_goes_on s;
      start = refl;
    })
    (search_at s) (items_law s)
