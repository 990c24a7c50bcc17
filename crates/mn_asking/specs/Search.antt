-- The section that says how to search and what to print.
use Rattle.std.specs.Prelude.{ℕ, ◌+◌, leb, ltb, Bool, true, false, not, ◌||◌, List, [], ◌∷◌, ◌++◌, length, replicate, Option, Some, None, codes}
use Rattle.mn_lexer.specs.Terminals.{Terminal, word, mark}
use Rattle.mn_lexer.specs.declared.marks.Mark.TheVariants.{OpenSquare, CloseSquare}
use Rattle.mn_model.specs.Problem.{Problem}
use Rattle.mn_model.specs.declared.constraint.Term.{Term}
use Rattle.mn_model.specs.declared.limits.TheConstants.{PLACES}
use Rattle.mn_model.specs.declared.search.Print.TheVariants as printed
use Rattle.mn_model.specs.declared.search.Print.{Print}
use Rattle.mn_model.specs.declared.variable.VarId.{VarId}
use Rattle.mn_model.specs.Variable.{variable}
use Rattle.mn_grammar.specs.Places.{Break, when, on, behind}
use Rattle.mn_grammar.specs.Lists.{Items, spell_maybe, Ends, Judge, breaks_maybe, value_maybe}
use Rattle.mn_grammar.specs.declared.Kind.{Kind}
use Rattle.mn_grammar.specs.declared.Kind.TheVariants as kinds
use Rattle.mn_grammar.specs.declared.Limit.TheVariants as limits
use Rattle.mn_references.specs.Conditions.{lesser, as_kind}
use Rattle.mn_references.specs.declared.want.Unfit.{Unfit}
use Rattle.mn_references.specs.References.{Ref, spell_ref, Aim, Found, breaks_ref, value_ref, one_place, order_aim_behind}
use Rattle.mn_cursor.specs.Heads.{head_token}
use Rattle.mn_cursor.specs.declared.asked.Asked.{Asked}
use Rattle.mn_cursor.specs.declared.heads.Head.{Head}
use Rattle.mn_cursor.specs.declared.heads.Head.TheVariants.{End}
use Rattle.mn_grammar.specs.Lawful.{Spec}
use Rattle.mn_grammar.specs.declared.site.Site.TheVariants.{Fixed}
use Rattle.mn_references.specs.Entries.{Row, Rows, spell_row, breaks_row, value_row}

-- What the text says so far, and what the next token breaks, whatever it is: an objective that is a whole matrix ends
-- only there.
pub record Asking : Type 0 where
  pub problem : Problem
  pub asked : Asked
  pub behind : Option Unfit

-- the words that items begin with
pub data ItemWord : Type 0 where
  says_order says_values maximises minimises prints : ItemWord

abbrev pub item_token : ItemWord → Terminal
item_token says_order = word (codes "VARORDER")
item_token says_values = word (codes "VALORDER")
item_token maximises = word (codes "MAXIMISING")
item_token minimises = word (codes "MINIMISING")
item_token prints = word (codes "PRINT")

-- At an item's word: it stands for the first time, a VALORDER after VARORDER, and there is one objective.
abbrev pub may_stand : Asked → ItemWord → Option Kind
may_stand a says_order = when a.order kinds.Again
may_stand a says_values = when (a.values || not a.order) kinds.Shape
may_stand a maximises = when a.goal kinds.Shape
may_stand a minimises = when a.goal kinds.Shape
may_stand a prints = when a.print kinds.Shape

-- beside that, what the objective before it breaks there
abbrev pub at_word : Asking → ItemWord → Option Kind
at_word s w = lesser (as_kind s.behind) (may_stand s.asked w)

-- VARORDER: the variables of its references, one after another, as many as the limit allows
abbrev pub order_aim : List VarId → Aim
order_aim vars = order_aim_behind (length vars)

-- at the `,` after these variables: the limit leaves one more
abbrev pub at_full : List VarId → Option Kind
at_full vars = when (leb PLACES (length vars)) (kinds.Limit limits.Vector)

abbrev pub order_ends : Ends (List VarId) Found
order_ends = record {
  next = λ vars f. vars ++ f.vars;
  comma = λ vars f. lesser (as_kind f.behind) (at_full (vars ++ f.vars));
  close = λ vars f. as_kind f.behind;
}

abbrev pub order_judge : Problem → Judge Ref (List VarId) Found
order_judge p = record {
  spell = spell_ref;
  breaks = λ vars r. breaks_ref p (order_aim vars) r;
  value = λ vars r. value_ref p (order_aim vars) r;
  ends = order_ends;
}

abbrev pub all_vars : List VarId → Found → List VarId
all_vars vars f = vars ++ f.vars

-- VALORDER: `d` is true
abbrev pub way_token : Bool → Terminal
way_token true = word (codes "d")
way_token false = word (codes "a")

-- At a first entry that is too many; at the `,` before one; and at the `]`, where one is missing.
abbrev pub values_ends : ℕ → Ends (List Bool) Bool
values_ends wanted = record {
  next = λ down d. down ++ d ∷ [];
  comma = λ down d. when (leb wanted (length down + 1)) kinds.Shape;
  close = λ down d. when (ltb (length down + 1) wanted) kinds.Shape;
}

abbrev pub at_way : ℕ → List Bool → Bool → Option Kind
at_way wanted down d = when (leb wanted (length down)) kinds.Shape

abbrev pub spell_way : Bool → List Terminal
spell_way d = way_token d ∷ []

abbrev pub values_judge : ℕ → Judge Bool (List Bool) Bool
values_judge wanted = record {
  spell = spell_way;
  breaks = λ down d. on (at_way wanted down d);
  value = λ down d. d;
  ends = values_ends wanted;
}

abbrev pub all_ways : List Bool → Bool → List Bool
all_ways down d = down ++ d ∷ []

-- a VALORDER without entries is too short, unless none are wanted
abbrev pub no_ways : ℕ → Option Kind
no_ways wanted = when (ltb 0 wanted) kinds.Shape

-- PRINT: its rows; a bare matrix without brackets ends at the token after it
abbrev pub rows_ends : Ends (List (List Term)) Rows
rows_ends = record {
  next = λ rows r. rows ++ r.rows;
  comma = λ rows r. as_kind r.behind;
  close = λ rows r. as_kind r.behind;
}

abbrev pub rows_judge : Problem → Judge Row (List (List Term)) Rows
rows_judge p = record {
  spell = spell_row;
  breaks = λ rows r. breaks_row p r;
  value = λ rows r. value_row p r;
  ends = rows_ends;
}

abbrev pub all_rows : List (List Term) → Rows → List (List Term)
all_rows rows r = rows ++ r.rows

-- the trees of what follows PRINT
pub data Printing : Type 0 where
  print_all print_none : Printing
  print_rows : Option (Items Row) → Printing

-- the trees of items
pub data Item : Type 0 where
  var_order : Bool → Option (Items Ref) → Item
  val_order : Option (Items Bool) → Item
  objective : Bool → Ref → Item
  print : Printing → Item

abbrev pub goal_word : Bool → ItemWord
goal_word true = maximises
goal_word false = minimises

abbrev pub spell_static : Bool → List Terminal
spell_static true = word (codes "STATIC") ∷ mark OpenSquare ∷ []
spell_static false = mark OpenSquare ∷ []

abbrev pub spell_printing : Printing → List Terminal
spell_printing print_all = word (codes "ALL") ∷ []
spell_printing print_none = word (codes "NONE") ∷ []
spell_printing (print_rows rows) = mark OpenSquare ∷ spell_maybe CloseSquare spell_row rows

abbrev pub spell_item : Item → List Terminal
spell_item (var_order static refs) = item_token says_order ∷ spell_static static ++ spell_maybe CloseSquare spell_ref refs
spell_item (val_order ways) = item_token says_values ∷ mark OpenSquare ∷ spell_maybe CloseSquare spell_way ways
spell_item (objective maximise r) = item_token (goal_word maximise) ∷ spell_ref r
spell_item (print printing) = item_token prints ∷ spell_printing printing

-- what an item breaks after its word
abbrev pub breaks_printing : Problem → Printing → List Break
breaks_printing p print_all = []
breaks_printing p print_none = []
breaks_printing p (print_rows rows) = behind 1 (breaks_maybe (rows_judge p) None rows [])

abbrev pub breaks_behind : Problem → Item → List Break
breaks_behind p (var_order static refs) = behind (length (spell_static static)) (breaks_maybe (order_judge p) None refs [])
breaks_behind p (val_order ways) =
    behind 1 (breaks_maybe (values_judge (length p.order.vars)) (no_ways (length p.order.vars)) ways [])
breaks_behind p (objective maximise r) = breaks_ref p (one_place p false) r
breaks_behind p (print printing) = breaks_printing p printing

abbrev pub word_of : Item → ItemWord
word_of (var_order static refs) = says_order
word_of (val_order ways) = says_values
word_of (objective maximise r) = goal_word maximise
word_of (print printing) = prints

abbrev pub breaks_item : Asking → Item → List Break
breaks_item s i = on (at_word s (word_of i)) ++ behind 1 (breaks_behind s.problem i)

-- what is said after each
abbrev pub with_order : Asking → List VarId → Asking
with_order s vars = record s {
  problem = record (s.problem) { order = record { vars = vars; down = replicate (length vars) false } };
  asked = record (s.asked) { order = true };
  behind = None;
}

abbrev pub with_values : Asking → List Bool → Asking
with_values s down = record s {
  problem = record (s.problem) { order = record (s.problem.order) { down = down } };
  asked = record (s.asked) { values = true };
  behind = None;
}

-- the one variable of a reference
abbrev pub first_of : List VarId → VarId
first_of [] = variable 0
first_of (v ∷ vars) = v

abbrev pub with_goal : Asking → Bool → Found → Asking
with_goal s maximise f = record s {
  problem = record (s.problem) { goal = Some (record { var = first_of f.vars; maximise = maximise }) };
  asked = record (s.asked) { goal = true };
  behind = f.behind;
}

abbrev pub value_printing : Problem → Printing → Print
value_printing p print_all = printed.All
value_printing p print_none = printed.Nothing
value_printing p (print_rows rows) = printed.Rows (value_maybe (rows_judge p) [] all_rows rows [])

abbrev pub with_print : Asking → Print → Asking
with_print s what = record s {
  problem = record (s.problem) { print = what };
  asked = record (s.asked) { print = true };
  behind = None;
}

abbrev pub value_item : Asking → Item → Asking
value_item s (var_order static refs) = with_order s (value_maybe (order_judge s.problem) [] all_vars refs [])
value_item s (val_order ways) = with_values s (value_maybe (values_judge (length s.problem.order.vars)) [] all_ways ways [])
value_item s (objective maximise r) = with_goal s maximise (value_ref s.problem (one_place s.problem false) r)
value_item s (print printing) = with_print s (value_printing s.problem printing)

-- the section after its head: its items, and the head of the next
abbrev pub spell_section : List Item → Head → List Terminal
spell_section [] h = head_token h ∷ []
spell_section (i ∷ items) h = spell_item i ++ spell_section items h

-- what it breaks, and what is said after it
abbrev pub breaks_section : Asking → List Item → List Break
breaks_section s [] = on (as_kind s.behind)
breaks_section s (i ∷ items) = breaks_item s i ++ behind (length (spell_item i)) (breaks_section (value_item s i) items)

abbrev pub value_section : Asking → List Item → Asking
value_section s [] = s
value_section s (i ∷ items) = value_section (value_item s i) items

-- the trees of the section
pub record Section : Type 0 where
  pub items : List Item
  pub next : Head

-- the same as a language
abbrev pub section_spec : Asking → Spec Section (Asking × Head)
section_spec s = record {
  spell = λ x. spell_section x.items x.next;
  breaks = λ x. breaks_section s x.items;
  value = λ x. (value_section s x.items, x.next);
  blocks = λ x t. false;
  start = Fixed;
  any = record { items = []; next = End };
}
