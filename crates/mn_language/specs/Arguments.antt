-- The arguments of forms: how each is spelled, what it breaks, and what it stands for.
use Rattle.std.specs.Prelude.{ℕ, ℤ, zero, suc, pos, ◌+◌, ◌==◌, leb, ltb, Bool, true, false, not, ◌&&◌, ◌||◌, List, [], ◌∷◌, ◌++◌, length, Option, Some, None, unwrap_or, slice_get, if◌then◌else◌}
use Rattle.std.specs.Str.{bytes_eq}
use Rattle.mn_lexer.specs.Terminals.{Terminal, word, number, mark}
use Rattle.mn_lexer.specs.declared.marks.Mark.TheVariants.{OpenSquare, CloseSquare, OpenCurly, CloseCurly, CloseRound, Less, Greater, Comma}
use Rattle.mn_model.specs.Problem.{Problem, listed_as}
use Rattle.mn_model.specs.declared.constraint.Tab.{Tab}
use Rattle.mn_model.specs.declared.constraint.Tab.TheVariants.{Named, Here}
use Rattle.mn_model.specs.declared.constraint.Term.{Term}
use Rattle.mn_model.specs.declared.constraint.Term.TheVariants.{Const}
use Rattle.mn_model.specs.declared.declaration.Tuples.{Tuples}
use Rattle.mn_model.specs.declared.limits.TheConstants.{CELLS, PLACES}
use Rattle.mn_grammar.specs.Tokens.{Name}
use Rattle.mn_grammar.specs.Places.{Break, when, on, behind}
use Rattle.mn_grammar.specs.Lists.{Items, spell_items, spell_maybe, Ends, Judge, breaks_items, value_items, breaks_maybe, value_maybe}
use Rattle.mn_grammar.specs.Rows.{Sorts, Arguments}
use Rattle.mn_grammar.specs.declared.Kind.{Kind}
use Rattle.mn_grammar.specs.declared.Kind.TheVariants as kinds
use Rattle.mn_grammar.specs.declared.Limit.TheVariants as limits
use Rattle.mn_references.specs.Conditions.{lesser, as_kind}
use Rattle.mn_references.specs.Entries.{Entry, spell_entry, breaks_entry, value_entry, a_term, Placed, any_number, Vector, spell_vector, breaks_vector, value_vector}
use Rattle.mn_references.specs.declared.want.Bounds.{Bounds}
use Rattle.mn_references.specs.declared.want.Unfit.{Unfit}
use Rattle.mn_language.specs.declared.forms.Argument.{Argument}
use Rattle.mn_language.specs.declared.forms.Argument.TheVariants as takes
use Rattle.mn_language.specs.declared.forms.Numbers.{Numbers}
use Rattle.mn_language.specs.declared.forms.Numbers.TheVariants as numbers
use Rattle.mn_language.specs.declared.forms.Places.{Places}
use Rattle.mn_language.specs.declared.forms.Places.TheVariants as places

-- what an argument stands for: the terms of a term or a vector, with what the token after it breaks; numbers; or the
-- tuples of a table
pub data Value : Type 0 where
  of_terms : List Term → Option Unfit → Value
  of_numbers : List ℤ → Value
  of_tuples : Tab → Value

abbrev pub placed_value : Placed → Value
placed_value v = of_terms v.terms v.behind

-- how long it is: a vector or a list of numbers
abbrev pub length_of : Value → ℕ
length_of (of_terms terms broken) = length terms
length_of (of_numbers zs) = length zs
length_of (of_tuples tab) = 0

-- the length that a later argument has to agree with: that of the first
abbrev pub length_wanted : List Value → ℕ
length_wanted [] = 0
length_wanted (v ∷ vs) = length_of v

-- what the token after it breaks: a whole matrix without indices ends only there
abbrev pub behind_value : Value → Option Kind
behind_value (of_terms terms broken) = as_kind broken
behind_value (of_numbers zs) = None
behind_value (of_tuples tab) = None

-- the condition on the token after the last of these
abbrev pub behind_last : List Value → Option Kind
behind_last [] = None
behind_last (v ∷ []) = behind_value v
behind_last (v ∷ w ∷ vs) = behind_last (w ∷ vs)

-- The wanted arguments by their place.
abbrev pub terms_in : Option Value → List Term
terms_in (Some (of_terms terms broken)) = terms
terms_in _ = []

abbrev pub numbers_in : Option Value → List ℤ
numbers_in (Some (of_numbers zs)) = zs
numbers_in _ = []

abbrev pub tuples_in : Option Value → Tab
tuples_in (Some (of_tuples tab)) = tab
tuples_in _ = Here 0 []

abbrev pub term_of : List Term → Term
term_of terms = unwrap_or (slice_get terms 0) (Const (pos 0))

abbrev pub vector_at_place : List Value → ℕ → List Term
vector_at_place vs n = terms_in (slice_get vs n)

abbrev pub term_at_place : List Value → ℕ → Term
term_at_place vs n = term_of (terms_in (slice_get vs n))

abbrev pub numbers_at_place : List Value → ℕ → List ℤ
numbers_at_place vs n = numbers_in (slice_get vs n)

-- the number at a place of a list
abbrev pub number_in : Option Value → ℕ → ℤ
number_in v i = unwrap_or (slice_get (numbers_in v) i) (pos 0)

abbrev pub number_at_place : List Value → ℕ → ℤ
number_at_place vs n = number_in (slice_get vs n) 0

abbrev pub second_at_place : List Value → ℕ → ℤ
second_at_place vs n = number_in (slice_get vs n) 1

abbrev pub tuples_at_place : List Value → ℕ → Tab
tuples_at_place vs n = tuples_in (slice_get vs n)

-- 1. Vectors: what is wanted of each kind
abbrev pub vector_wanted : Places → List Value → Bounds
vector_wanted places.Any vs = any_number
vector_wanted places.Some vs = record (any_number) { least = 1 }
vector_wanted places.Bits vs = record (any_number) { bits = true }
vector_wanted places.Alike vs = record (any_number) { least = length_wanted vs; most = length_wanted vs }

-- 2. Lists of numbers. What is wanted of one: how many numbers, where that is told; whether it has the limit of a vector,
-- since it has to agree with one; and whether its numbers come in pairs.
pub record Wanted : Type 0 where
  pub count : Option ℕ
  pub limited : Bool
  pub paired : Bool

abbrev pub exactly : ℕ → Wanted
exactly n = record { count = Some n; limited = false; paired = false }

abbrev pub numbers_wanted : Numbers → List Value → Wanted
numbers_wanted numbers.Any vs = record { count = None; limited = false; paired = false }
numbers_wanted numbers.Pairs vs = record { count = None; limited = false; paired = true }
numbers_wanted numbers.Weights vs = record { count = None; limited = true; paired = false }
numbers_wanted numbers.Alike vs = record { count = Some (length_wanted vs); limited = true; paired = false }

-- no more than n numbers are wanted; more than n are
abbrev pub is_full : Option ℕ → ℕ → Bool
is_full None n = false
is_full (Some m) n = leb m n

abbrev pub is_short : Option ℕ → ℕ → Bool
is_short None n = false
is_short (Some m) n = ltb n m

abbrev pub is_odd : ℕ → Bool
is_odd zero = false
is_odd (suc n) = not (is_odd n)

-- At a number: a first one that is too many.
abbrev pub at_one : Wanted → List ℤ → ℤ → Option Kind
at_one w before z = when (is_full w.count (length before)) kinds.Shape

-- At the `,` after n numbers: the limit leaves one more, and one more is wanted.
abbrev pub at_another : Wanted → ℕ → Option Kind
at_another w n = lesser (when (w.limited && leb PLACES n) (kinds.Limit limits.Vector)) (when (is_full w.count n) kinds.Shape)

-- At the end after n numbers: they are enough, and in pairs where that is wanted.
abbrev pub at_close : Wanted → ℕ → Option Kind
at_close w n = when (is_short w.count n || (w.paired && is_odd n)) kinds.Shape

abbrev pub spell_number : ℤ → List Terminal
spell_number z = number z ∷ []

-- how the numbers are judged, one by one
abbrev pub number_ends : Wanted → Ends (List ℤ) ℤ
number_ends w = record {
  next = λ before z. before ++ z ∷ [];
  comma = λ before z. at_another w (length (before ++ z ∷ []));
  close = λ before z. at_close w (length (before ++ z ∷ []));
}

abbrev pub number_judge : Wanted → Judge ℤ (List ℤ) ℤ
number_judge w = record { spell = spell_number; breaks = λ before z. on (at_one w before z); value = λ before z. z; ends = number_ends w }

abbrev pub with_number : List ℤ → ℤ → List ℤ
with_number before z = before ++ z ∷ []

-- a list of them in brackets
abbrev pub spell_numbers : Option (Items ℤ) → List Terminal
spell_numbers l = mark OpenSquare ∷ spell_maybe CloseSquare spell_number l

abbrev pub breaks_numbers : Wanted → Option (Items ℤ) → List Break
breaks_numbers w l = behind 1 (breaks_maybe (number_judge w) (at_close w 0) l [])

abbrev pub value_numbers : Wanted → Option (Items ℤ) → List ℤ
value_numbers w l = value_maybe (number_judge w) [] with_number l []

-- 3. Tables: the name of a tuple list, or literal tuples
pub data Table : Type 0 where
  named : Name → Table
  here : Option (Items (Items ℤ)) → Table

-- the tuples of a vector with n places: each of n numbers
abbrev pub spell_tuple : Items ℤ → List Terminal
spell_tuple t = mark Less ∷ spell_items Greater spell_number t

-- At a tuple's `<`, after the cells that are used before the table and those of its tuples so far: the limit leaves n.
abbrev pub at_tuple : ℕ → ℕ → List ℤ → Option Kind
at_tuple used n cells = when (ltb CELLS (used + length cells + n)) (kinds.Limit limits.Cells)

abbrev pub value_tuple : ℕ → Items ℤ → List ℤ
value_tuple n t = value_items (number_judge (exactly n)) with_number t []

abbrev pub tuple_ends : Ends (List ℤ) (List ℤ)
tuple_ends = record { next = λ cells more. cells ++ more; comma = λ cells more. None; close = λ cells more. None }

abbrev pub tuple_judge : ℕ → ℕ → Judge (Items ℤ) (List ℤ) (List ℤ)
tuple_judge used n = record {
  spell = spell_tuple;
  breaks = λ cells t. on (at_tuple used n cells) ++ behind 1 (breaks_items (number_judge (exactly n)) t []);
  value = λ cells t. value_tuple n t;
  ends = tuple_ends;
}

abbrev pub with_tuple : List ℤ → List ℤ → List ℤ
with_tuple cells more = cells ++ more

-- the place of a tuple list among them, by its name
abbrev pub list_place : List Tuples → List ℕ → ℕ
list_place [] name = 0
list_place (t ∷ ts) name = if bytes_eq name t.name then 0 else suc (list_place ts name)

-- At a tuple list's name: it is declared, and has the vector's length.
abbrev pub at_list : ℕ → Option Tuples → Option Kind
at_list n None = Some kinds.Name
at_list n (Some t) = when (not (t.arity == n)) kinds.Shape

abbrev pub spell_table : Table → List Terminal
spell_table (named name) = word name.bytes ∷ []
spell_table (here l) = mark OpenCurly ∷ spell_maybe CloseCurly spell_tuple l

abbrev pub breaks_table : Problem → ℕ → ℕ → Table → List Break
breaks_table p used n (named name) = on (at_list n (listed_as p.tuples name.bytes))
breaks_table p used n (here l) = behind 1 (breaks_maybe (tuple_judge used n) None l [])

abbrev pub value_table : Problem → ℕ → ℕ → Table → Tab
value_table p used n (named name) = Named (list_place p.tuples name.bytes)
value_table p used n (here l) = Here n (value_maybe (tuple_judge used n) [] with_tuple l [])

-- 4. Two numbers in brackets
abbrev pub spell_range : ℤ × ℤ → List Terminal
spell_range r = mark OpenSquare ∷ number r.0 ∷ mark Comma ∷ number r.1 ∷ mark CloseSquare ∷ []

-- 5. All of them, each after the values of those before it, in a problem with so many cells that are used
abbrev pub Written : Argument → Type 0
Written takes.Term = Entry
Written (takes.Vector w) = Vector
Written takes.Number = ℤ
Written (takes.Numbers w) = Option (Items ℤ)
Written takes.Range = ℤ × ℤ
Written takes.Tuples = Table

abbrev pub spell_argument : (k : Argument) → Written k → List Terminal
spell_argument takes.Term e = spell_entry e
spell_argument (takes.Vector w) v = spell_vector v
spell_argument takes.Number z = spell_number z
spell_argument (takes.Numbers w) l = spell_numbers l
spell_argument takes.Range r = spell_range r
spell_argument takes.Tuples t = spell_table t

abbrev pub breaks_argument : Problem → ℕ → (k : Argument) → List Value → Written k → List Break
breaks_argument p used takes.Term vs e = breaks_entry p (a_term p false) e
breaks_argument p used (takes.Vector w) vs v = breaks_vector p (vector_wanted w vs) v
breaks_argument p used takes.Number vs z = []
breaks_argument p used (takes.Numbers w) vs l = breaks_numbers (numbers_wanted w vs) l
breaks_argument p used takes.Range vs r = []
breaks_argument p used takes.Tuples vs t = breaks_table p used (length_wanted vs) t

abbrev pub value_argument : Problem → ℕ → (k : Argument) → List Value → Written k → Value
value_argument p used takes.Term vs e = placed_value (value_entry p (a_term p false) e)
value_argument p used (takes.Vector w) vs v = placed_value (value_vector p (vector_wanted w vs) v)
value_argument p used takes.Number vs z = of_numbers (z ∷ [])
value_argument p used (takes.Numbers w) vs l = of_numbers (value_numbers (numbers_wanted w vs) l)
value_argument p used takes.Range vs r = of_numbers (r.0 ∷ r.1 ∷ [])
value_argument p used takes.Tuples vs t = of_tuples (value_table p used (length_wanted vs) t)

-- a row of them, with `,` between and `)` after the last
abbrev pub spell_arguments : (row : List Argument) → Arguments Written row → List Terminal
spell_arguments [] u = mark CloseRound ∷ []
spell_arguments (k ∷ []) a = spell_argument k a.0 ++ mark CloseRound ∷ []
spell_arguments (k ∷ l ∷ ks) a = spell_argument k a.0 ++ mark Comma ∷ spell_arguments (l ∷ ks) a.1

-- the condition on the mark after each
abbrev pub behind_argument : Argument → List Value → Option Kind
behind_argument k vs = behind_last vs

abbrev pub arguments : Problem → ℕ → Sorts Argument Value Written
arguments p used = record {
  spell = spell_argument;
  breaks = breaks_argument p used;
  value = value_argument p used;
  on_mark = behind_argument;
}
