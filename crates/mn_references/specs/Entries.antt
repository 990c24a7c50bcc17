-- Terms, the entries of vectors and rows, and bracketed lists of them.
use Rattle.std.specs.Prelude.{ℕ, ◌+◌, ◌*◌, ℤ, zero, suc, pos, leb, ltb, Bool, true, false, not, ◌&&◌, ◌||◌, List, [], ◌∷◌, ◌++◌, length, map, take, drop, Option, Some, None, if◌then◌else◌}
use Rattle.std.specs.Ordering.{int_eq}
use Rattle.mn_lexer.specs.Terminals.{Terminal, number, mark}
use Rattle.mn_lexer.specs.declared.marks.Mark.TheVariants.{OpenSquare, CloseSquare, Bang}
use Rattle.mn_model.specs.Problem.{Problem}
use Rattle.mn_model.specs.declared.constraint.Term.{Term}
use Rattle.mn_model.specs.declared.constraint.Term.TheVariants.{Var, Const, Not}
use Rattle.mn_model.specs.declared.limits.TheConstants.{PLACES}
use Rattle.mn_model.specs.declared.variable.VarId.{VarId}
use Rattle.mn_grammar.specs.Places.{Break, when, on, behind}
use Rattle.mn_grammar.specs.Lists.{Items, spell_maybe, Ends, Judge, breaks_maybe, value_maybe}
use Rattle.mn_grammar.specs.declared.Kind.{Kind}
use Rattle.mn_grammar.specs.declared.Kind.TheVariants as kinds
use Rattle.mn_grammar.specs.declared.Limit.TheVariants as limits
use Rattle.mn_references.specs.Conditions.{lesser, as_kind, unfit}
use Rattle.mn_references.specs.declared.want.Bounds.{Bounds}
use Rattle.mn_references.specs.declared.want.Unfit.{Unfit}
use Rattle.mn_references.specs.declared.want.Unfit.TheVariants.{Form, Length}
use Rattle.mn_references.specs.References.{Ref, spell_ref, Aim, Found, at_name, breaks_subs, lead_of, lead, breaks_ref, value_ref, are_bits, one_place}

-- the trees: a reference, a number, or `!` and a variable
pub data Entry : Type 0 where
  of_ref : Ref → Entry
  of_number : ℤ → Entry
  of_not : Ref → Entry

abbrev pub spell_entry : Entry → List Terminal
spell_entry (of_ref r) = spell_ref r
spell_entry (of_number z) = number z ∷ []
spell_entry (of_not r) = mark Bang ∷ spell_ref r

-- What is wanted of an entry: what its first token breaks, whatever it is; what a number breaks; and what is wanted of
-- a reference. Behind `!` always one variable is wanted that is 0 or 1.
pub record Place : Type 0 where
  pub first : Option Kind
  pub number : ℤ → Option Kind
  pub aim : Aim

-- What an entry stands for: its terms; where it is a whole matrix without indices, the matrix's dimensions; and what
-- the token after it breaks.
pub record Placed : Type 0 where
  pub terms : List Term
  pub dims : List ℕ
  pub behind : Option Unfit

-- the terms of a reference, and the one of a variable after `!`
abbrev pub placed : Found → Placed
placed f = record { terms = map Var f.vars; dims = f.dims; behind = f.behind }

abbrev pub denied : Found → Placed
denied f = record { terms = map Not (take 1 f.vars); dims = []; behind = f.behind }

abbrev pub constant : ℤ → Placed
constant z = record { terms = Const z ∷ []; dims = []; behind = None }

-- what an entry breaks, and what it stands for
abbrev pub breaks_entry : Problem → Place → Entry → List Break
breaks_entry p want (of_ref r) =
    on (lesser want.first (at_name want.aim (lead_of p r.name.bytes))) ++ behind 1 (breaks_subs want.aim (lead p r.name.bytes) r.subs)
breaks_entry p want (of_number z) = on (lesser want.first (want.number z))
breaks_entry p want (of_not r) = on want.first ++ behind 1 (breaks_ref p (one_place p true) r)

abbrev pub value_entry : Problem → Place → Entry → Placed
value_entry p want (of_ref r) = placed (value_ref p want.aim r)
value_entry p want (of_number z) = constant z
value_entry p want (of_not r) = denied (value_ref p (one_place p true) r)

-- a number where a 0/1 term is wanted is 0 or 1
abbrev pub at_number : Bool → ℤ → Option Kind
at_number bits z = when (bits && not (int_eq z (pos 0) || int_eq z (pos 1))) kinds.Shape

-- one term is wanted, where `bits` a 0/1 term
abbrev pub a_term : Problem → Bool → Place
a_term p bits = record { first = None; number = at_number bits; aim = one_place p bits }

-- as many as the limit allows
abbrev pub any_number : Bounds
any_number = record { least = 0; most = PLACES; bits = false }

-- At the end of a reference in a list that has n places before it: more variables than the limit leaves pass it; and
-- they are no more than wanted, and 0/1 where that is wanted.
abbrev pub at_end_in : Problem → Bounds → ℕ → List VarId → Option Unfit
at_end_in p b n vars =
    if ltb PLACES (n + length vars) then Some Length
    else unfit (ltb b.most (n + length vars) || (b.bits && not (are_bits p vars))) Form

abbrev pub in_list_aim : Problem → Bounds → ℕ → Aim
in_list_aim p b n = record { slices = true; ends = λ full vars. at_end_in p b n vars }

-- what is wanted of an entry after these terms; a first one that is too many breaks that at its first token
abbrev pub in_list : Problem → Bounds → List Term → Place
in_list p b terms = record {
  first = when (leb b.most (length terms)) kinds.Shape;
  number = at_number b.bits;
  aim = in_list_aim p b (length terms);
}

-- At the `,` after n places: the limit leaves one more, and one more is wanted.
abbrev pub at_more : Bounds → ℕ → Option Kind
at_more b n = lesser (when (leb PLACES n) (kinds.Limit limits.Vector)) (when (leb b.most n) kinds.Shape)

-- At the `]` after n places: they are enough.
abbrev pub at_enough : Bounds → ℕ → Option Kind
at_enough b n = when (ltb n b.least) kinds.Shape

-- how a bracketed list of entries is judged, by the terms before each
abbrev pub list_ends : Bounds → Ends (List Term) Placed
list_ends b = record {
  next = λ terms v. terms ++ v.terms;
  comma = λ terms v. lesser (as_kind v.behind) (at_more b (length (terms ++ v.terms)));
  close = λ terms v. lesser (as_kind v.behind) (at_enough b (length (terms ++ v.terms)));
}

abbrev pub list_judge : Problem → Bounds → Judge Entry (List Term) Placed
list_judge p b = record {
  spell = spell_entry;
  breaks = λ terms e. breaks_entry p (in_list p b terms) e;
  value = λ terms e. value_entry p (in_list p b terms) e;
  ends = list_ends b;
}

-- the terms of a whole list
abbrev pub listed_terms : List Term → Placed → List Term
listed_terms terms v = terms ++ v.terms

-- a bracketed list after its `[`: how it is spelled, what it breaks, and its terms
abbrev pub spell_list : Option (Items Entry) → List Terminal
spell_list l = spell_maybe CloseSquare spell_entry l

abbrev pub breaks_list : Problem → Bounds → Option (Items Entry) → List Break
breaks_list p b l = breaks_maybe (list_judge p b) (at_enough b 0) l []

abbrev pub value_list : Problem → Bounds → Option (Items Entry) → List Term
value_list p b l = value_maybe (list_judge p b) [] listed_terms l []

-- the trees of a vector: a reference, or a bracketed list
pub data Vector : Type 0 where
  whole : Ref → Vector
  listed : Option (Items Entry) → Vector

abbrev pub spell_vector : Vector → List Terminal
spell_vector (whole r) = spell_ref r
spell_vector (listed l) = mark OpenSquare ∷ spell_list l

-- At the end of a reference that is a vector by itself: more variables than the limit pass it; it isn't one variable
-- named in full; and it names as many as wanted, and 0/1 where that is wanted.
abbrev pub at_end_of : Problem → Bounds → Bool → List VarId → Option Unfit
at_end_of p b full vars =
    if ltb PLACES (length vars) then Some Length
    else unfit (full || ltb (length vars) b.least || ltb b.most (length vars) || (b.bits && not (are_bits p vars))) Form

abbrev pub a_vector : Problem → Bounds → Aim
a_vector p b = record { slices = true; ends = at_end_of p b }

-- a list has judged its end itself
abbrev pub within_brackets : List Term → Placed
within_brackets terms = record { terms = terms; dims = []; behind = None }

-- what a vector breaks, and what it stands for
abbrev pub breaks_vector : Problem → Bounds → Vector → List Break
breaks_vector p b (whole r) = breaks_ref p (a_vector p b) r
breaks_vector p b (listed l) = behind 1 (breaks_list p b l)

abbrev pub value_vector : Problem → Bounds → Vector → Placed
value_vector p b (whole r) = placed (value_ref p (a_vector p b) r)
value_vector p b (listed l) = within_brackets (value_list p b l)

-- the trees of what is printed: an entry, or a bracketed list
pub data Row : Type 0 where
  plain : Entry → Row
  bracketed : Option (Items Entry) → Row

abbrev pub spell_row : Row → List Terminal
spell_row (plain e) = spell_entry e
spell_row (bracketed l) = mark OpenSquare ∷ spell_list l

-- how often the last index runs through its dimension in a matrix, and how far
abbrev pub runs : List ℕ → ℕ
runs [] = 1
runs (dim ∷ []) = 1
runs (dim ∷ other ∷ dims) = dim * runs (other ∷ dims)

abbrev pub run : List ℕ → ℕ
run [] = 1
run (dim ∷ []) = dim
run (dim ∷ other ∷ dims) = run (other ∷ dims)

-- n lists of m terms each
abbrev pub parted : ℕ → ℕ → List Term → List (List Term)
parted zero m terms = []
parted (suc n) m terms = take m terms ∷ parted n m (drop m terms)

-- The rows of an entry without brackets around it: a bare matrix gives one for each run of its last index, and all else
-- gives one.
abbrev pub rows_of : List ℕ → List Term → List (List Term)
rows_of [] terms = terms ∷ []
rows_of (dim ∷ dims) terms = parted (runs (dim ∷ dims)) (run (dim ∷ dims)) terms

-- rows, and what the token after them breaks
pub record Rows : Type 0 where
  pub rows : List (List Term)
  pub behind : Option Unfit

abbrev pub one_by_one : Placed → Rows
one_by_one v = record { rows = rows_of v.dims v.terms; behind = v.behind }

abbrev pub one_row : List Term → Rows
one_row terms = record { rows = terms ∷ []; behind = None }

-- what a row breaks, and what it stands for
abbrev pub breaks_row : Problem → Row → List Break
breaks_row p (plain e) = breaks_entry p (in_list p any_number []) e
breaks_row p (bracketed l) = behind 1 (breaks_list p any_number l)

abbrev pub value_row : Problem → Row → Rows
value_row p (plain e) = one_by_one (value_entry p (in_list p any_number []) e)
value_row p (bracketed l) = one_row (value_list p any_number l)
