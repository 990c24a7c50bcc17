-- Constraints and their section: how they are spelled, what they break, and what they stand for.
use Rattle.std.specs.Prelude.{ℕ, zero, suc, ◌+◌, leb, Bool, true, false, List, [], ◌∷◌, ◌++◌, length, Option, Some, None}
use Rattle.mn_lexer.specs.Terminals.{Terminal, mark}
use Rattle.mn_lexer.specs.declared.marks.Mark.TheVariants.{OpenCurly, CloseCurly, OpenRound, CloseRound, Comma}
use Rattle.mn_model.specs.Negation.{reified, followed_by}
use Rattle.mn_model.specs.Parts.{cell_count}
use Rattle.mn_model.specs.Problem.{Problem, total, cells_of}
use Rattle.mn_model.specs.declared.constraint.Con.{Con}
use Rattle.mn_model.specs.declared.constraint.Con.TheBlock.{more_of-Con, end_of-Con}
use Rattle.mn_model.specs.declared.constraint.Con.TheVariants as con
use Rattle.mn_model.specs.declared.constraint.Term.{Term}
use Rattle.mn_model.specs.declared.limits.TheConstants.{CONSTRAINTS, NESTING}
use Rattle.mn_grammar.specs.Places.{Break, when, on, behind}
use Rattle.mn_grammar.specs.Rows.{Arguments, breaks_row, values_row}
use Rattle.mn_grammar.specs.Lawful.{Spec}
use Rattle.mn_grammar.specs.declared.site.Site.TheVariants.{Fixed}
use Rattle.mn_grammar.specs.declared.Kind.{Kind}
use Rattle.mn_grammar.specs.declared.Kind.TheVariants as kinds
use Rattle.mn_grammar.specs.declared.Limit.TheVariants as limits
use Rattle.mn_references.specs.Conditions.{lesser, as_kind}
use Rattle.mn_references.specs.Entries.{Entry, spell_entry, breaks_entry, value_entry, a_term}
use Rattle.mn_cursor.specs.Heads.{head_token}
use Rattle.mn_cursor.specs.declared.heads.Head.{Head}
use Rattle.mn_cursor.specs.declared.heads.Head.TheVariants.{End}
use Rattle.mn_language.specs.Arguments.{Value, vector_at_place, term_at_place, numbers_at_place, number_at_place, second_at_place, tuples_at_place, term_of, Written, spell_arguments, arguments}
use Rattle.mn_language.specs.Forms.{form_line, form_token}
use Rattle.mn_language.specs.declared.forms.Form.{Form}
use Rattle.mn_language.specs.declared.forms.Form.TheVariants.{Leaf as of_leaf, Gather as of_gather, Tie as of_tie}
use Rattle.mn_language.specs.declared.forms.Gather.{Gather}
use Rattle.mn_language.specs.declared.forms.Gather.TheVariants.{Or, And}
use Rattle.mn_language.specs.declared.forms.Leaf.{Leaf}
use Rattle.mn_language.specs.declared.forms.Leaf.TheVariants as form
use Rattle.mn_language.specs.declared.forms.Tie.{Tie}
use Rattle.mn_language.specs.declared.forms.Tie.TheVariants.{Reify, Reifyimply}

-- what a form stands for, by its arguments
abbrev pub meaning : Leaf → List Value → Con
meaning form.Eq vs = con.Eq (term_at_place vs 0) (term_at_place vs 1)
meaning form.Diseq vs = con.Diseq (term_at_place vs 0) (term_at_place vs 1)
meaning form.Ineq vs = con.Ineq (term_at_place vs 0) (term_at_place vs 1) (number_at_place vs 2)
meaning form.Watchless vs = con.Watchless (term_at_place vs 0) (term_at_place vs 1)
meaning form.Minuseq vs = con.Minuseq (term_at_place vs 0) (term_at_place vs 1)
meaning form.Abs vs = con.Abs (term_at_place vs 0) (term_at_place vs 1)
meaning form.Difference vs = con.Difference (term_at_place vs 0) (term_at_place vs 1) (term_at_place vs 2)
meaning form.Product vs = con.Product (term_at_place vs 0) (term_at_place vs 1) (term_at_place vs 2)
meaning form.Div vs = con.Div (term_at_place vs 0) (term_at_place vs 1) (term_at_place vs 2)
meaning form.Modulo vs = con.Modulo (term_at_place vs 0) (term_at_place vs 1) (term_at_place vs 2)
meaning form.Max vs = con.Max (vector_at_place vs 0) (term_at_place vs 1)
meaning form.Min vs = con.Min (vector_at_place vs 0) (term_at_place vs 1)
meaning form.Sumleq vs = con.Sumleq (vector_at_place vs 0) (term_at_place vs 1)
meaning form.Sumgeq vs = con.Sumgeq (vector_at_place vs 0) (term_at_place vs 1)
meaning form.Weightedsumleq vs = con.Weightedsumleq (numbers_at_place vs 0) (vector_at_place vs 1) (term_at_place vs 2)
meaning form.Weightedsumgeq vs = con.Weightedsumgeq (numbers_at_place vs 0) (vector_at_place vs 1) (term_at_place vs 2)
meaning form.Watchsumleq vs = con.Watchsumleq (vector_at_place vs 0) (number_at_place vs 1)
meaning form.Watchsumgeq vs = con.Watchsumgeq (vector_at_place vs 0) (number_at_place vs 1)
meaning form.Litsumgeq vs = con.Litsumgeq (vector_at_place vs 0) (numbers_at_place vs 1) (number_at_place vs 2)
meaning form.Element vs = con.Element (vector_at_place vs 0) (term_at_place vs 1) (term_at_place vs 2)
meaning form.Watchelement vs = con.Watchelement (vector_at_place vs 0) (term_at_place vs 1) (term_at_place vs 2)
meaning form.ElementOne vs = con.ElementOne (vector_at_place vs 0) (term_at_place vs 1) (term_at_place vs 2)
meaning form.WatchelementOne vs = con.WatchelementOne (vector_at_place vs 0) (term_at_place vs 1) (term_at_place vs 2)
meaning form.Table vs = con.Table (vector_at_place vs 0) (tuples_at_place vs 1)
meaning form.Negativetable vs = con.Negativetable (vector_at_place vs 0) (tuples_at_place vs 1)
meaning form.Alldiff vs = con.Alldiff (vector_at_place vs 0)
meaning form.Lexleq vs = con.Lexleq (vector_at_place vs 0) (vector_at_place vs 1)
meaning form.Lexless vs = con.Lexless (vector_at_place vs 0) (vector_at_place vs 1)
meaning form.Watchvecneq vs = con.Watchvecneq (vector_at_place vs 0) (vector_at_place vs 1)
meaning form.Hamming vs = con.Hamming (vector_at_place vs 0) (vector_at_place vs 1) (number_at_place vs 2)
meaning form.Occurrence vs = con.Occurrence (vector_at_place vs 0) (number_at_place vs 1) (term_at_place vs 2)
meaning form.Occurrenceleq vs = con.Occurrenceleq (vector_at_place vs 0) (number_at_place vs 1) (number_at_place vs 2)
meaning form.Occurrencegeq vs = con.Occurrencegeq (vector_at_place vs 0) (number_at_place vs 1) (number_at_place vs 2)
meaning form.Nvalueleq vs = con.Nvalueleq (vector_at_place vs 0) (term_at_place vs 1)
meaning form.WLiteral vs = con.WLiteral (term_at_place vs 0) (number_at_place vs 1)
meaning form.WNotliteral vs = con.WNotliteral (term_at_place vs 0) (number_at_place vs 1)
meaning form.WInset vs = con.WInset (term_at_place vs 0) (numbers_at_place vs 1)
meaning form.WNotinset vs = con.WNotinset (term_at_place vs 0) (numbers_at_place vs 1)
meaning form.WInrange vs = con.WInrange (term_at_place vs 0) (number_at_place vs 1) (second_at_place vs 1)
meaning form.WNotinrange vs = con.WNotinrange (term_at_place vs 0) (number_at_place vs 1) (second_at_place vs 1)
meaning form.WInintervalset vs = con.WInintervalset (term_at_place vs 0) (numbers_at_place vs 1)
meaning form.Always vs = con.Always
meaning form.Never vs = con.Never

-- what several constraints stand for together
abbrev pub gathered : Gather → List Con → Con
gathered Or cs = con.WatchedOr (followed_by cs con.End)
gathered And cs = con.WatchedAnd (followed_by cs con.End)

-- what one stands for beside a 0/1 term
abbrev pub tied : Tie → Con → Term → Con
tied Reify c r = reified c r
tied Reifyimply c r = con.Reifyimply' tt (more_of-Con c end_of-Con) r

-- the trees: a form with its arguments; one of several constraints, or of none; one of a constraint and a 0/1 term
mutual
  pub data Constraint : Type 0 where
    simple : (f : Leaf) → Arguments Written (form_line f).takes → Constraint
    gathers_none : Gather → Constraint
    gathers : Gather → Children → Constraint
    ties : Tie → Constraint → Entry → Constraint

  pub data Children : Type 0 where
    one_child : Constraint → Children
    child_and : Constraint → Children → Children

abbrev mutual
  pub spell_constraint : Constraint → List Terminal
  spell_constraint (simple f a) = form_token (of_leaf f) ∷ mark OpenRound ∷ spell_arguments (form_line f).takes a
  spell_constraint (gathers_none g) = form_token (of_gather g) ∷ mark OpenRound ∷ mark OpenCurly ∷ mark CloseCurly ∷ mark CloseRound ∷ []
  spell_constraint (gathers g cs) = form_token (of_gather g) ∷ mark OpenRound ∷ mark OpenCurly ∷ spell_children cs ++ mark CloseRound ∷ []
  spell_constraint (ties t c e) =
      form_token (of_tie t) ∷ mark OpenRound ∷ spell_constraint c ++ mark Comma ∷ (spell_entry e ++ mark CloseRound ∷ [])

  pub spell_children : Children → List Terminal
  spell_children (one_child c) = spell_constraint c ++ mark CloseCurly ∷ []
  spell_children (child_and c cs) = spell_constraint c ++ mark Comma ∷ spell_children cs

-- What is before a constraint: whether the limit leaves none more where it stands, and how many cells tuples have.
pub record Before : Type 0 where
  pub full : Bool
  pub cells : ℕ

-- before one of the section, and before one inside another, which doesn't count
abbrev pub before_all : Problem → Before
before_all p = record { full = leb CONSTRAINTS (length p.cons); cells = cells_of p }

abbrev pub inside : ℕ → Before
inside n = record { full = false; cells = n }

-- how many cells there are after children
abbrev pub cells_behind : ℕ → List Con → ℕ
cells_behind n cs = n + total cell_count cs

-- At the name of a form with others inside: so many of them may still stand inside one another.
abbrev pub at_depth : ℕ → Option Kind
at_depth zero = Some (kinds.Limit limits.Nesting)
at_depth (suc d) = None

abbrev pub at_inside : ℕ → Form → Option Kind
at_inside d (of_leaf f) = None
at_inside d (of_gather g) = at_depth d
at_inside d (of_tie t) = at_depth d

-- At a form's name: beside that, the limit of constraints leaves it.
abbrev pub at_form : ℕ → Before → Form → Option Kind
at_form d s f = lesser (when s.full (kinds.Limit limits.Constraints)) (at_inside d f)

-- what they stand for, where tuples have n cells before them
abbrev mutual
  pub value_constraint : Problem → Constraint → ℕ → Con
  value_constraint p (simple f a) n = meaning f (values_row (arguments p n) (form_line f).takes a)
  value_constraint p (gathers_none g) n = gathered g []
  value_constraint p (gathers g cs) n = gathered g (value_children p cs n [])
  value_constraint p (ties t c e) n = tied t (value_constraint p c n) (term_of (value_entry p (a_term p true) e).terms)

  -- after those before them
  pub value_children : Problem → Children → ℕ → List Con → List Con
  value_children p (one_child c) n before = before ++ value_constraint p c (cells_behind n before) ∷ []
  value_children p (child_and c cs) n before = value_children p cs n (before ++ value_constraint p c (cells_behind n before) ∷ [])

-- what they break, where d forms may stand inside one another
abbrev mutual
  pub breaks_constraint : Problem → Constraint → ℕ → Before → List Break
  breaks_constraint p (simple f a) d s = on (at_form d s (of_leaf f)) ++ behind 2 (breaks_row (arguments p s.cells) (form_line f).takes a)
  breaks_constraint p (gathers_none g) d s = on (at_form d s (of_gather g))
  breaks_constraint p (gathers g cs) zero s = on (at_form zero s (of_gather g))
  breaks_constraint p (gathers g cs) (suc d) s = on (at_form (suc d) s (of_gather g)) ++ behind 3 (breaks_children p cs d s.cells [])
  breaks_constraint p (ties t c e) zero s = on (at_form zero s (of_tie t))
  breaks_constraint p (ties t c e) (suc d) s =
      on (at_form (suc d) s (of_tie t))
      ++ behind 2 (breaks_constraint p c d (inside s.cells)
      ++ behind (length (spell_constraint c)) (behind 1 (breaks_entry p (a_term p true) e
      ++ behind (length (spell_entry e)) (on (as_kind (value_entry p (a_term p true) e).behind)))))

  pub breaks_children : Problem → Children → ℕ → ℕ → List Con → List Break
  breaks_children p (one_child c) d n before = breaks_constraint p c d (inside (cells_behind n before))
  breaks_children p (child_and c cs) d n before =
      breaks_constraint p c d (inside (cells_behind n before))
      ++ behind (length (spell_constraint c)) (behind 1 (breaks_children p cs d n (before ++ value_constraint p c (cells_behind n before) ∷ [])))

-- the problem with one more constraint
abbrev pub with_constraint : Problem → Con → Problem
with_constraint p c = record p { cons = p.cons ++ c ∷ [] }

abbrev pub after_constraint : Problem → Constraint → Problem
after_constraint p c = with_constraint p (value_constraint p c (cells_of p))

-- the section: constraints, and the head after them
abbrev pub spell_section : List Constraint → Head → List Terminal
spell_section [] h = head_token h ∷ []
spell_section (c ∷ cs) h = spell_constraint c ++ spell_section cs h

-- what it breaks, and the problem with its constraints
abbrev pub breaks_section : Problem → List Constraint → List Break
breaks_section p [] = []
breaks_section p (c ∷ cs) =
    breaks_constraint p c NESTING (before_all p) ++ behind (length (spell_constraint c)) (breaks_section (after_constraint p c) cs)

abbrev pub value_section : Problem → List Constraint → Problem
value_section p [] = p
value_section p (c ∷ cs) = value_section (after_constraint p c) cs

-- the language of the section, after its head
abbrev pub constraints_spec : Problem → Spec (List Constraint × Head) (Problem × Head)
constraints_spec p = record {
  spell = λ x. spell_section x.0 x.1;
  breaks = λ x. breaks_section p x.0;
  value = λ x. (value_section p x.0, x.1);
  blocks = λ x t. false;
  start = Fixed;
  any = ([], End);
}
