-- The readers of constraints and of their section: what `constraints` answers, token by token. That they read exactly the language
-- of `Constraints.antt` is a law of its own.
use Rattle.std.specs.Prelude.{ℕ, ℤ, zero, suc, ◌⊎◌, List, [], ◌∷◌, ◌++◌, true, false, Option, Some, None}
use Rattle.std.proofs.Common.{inl, inr}
use Rattle.mn_lexer.specs.Terminals.{Terminal}
use Rattle.mn_lexer.specs.declared.marks.Mark.TheVariants.{OpenSquare, CloseSquare, OpenCurly, CloseCurly, OpenRound, CloseRound, Less, Greater, Comma}
use Rattle.mn_model.specs.Problem.{Problem, listed_as}
use Rattle.mn_model.specs.declared.constraint.Con.{Con}
use Rattle.mn_model.specs.declared.constraint.Tab.{Tab}
use Rattle.mn_model.specs.declared.constraint.Tab.TheVariants.{Named, Here}
use Rattle.mn_model.specs.declared.limits.TheConstants.{NESTING}
use Rattle.mn_grammar.specs.Tokens.{name_of}
use Rattle.mn_grammar.specs.Reading.{Reader, one, one_of, ret, then_read, which_either, which_mark, mark_at, number_at, never, within}
use Rattle.mn_grammar.specs.Lists.{Ends, items_at, maybe_at}
use Rattle.mn_grammar.specs.Rows.{row_at}
use Rattle.mn_grammar.specs.Bodies.{body_at}
use Rattle.mn_grammar.specs.declared.site.Site.TheVariants.{Free, Fixed, MarksOnly}
use Rattle.mn_grammar.specs.declared.Kind.{Kind}
use Rattle.mn_references.specs.Conditions.{as_kind}
use Rattle.mn_references.specs.Entries.{a_term}
use Rattle.mn_references.specs.Referring.{entry_at, vector_at}
use Rattle.mn_cursor.specs.Heads.{head_of}
use Rattle.mn_cursor.specs.declared.heads.Head.{Head}
use Rattle.mn_language.specs.Arguments.{Value, placed_value, of_numbers, of_tuples, length_wanted, term_of, vector_wanted, numbers_wanted, Wanted, exactly, at_one, at_close, number_ends, with_number, tuple_ends, at_tuple, with_tuple, at_list, list_place, behind_argument}
use Rattle.mn_language.specs.Constraints.{Before, before_all, inside, cells_behind, at_form, meaning, gathered, tied, with_constraint}
use Rattle.mn_language.specs.Forms.{form_line, form_token, all_forms, form_of}
use Rattle.mn_language.specs.declared.forms.Argument.{Argument}
use Rattle.mn_language.specs.declared.forms.Argument.TheVariants as takes
use Rattle.mn_language.specs.declared.forms.Form.{Form}
use Rattle.mn_language.specs.declared.forms.Form.TheVariants.{Leaf as of_leaf, Gather as of_gather, Tie as of_tie}
use Rattle.mn_language.specs.declared.forms.Gather.{Gather}
use Rattle.mn_language.specs.declared.forms.Leaf.{Leaf}
use Rattle.mn_language.specs.declared.forms.Tie.{Tie}

-- 1. Arguments
abbrev pub no_break : {W : Type 0} → W → Option Kind
no_break w = None

-- a list of numbers
unfoldable pub numbers_at : Wanted → Reader (List ℤ)
numbers_at w =
    then_read (mark_at MarksOnly OpenSquare None) (λ u. maybe_at CloseSquare (number_ends w) (at_close w 0) [] with_number (λ before. number_at (at_one w before)) [])

-- two numbers in brackets
unfoldable pub range_at : Reader (List ℤ)
range_at =
    then_read (mark_at MarksOnly OpenSquare None) (λ u. then_read (number_at no_break) (λ a.
    then_read (mark_at MarksOnly Comma None) (λ u. then_read (number_at no_break) (λ b.
    then_read (mark_at MarksOnly CloseSquare None) (λ u. ret (a ∷ b ∷ []))))))

-- a tuple, after the cells of those before it
unfoldable pub tuple_at : ℕ → ℕ → List ℤ → Reader (List ℤ)
tuple_at used n cells =
    then_read (mark_at MarksOnly Less (at_tuple used n cells)) (λ u.
    items_at Greater (number_ends (exactly n)) with_number (λ before. number_at (at_one (exactly n) before)) [])

-- the first token of a table: a name or `{`
abbrev pub TableStart : Type 0
TableStart = List ℕ ⊎ Unit {0}

abbrev pub which_table : Terminal → Option TableStart
which_table = which_either name_of (which_mark OpenCurly)

abbrev pub at_table : Problem → ℕ → TableStart → Option Kind
at_table p n (inl name) = at_list n (listed_as p.tuples name)
at_table p n (inr u) = None

abbrev pub written_here : ℕ → List ℤ → Tab
written_here n cells = Here n cells

unfoldable pub behind_table : Problem → ℕ → ℕ → TableStart → Reader Tab
behind_table p used n (inl name) = ret (Named (list_place p.tuples name))
behind_table p used n (inr u) =
    then_read (maybe_at CloseCurly tuple_ends None [] with_tuple (tuple_at used n) []) (λ cells. ret (written_here n cells))

unfoldable pub table_at : Problem → ℕ → ℕ → Reader Tab
table_at p used n = then_read (one Free which_table (at_table p n)) (behind_table p used n)

-- what an argument stands for, by its parts
abbrev pub one_number : ℤ → Value
one_number z = of_numbers (z ∷ [])

-- an argument, after the values of those before it
unfoldable pub argument_at : Problem → ℕ → Argument → List Value → Reader Value
argument_at p used takes.Term vs = then_read (entry_at p (a_term p false)) (λ v. ret (placed_value v))
argument_at p used (takes.Vector w) vs = then_read (vector_at p (vector_wanted w vs)) (λ v. ret (placed_value v))
argument_at p used takes.Number vs = then_read (number_at no_break) (λ z. ret (one_number z))
argument_at p used (takes.Numbers w) vs = then_read (numbers_at (numbers_wanted w vs)) (λ zs. ret (of_numbers zs))
argument_at p used takes.Range vs = then_read range_at (λ zs. ret (of_numbers zs))
argument_at p used takes.Tuples vs = then_read (table_at p used (length_wanted vs)) (λ tab. ret (of_tuples tab))

-- 2. Forms: what follows the name of each, where `read` reads the constraints inside
unfoldable pub leaf_at : Problem → ℕ → Leaf → Reader Con
leaf_at p used f =
    then_read (mark_at MarksOnly OpenRound None) (λ u. then_read (row_at behind_argument (argument_at p used) (form_line f).takes) (λ vs. ret (meaning f vs)))

-- children one after another, in the order of the text
abbrev pub child_ends : Ends (List Con) Con
child_ends = record { next = λ cs c. cs ++ c ∷ []; comma = λ cs c. None; close = λ cs c. None }

abbrev pub with_child : List Con → Con → List Con
with_child cs c = cs ++ c ∷ []

unfoldable pub gather_at : ℕ → (Before → Reader Con) → Gather → Reader Con
gather_at used read g =
    then_read (mark_at MarksOnly OpenRound None) (λ u. then_read (mark_at MarksOnly OpenCurly None) (λ u.
    then_read (maybe_at CloseCurly child_ends None [] with_child (λ cs. read (inside (cells_behind used cs))) []) (λ cs.
    then_read (mark_at MarksOnly CloseRound None) (λ u. ret (gathered g cs)))))

unfoldable pub tie_at : Problem → ℕ → (Before → Reader Con) → Tie → Reader Con
tie_at p used read t =
    then_read (mark_at MarksOnly OpenRound None) (λ u. then_read (read (inside used)) (λ c.
    then_read (mark_at MarksOnly Comma None) (λ u. then_read (entry_at p (a_term p true)) (λ v.
    then_read (mark_at MarksOnly CloseRound (as_kind v.behind)) (λ u. ret (tied t c (term_of v.terms)))))))

abbrev pub behind_form : Problem → Before → (Before → Reader Con) → Form → Reader Con
behind_form p s read (of_leaf f) = leaf_at p s.cells f
behind_form p s read (of_gather g) = gather_at s.cells read g
behind_form p s read (of_tie t) = tie_at p s.cells read t

-- 3. Constraints, where d forms may stand inside one another
unfoldable pub form_at : ℕ → Before → Reader Form
form_at d s = one_of Fixed form_token all_forms (at_form d s)

-- the depth inside
abbrev pub depth_inside : ℕ → Option ℕ
depth_inside zero = None
depth_inside (suc d) = Some d

unfoldable pub constraint_at : Problem → ℕ → Before → Reader Con
constraint_at p zero s = then_read (form_at zero s) (behind_form p s (λ z. never))
constraint_at p (suc d) s = then_read (form_at (suc d) s) (behind_form p s (constraint_at p d))

-- 4. The section: the first token of a constraint, or the head of the next section
abbrev pub which_first : Terminal → Option (Form ⊎ Head)
which_first = which_either form_of head_of

abbrev pub at_first : Problem → Form ⊎ Head → Option Kind
at_first p (inl f) = at_form NESTING (before_all p) f
at_first p (inr h) = None

unfoldable pub first_at : Problem → Reader (Form ⊎ Head)
first_at p = one Fixed which_first (at_first p)

-- what follows a form's name, and the problem with the constraint
unfoldable pub rest_at : Problem → Form → Reader Problem
rest_at p f = then_read (behind_form p (before_all p) (within (constraint_at p) (depth_inside NESTING)) f) (λ c. ret (with_constraint p c))

abbrev pub ended : Problem → Head → Problem × Head
ended p h = (p, h)

unfoldable pub constraints_at : Problem → Reader (Problem × Head)
constraints_at p = body_at first_at rest_at ended p
