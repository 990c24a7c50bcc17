-- What the code reads of forms with others inside.
use Rattle.std.specs.Prelude.{ℕ, true, List, [], Option, None}
use Rattle.mn_lexer.specs.Terminals.{Terminal}
use Rattle.mn_lexer.specs.declared.marks.Mark.TheVariants.{CloseCurly, CloseRound, Comma}
use Rattle.mn_model.specs.Problem.{Problem}
use Rattle.mn_model.specs.declared.constraint.Con.{Con}
use Rattle.mn_model.specs.declared.constraint.Term.{Term}
use Rattle.mn_grammar.specs.Lists.{items_at, maybe_at}
use Rattle.mn_grammar.specs.Reading.{Reader, mark_at, ret, then_read}
use Rattle.mn_grammar.specs.declared.site.Site.TheVariants.{MarksOnly}
use Rattle.mn_references.specs.Conditions.{as_kind}
use Rattle.mn_references.specs.Entries.{a_term, Placed}
use Rattle.mn_references.specs.Referring.{entry_at}
use Rattle.mn_language.specs.Arguments.{term_of}
use Rattle.mn_language.specs.Constraints.{cells_behind, inside, with_constraint, before_all}
use Rattle.mn_language.specs.Constructing.{child_ends, with_child, constraint_at}
use Rattle.mn_language.specs.Forms.{form_of}
use Rattle.mn_language.specs.declared.forms.Form.{Form}
use Rattle.mn_model.specs.declared.limits.TheConstants.{NESTING}

-- the form that a token begins, if it is the word of one
unfoldable pub named_form : Terminal → Option Form
named_form t = form_of t

-- a child after others
abbrev pub child_at : Problem → ℕ → ℕ → List Con → Reader Con
child_at p d n cs = constraint_at p d (inside (cells_behind n cs))

-- children after others, and all of them
unfoldable pub children_from : Problem → ℕ → ℕ → List Con → Reader (List Con)
children_from p d n cs = items_at CloseCurly child_ends with_child (child_at p d n) cs

unfoldable pub children_behind : Problem → ℕ → ℕ → Reader (List Con)
children_behind p d n = maybe_at CloseCurly child_ends None [] with_child (child_at p d n) []

-- the 0/1 term after a constraint, between its marks
abbrev pub closed_term : Placed → Reader Term
closed_term v = then_read (mark_at MarksOnly CloseRound (as_kind v.behind)) (λ u. ret (term_of v.terms))

unfoldable pub bit_at : Problem → Reader Term
bit_at p = then_read (mark_at MarksOnly Comma None) (λ u. then_read (entry_at p (a_term p true)) closed_term)

-- a constraint of the section, and the problem with it
unfoldable pub next_at : Problem → Reader Problem
next_at p = then_read (constraint_at p NESTING (before_all p)) (λ c. ret (with_constraint p c))
