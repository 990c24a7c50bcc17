-- Worked examples of whole texts: what is read, and where and why the rest is refused.
use Rattle.std.proofs.Common.{◌≡◌, ℕ, pos, List, [], ◌∷◌, ◌++◌, codes, Some, None, Ok, Err, Result, refl}
use Rattle.mn_lexer.specs.Terminals.{Terminal, word, number, head, mark}
use Rattle.mn_lexer.specs.declared.LexFault.TheVariants.{Lex}
use Rattle.mn_lexer.specs.declared.marks.Mark.TheVariants.{OpenSquare, CloseSquare, OpenRound, CloseRound, Comma}
use Rattle.mn_model.specs.Domain.{stretch}
use Rattle.mn_model.specs.Problem.{Problem, nothing}
use Rattle.mn_model.specs.Variable.{variable}
use Rattle.mn_model.specs.declared.constraint.Con.TheVariants as con
use Rattle.mn_model.specs.declared.constraint.Term.TheVariants.{Var}
use Rattle.mn_model.specs.declared.variable.Kind.TheVariants.{Binary}
use Rattle.mn_grammar.specs.Reading.{whole, loop, name_at, one_of, word_at, mark_at}
use Rattle.mn_grammar.specs.Lists.{maybe_at}
use Rattle.mn_grammar.specs.Bodies.{body_at}
use Rattle.mn_grammar.specs.declared.Fault.{Fault}
use Rattle.mn_grammar.specs.declared.Kind.{Kind}
use Rattle.mn_grammar.specs.declared.Kind.TheVariants.{Name as Known, Syntax, Unsupported, Again, Lex as Unlexed}
use Rattle.mn_cursor.specs.Heads.{head_token}
use Rattle.mn_references.specs.Referring.{sub_at, subs_at, behind_name, ref_at, behind_entry, entry_at}
use Rattle.mn_asking.specs.Searching.{order_at, behind_static, var_order_at, item_rest, item_first, search_at}
use Rattle.mn_decls.specs.TupleLists as lists
use Rattle.mn_decls.specs.Variables as vars
use Rattle.mn_cursor.specs.declared.heads.Head.TheVariants.{Variables, TupleList, Search, Constraints, End}
use Rattle.mn_language.specs.Constructing as constructing
use Rattle.mn_language.specs.WholeTexts.{section_at, behind_head, any_head, sections_at, version_at, behind_title, text_at}

abbrev num : ℕ → Terminal
num n = number (pos n)

abbrev name : Terminal
name = word (codes "x")

abbrev bool : List Terminal
bool = word (codes "BOOL") ∷ name ∷ []

abbrev answer : List Terminal → Result Problem Fault
answer ts = whole None text_at ts

abbrev behind_three : List Terminal → Result Problem Fault
behind_three ts = answer (word (codes "MINION") ∷ num 3 ∷ ts)

abbrev refused_with : ℕ → Kind → Result Problem Fault
refused_with left kind = Err (record { left = left; kind = kind })

-- a text without sections stands for nothing
the_least : behind_three (head_token End ∷ []) ≡ Ok nothing
unfolding word_at one_of loop version_at behind_title any_head behind_head sections_at section_at text_at
the_least = refl

-- an empty text, another version, another word
empty : answer [] ≡ refused_with 0 Syntax
unfolding word_at text_at
empty = refl

empty_at_a_fault : whole (Some (Lex 0)) text_at [] ≡ refused_with 0 Unlexed
unfolding word_at text_at
empty_at_a_fault = refl

other_version : answer (word (codes "MINION") ∷ num 2 ∷ head_token End ∷ []) ≡ refused_with 2 Unsupported
unfolding word_at one_of version_at behind_title text_at
other_version = refl

other_word : answer (word (codes "minion") ∷ num 3 ∷ []) ≡ refused_with 2 Unsupported
unfolding word_at text_at
other_word = refl

a_mark : answer (mark Comma ∷ num 3 ∷ []) ≡ refused_with 2 Syntax
unfolding word_at text_at
a_mark = refl

-- a head that isn't one of the grammar's, first and behind a section
no_head : behind_three (head (codes "**HEAD**") ∷ []) ≡ refused_with 1 Unsupported
unfolding word_at one_of version_at behind_title any_head sections_at text_at
no_head = refl

no_head_behind : behind_three (head_token TupleList ∷ head (codes "**HEAD**") ∷ []) ≡ refused_with 1 Unsupported
unfolding word_at one_of loop version_at behind_title any_head behind_head sections_at section_at text_at body_at lists.first_at lists.lists_at
no_head_behind = refl

-- a text that ends behind a declaration, and the same at a lexical fault
cut : behind_three (head_token Variables ∷ bool) ≡ refused_with 0 Syntax
unfolding word_at one_of name_at loop version_at behind_title any_head behind_head sections_at section_at text_at body_at vars.word_at vars.declaration_at vars.dims_at vars.domain_at vars.entry_at vars.entries_at
cut = refl

-- a name that is declared in one section and again in another
twice : behind_three (head_token Variables ∷ bool ++ head_token TupleList ∷ head_token Variables ∷ bool ++ head_token End ∷ []) ≡ refused_with 2 Known
unfolding word_at one_of name_at loop version_at behind_title any_head behind_head sections_at section_at text_at body_at lists.first_at lists.lists_at vars.word_at vars.declaration_at vars.dims_at vars.domain_at vars.entry_at vars.entries_at
twice = refl

-- a second VARORDER, in a section of its own
order : List Terminal
order = word (codes "VARORDER") ∷ mark OpenSquare ∷ mark CloseSquare ∷ []

again : behind_three (head_token Search ∷ order ++ head_token Search ∷ order ++ head_token End ∷ []) ≡ refused_with 4 Again
unfolding word_at one_of mark_at loop maybe_at version_at behind_title any_head behind_head sections_at section_at text_at body_at order order_at behind_static var_order_at item_rest item_first search_at
again = refl

-- BOOL x, and eq(x,x)
one_constraint : behind_three (head_token Variables ∷ bool ++ head_token Constraints ∷ word (codes "eq") ∷ mark OpenRound ∷ name ∷ mark Comma ∷ name ∷ mark CloseRound ∷ head_token End ∷ []) ≡ Ok (record (nothing) {
  decls = record { name = codes "x"; dims = []; kind = Binary; domain = stretch (pos 0) (pos 1); first = variable 0 } ∷ [];
  cons = con.Eq (Var (variable 0)) (Var (variable 0)) ∷ [];
})
unfolding word_at one_of name_at mark_at loop version_at behind_title any_head behind_head sections_at section_at text_at body_at vars.word_at vars.declaration_at vars.dims_at vars.domain_at vars.entry_at vars.entries_at sub_at subs_at behind_name ref_at behind_entry entry_at constructing.argument_at constructing.leaf_at constructing.form_at constructing.first_at constructing.rest_at constructing.constraints_at
one_constraint = refl
