-- Worked examples of constraints: what is read, and where and why the rest is refused.
use Rattle.std.proofs.Common.{◌≡◌, ℕ, zero, suc, pos, Bool, true, false, List, [], ◌∷◌, ◌++◌, codes, Some, None, Ok, Err, Result, refl}
use Rattle.mn_lexer.specs.Terminals.{Terminal, word, number, head, mark}
use Rattle.mn_lexer.specs.declared.marks.Mark.TheVariants.{OpenSquare, CloseSquare, OpenCurly, CloseCurly, OpenRound, CloseRound, Less, Greater, Comma, Bang}
use Rattle.mn_model.specs.Negation.{reified, more}
use Rattle.mn_model.specs.Problem.{Problem, nothing}
use Rattle.mn_model.specs.Variable.{variable}
use Rattle.mn_model.specs.declared.constraint.Con.{Con}
use Rattle.mn_model.specs.declared.constraint.Con.TheVariants as con
use Rattle.mn_model.specs.declared.constraint.Tab.TheVariants.{Named, Here}
use Rattle.mn_model.specs.declared.constraint.Term.{Term}
use Rattle.mn_model.specs.declared.constraint.Term.TheVariants.{Var, Const, Not}
use Rattle.mn_model.specs.declared.variable.Kind.TheVariants.{Binary, Discrete}
use Rattle.mn_grammar.specs.Reading.{then_read, ret, mark_at, whole, loop, name_at, number_at, one_of, end_at}
use Rattle.mn_grammar.specs.Lists.{items_at, maybe_at}
use Rattle.mn_grammar.specs.Bodies.{body_at}
use Rattle.mn_grammar.specs.declared.Fault.{Fault}
use Rattle.mn_grammar.specs.declared.Kind.{Kind}
use Rattle.mn_grammar.specs.declared.Kind.TheVariants.{Name as Undeclared, Shape, Syntax, Unsupported, Limit}
use Rattle.mn_grammar.specs.declared.Limit.TheVariants.{Constraints, Cells, Nesting, Vector}
use Rattle.mn_references.specs.Referring.{sub_at, subs_at, behind_name, ref_at, behind_entry, entry_at, list_at, behind_vector, vector_at}
use Rattle.mn_language.specs.Arguments.{exactly, at_another, at_tuple, numbers_wanted}
use Rattle.mn_language.specs.Constraints.{Before, inside, at_form, tied}
use Rattle.mn_language.specs.Constructing.{numbers_at, range_at, tuple_at, behind_table, table_at, argument_at, leaf_at, gather_at, tie_at, form_at, constraint_at, first_at, rest_at, constraints_at}
use Rattle.mn_language.specs.declared.forms.Form.TheVariants.{Leaf as of_leaf, Gather as of_gather, Tie as of_tie}
use Rattle.mn_language.specs.declared.forms.Gather.TheVariants.{And}
use Rattle.mn_language.specs.declared.forms.Leaf.TheVariants as form
use Rattle.mn_language.specs.declared.forms.Numbers.TheVariants as numbers
use Rattle.mn_language.specs.declared.forms.Tie.TheVariants.{Reify, Reifyimply}

-- BOOL b, DISCRETE x {0..2}, DISCRETE y {0..2}, BOOL m[2], and the tuple list t of <0,1> and <1,0>
abbrev declared : Problem
declared = record (nothing) {
  decls =
      record { name = codes "b"; dims = []; kind = Binary; domain = pos 0 ∷ pos 1 ∷ []; first = variable 0 }
      ∷ record { name = codes "x"; dims = []; kind = Discrete; domain = pos 0 ∷ pos 1 ∷ pos 2 ∷ []; first = variable 1 }
      ∷ record { name = codes "y"; dims = []; kind = Discrete; domain = pos 0 ∷ pos 1 ∷ pos 2 ∷ []; first = variable 2 }
      ∷ record { name = codes "m"; dims = 2 ∷ []; kind = Binary; domain = pos 0 ∷ pos 1 ∷ []; first = variable 3 }
      ∷ [];
  tuples = record { name = codes "t"; arity = 2; cells = pos 0 ∷ pos 1 ∷ pos 1 ∷ pos 0 ∷ [] } ∷ [];
}

abbrev b : Terminal
b = word (codes "b")

abbrev x : Terminal
x = word (codes "x")

abbrev y : Terminal
y = word (codes "y")

abbrev m : Terminal
m = word (codes "m")

abbrev t : Terminal
t = word (codes "t")

abbrev comma : Terminal
comma = mark Comma

abbrev num : ℕ → Terminal
num n = number (pos n)

abbrev eof : Terminal
eof = head (codes "**EOF**")

abbrev the_b : Term
the_b = Var (variable 0)

abbrev the_x : Term
the_x = Var (variable 1)

abbrev the_y : Term
the_y = Var (variable 2)

abbrev const : ℕ → Term
const n = Const (pos n)

-- a form around arguments, a list, a list of constraints, a tuple
abbrev call : List ℕ → List Terminal → List Terminal
call w ts = word w ∷ mark OpenRound ∷ ts ++ mark CloseRound ∷ []

abbrev square : List Terminal → List Terminal
square ts = mark OpenSquare ∷ ts ++ mark CloseSquare ∷ []

abbrev curly : List Terminal → List Terminal
curly ts = mark OpenCurly ∷ ts ++ mark CloseCurly ∷ []

abbrev angles : List Terminal → List Terminal
angles ts = mark Less ∷ ts ++ mark Greater ∷ []

-- the constraints of a section that ends with the text
abbrev constraints : List Terminal → Result (List Con) Fault
constraints ts = whole None (then_read (constraints_at declared) (λ r. ret r.0.cons)) (ts ++ eof ∷ [])

abbrev refusal : ℕ → Kind → Result (List Con) Fault
refusal left kind = Err (record { left = left; kind = kind })

-- 1. Forms of each kind of argument
what_is_read :
    (constraints [] ≡ Ok [])
    × (constraints (call (codes "eq") (x ∷ comma ∷ num 2 ∷ [])) ≡ Ok (con.Eq the_x (const 2) ∷ []))
    × (constraints (call (codes "ineq") (x ∷ comma ∷ y ∷ comma ∷ num 1 ∷ [])) ≡ Ok (con.Ineq the_x the_y (pos 1) ∷ []))
    × (constraints (call (codes "element") (square (x ∷ comma ∷ y ∷ []) ++ comma ∷ b ∷ comma ∷ num 5 ∷ [])) ≡ Ok (con.Element (the_x ∷ the_y ∷ []) the_b (const 5) ∷ []))
    × (constraints (call (codes "sumleq") (m ∷ comma ∷ x ∷ [])) ≡ Ok (con.Sumleq (Var (variable 3) ∷ Var (variable 4) ∷ []) the_x ∷ []))
    × (constraints (call (codes "weightedsumgeq") (square (num 3 ∷ comma ∷ num 4 ∷ []) ++ comma ∷ m ∷ comma ∷ x ∷ [])) ≡ Ok (con.Weightedsumgeq (pos 3 ∷ pos 4 ∷ []) (Var (variable 3) ∷ Var (variable 4) ∷ []) the_x ∷ []))
    × (constraints (call (codes "w-inrange") (x ∷ comma ∷ square (num 2 ∷ comma ∷ num 1 ∷ []))) ≡ Ok (con.WInrange the_x (pos 2) (pos 1) ∷ []))
    × (constraints (call (codes "w-inset") (x ∷ comma ∷ square [])) ≡ Ok (con.WInset the_x [] ∷ []))
    × (constraints (call (codes "table") (m ∷ comma ∷ t ∷ [])) ≡ Ok (con.Table (Var (variable 3) ∷ Var (variable 4) ∷ []) (Named 0) ∷ []))
    × (constraints (call (codes "table") (m ∷ comma ∷ curly (angles (num 0 ∷ comma ∷ num 1 ∷ []) ++ comma ∷ angles (num 1 ∷ comma ∷ num 0 ∷ [])))) ≡ Ok (con.Table (Var (variable 3) ∷ Var (variable 4) ∷ []) (Here 2 (pos 0 ∷ pos 1 ∷ pos 1 ∷ pos 0 ∷ [])) ∷ []))
    × (constraints (call (codes "false") [] ++ call (codes "true") []) ≡ Ok (con.Never ∷ con.Always ∷ []))
unfolding one_of loop mark_at end_at number_at name_at items_at maybe_at body_at sub_at subs_at behind_name ref_at behind_entry entry_at list_at behind_vector vector_at numbers_at range_at tuple_at behind_table table_at argument_at leaf_at gather_at tie_at form_at constraint_at first_at rest_at constraints_at
what_is_read = (refl, refl, refl, refl, refl, refl, refl, refl, refl, refl, refl)

-- 2. Forms with others inside
what_is_inside :
    (constraints (call (codes "watched-or") (curly [])) ≡ Ok (con.WatchedOr con.End ∷ []))
    × (constraints (call (codes "watched-and") (curly (call (codes "true") [] ++ comma ∷ call (codes "alldiff") (m ∷ [])))) ≡ Ok (con.WatchedAnd (more con.Always (more (con.Alldiff (Var (variable 3) ∷ Var (variable 4) ∷ [])) con.End)) ∷ []))
    × (constraints (call (codes "reify") (call (codes "true") [] ++ comma ∷ mark Bang ∷ b ∷ [])) ≡ Ok (reified con.Always (Not (variable 0)) ∷ []))
    × (constraints (call (codes "reifyimply") (call (codes "watched-or") (curly []) ++ comma ∷ b ∷ [])) ≡ Ok (tied Reifyimply (con.WatchedOr con.End) the_b ∷ []))
unfolding one_of loop mark_at end_at number_at name_at items_at maybe_at body_at sub_at subs_at behind_name ref_at behind_entry entry_at list_at behind_vector vector_at numbers_at range_at tuple_at behind_table table_at argument_at leaf_at gather_at tie_at form_at constraint_at first_at rest_at constraints_at
what_is_inside = (refl, refl, refl, refl)

-- 3. What lists and vectors break: where they have to agree, the later one; the number of tokens left tells which token
what_lists_break :
    (constraints (call (codes "weightedsumleq") (square (num 1 ∷ []) ++ comma ∷ square (x ∷ comma ∷ y ∷ []) ++ comma ∷ num 3 ∷ [])) ≡ refusal 7 Shape)
    × (constraints (call (codes "weightedsumleq") (square (num 1 ∷ comma ∷ num 2 ∷ []) ++ comma ∷ square (x ∷ []) ++ comma ∷ num 3 ∷ [])) ≡ refusal 5 Shape)
    × (constraints (call (codes "weightedsumleq") (square (num 1 ∷ []) ++ comma ∷ m ∷ comma ∷ num 3 ∷ [])) ≡ refusal 4 Shape)
    × (constraints (call (codes "litsumgeq") (m ∷ comma ∷ square (num 1 ∷ []) ++ comma ∷ num 1 ∷ [])) ≡ refusal 5 Shape)
    × (constraints (call (codes "litsumgeq") (square (x ∷ []) ++ comma ∷ square (num 1 ∷ comma ∷ num 2 ∷ []) ++ comma ∷ num 1 ∷ [])) ≡ refusal 7 Shape)
    × (constraints (call (codes "litsumgeq") (square [] ++ comma ∷ square (num 1 ∷ []) ++ comma ∷ num 1 ∷ [])) ≡ refusal 6 Shape)
    × (constraints (call (codes "lexleq") (square [] ++ comma ∷ square (x ∷ []))) ≡ refusal 4 Shape)
    × (constraints (call (codes "lexless") (square [] ++ comma ∷ square [])) ≡ Ok (con.Lexless [] [] ∷ []))
    × (constraints (call (codes "max") (square [] ++ comma ∷ x ∷ [])) ≡ refusal 5 Shape)
    × (constraints (call (codes "w-inintervalset") (x ∷ comma ∷ square (num 1 ∷ comma ∷ num 2 ∷ comma ∷ num 3 ∷ []))) ≡ refusal 3 Shape)
    × (constraints (call (codes "w-inintervalset") (x ∷ comma ∷ square (num 4 ∷ comma ∷ num 2 ∷ []))) ≡ Ok (con.WInintervalset the_x (pos 4 ∷ pos 2 ∷ []) ∷ []))
    × (constraints (call (codes "w-inrange") (x ∷ comma ∷ square (num 1 ∷ []))) ≡ refusal 3 Syntax)
    × (constraints (call (codes "watchsumgeq") (square (b ∷ comma ∷ x ∷ []) ++ comma ∷ num 1 ∷ [])) ≡ refusal 6 Shape)
    × (constraints (call (codes "watchsumgeq") (square (b ∷ comma ∷ num 2 ∷ []) ++ comma ∷ num 1 ∷ [])) ≡ refusal 6 Shape)
unfolding one_of loop mark_at end_at number_at name_at items_at maybe_at body_at sub_at subs_at behind_name ref_at behind_entry entry_at list_at behind_vector vector_at numbers_at range_at tuple_at behind_table table_at argument_at leaf_at gather_at tie_at form_at constraint_at first_at rest_at constraints_at
what_lists_break = (refl, refl, refl, refl, refl, refl, refl, refl, refl, refl, refl, refl, refl, refl)

-- 4. What terms and tables break
what_terms_break :
    (constraints (call (codes "eq") (m ∷ comma ∷ x ∷ [])) ≡ refusal 4 Shape)
    × (constraints (call (codes "eq") (x ∷ comma ∷ m ∷ [])) ≡ refusal 2 Shape)
    × (constraints (call (codes "eq") (x ∷ comma ∷ word (codes "z") ∷ [])) ≡ refusal 3 Undeclared)
    × (constraints (call (codes "eq") (x ∷ [])) ≡ refusal 2 Syntax)
    × (constraints (call (codes "reify") (call (codes "true") [] ++ comma ∷ x ∷ [])) ≡ refusal 3 Shape)
    × (constraints (call (codes "table") (square (x ∷ []) ++ comma ∷ t ∷ [])) ≡ refusal 3 Shape)
    × (constraints (call (codes "table") (m ∷ comma ∷ x ∷ [])) ≡ refusal 3 Undeclared)
    × (constraints (call (codes "table") (m ∷ comma ∷ curly (angles (num 1 ∷ [])))) ≡ refusal 4 Shape)
    × (constraints (call (codes "table") (square (x ∷ []) ++ comma ∷ curly (angles (num 1 ∷ comma ∷ num 2 ∷ [])))) ≡ refusal 6 Shape)
    × (constraints (call (codes "table") (m ∷ comma ∷ curly (angles []))) ≡ refusal 4 Syntax)
unfolding one_of loop mark_at end_at number_at name_at items_at maybe_at body_at sub_at subs_at behind_name ref_at behind_entry entry_at list_at behind_vector vector_at numbers_at range_at tuple_at behind_table table_at argument_at leaf_at gather_at tie_at form_at constraint_at first_at rest_at constraints_at
what_terms_break = (refl, refl, refl, refl, refl, refl, refl, refl, refl, refl)

-- 5. What isn't a form
what_is_no_form :
    (constraints (call (codes "gacalldiff") (square (x ∷ []))) ≡ refusal 7 Unsupported)
    × (constraints (num 1 ∷ []) ≡ refusal 2 Unsupported)
    × (constraints (comma ∷ []) ≡ refusal 2 Syntax)
    × (constraints (call (codes "watched-or") (mark OpenCurly ∷ x ∷ [])) ≡ refusal 3 Unsupported)
    × (constraints (word (codes "watched-or") ∷ mark OpenRound ∷ mark OpenCurly ∷ []) ≡ refusal 1 Unsupported)
    × (constraints (call (codes "true") [] ++ x ∷ []) ≡ refusal 2 Unsupported)
unfolding one_of loop mark_at end_at number_at name_at items_at maybe_at body_at sub_at subs_at behind_name ref_at behind_entry entry_at list_at behind_vector vector_at numbers_at range_at tuple_at behind_table table_at argument_at leaf_at gather_at tie_at form_at constraint_at first_at rest_at constraints_at
what_is_no_form = (refl, refl, refl, refl, refl, refl)

-- 6. The limits. So many forms around true()
abbrev around_true : ℕ → List Terminal
around_true zero = call (codes "true") []
around_true (suc n) = call (codes "watched-and") (curly (around_true n))

-- the seventeenth name, of which the last n stand inside
seventeen_inside : constraints (around_true 17) ≡ refusal 41 (Limit Nesting)
unfolding one_of loop mark_at end_at number_at name_at items_at maybe_at body_at sub_at subs_at behind_name ref_at behind_entry entry_at list_at behind_vector vector_at numbers_at range_at tuple_at behind_table table_at argument_at leaf_at gather_at tie_at form_at constraint_at first_at rest_at constraints_at
seventeen_inside = refl

abbrev are_read : Result (List Con) Fault → Bool
are_read (Ok cs) = true
are_read (Err e) = false

sixteen_inside : are_read (constraints (around_true 16)) ≡ true
unfolding one_of loop mark_at end_at number_at name_at items_at maybe_at body_at sub_at subs_at behind_name ref_at behind_entry entry_at list_at behind_vector vector_at numbers_at range_at tuple_at behind_table table_at argument_at leaf_at gather_at tie_at form_at constraint_at first_at rest_at constraints_at
sixteen_inside = refl

-- at a form's name, at a tuple's `<`, and at the `,` of a list of weights, the limit passed and kept
abbrev all_used : Before
all_used = record { full = true; cells = 0 }

limits :
    (at_form 16 all_used (of_leaf form.Eq) ≡ Some (Limit Constraints))
    × (at_form 16 all_used (of_gather And) ≡ Some (Limit Constraints))
    × (at_form 16 (inside 0) (of_tie Reify) ≡ None)
    × (at_form 0 (inside 0) (of_tie Reify) ≡ Some (Limit Nesting))
    × (at_form 0 (inside 0) (of_leaf form.Eq) ≡ None)
    × (at_tuple 16777212 2 (pos 0 ∷ pos 1 ∷ []) ≡ None)
    × (at_tuple 16777213 2 (pos 0 ∷ pos 1 ∷ []) ≡ Some (Limit Cells))
    × (at_another (numbers_wanted numbers.Weights []) 65535 ≡ None)
    × (at_another (numbers_wanted numbers.Weights []) 65536 ≡ Some (Limit Vector))
    × (at_another (numbers_wanted numbers.Any []) 65536 ≡ None)
    × (at_another (exactly 65536) 65536 ≡ Some Shape)
limits = (refl, refl, refl, refl, refl, refl, refl, refl, refl, refl, refl)
