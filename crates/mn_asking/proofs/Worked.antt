-- Worked examples of references, lists and the section on search: what is read, and where and why the rest is refused.
use Rattle.std.proofs.Common.{◌≡◌, ℕ, pos, Bool, true, false, List, [], ◌∷◌, ◌++◌, map, codes, Option, Some, None, Ok, Err, Result, refl}
use Rattle.mn_lexer.specs.Terminals.{Terminal, word, number, head, mark}
use Rattle.mn_lexer.specs.declared.LexFault.TheVariants.{NumberRange}
use Rattle.mn_lexer.specs.declared.marks.Mark.TheVariants.{OpenSquare, CloseSquare, Comma, Bang}
use Rattle.mn_model.specs.Problem.{Problem, nothing}
use Rattle.mn_model.specs.Variable.{number_of, variable}
use Rattle.mn_model.specs.declared.constraint.Term.{Term}
use Rattle.mn_model.specs.declared.constraint.Term.TheVariants.{Var, Const, Not}
use Rattle.mn_model.specs.declared.search.Goal.{Goal}
use Rattle.mn_model.specs.declared.search.Order.{Order}
use Rattle.mn_model.specs.declared.search.Print.{Print}
use Rattle.mn_model.specs.declared.search.Print.TheVariants as printed
use Rattle.mn_model.specs.declared.variable.Kind.TheVariants.{Binary, Discrete}
use Rattle.mn_grammar.specs.Reading.{then_read, ret, mark_at, whole, loop, name_at, one_of, end_at}
use Rattle.mn_grammar.specs.Lists.{items_at, maybe_at}
use Rattle.mn_grammar.specs.Bodies.{body_at}
use Rattle.mn_grammar.specs.declared.Fault.{Fault}
use Rattle.mn_grammar.specs.declared.site.Site.TheVariants.{MarksOnly}
use Rattle.mn_grammar.specs.declared.Kind.{Kind}
use Rattle.mn_grammar.specs.declared.Kind.TheVariants.{Name, Shape, Syntax, Unsupported, Again, Limit, NumberRange as PastNumber}
use Rattle.mn_grammar.specs.declared.Limit.TheVariants.{Vector}
use Rattle.mn_references.specs.Conditions.{lesser, as_kind}
use Rattle.mn_references.specs.References.{Aim, Found, one_place, as_wanted}
use Rattle.mn_references.specs.Entries.{any_number, a_term, at_more, at_end_in}
use Rattle.mn_references.specs.declared.want.Bounds.{Bounds}
use Rattle.mn_cursor.specs.Progress.{nothing_asked}
use Rattle.mn_asking.specs.Search.{Asking}
use Rattle.mn_references.specs.Referring.{sub_at, subs_at, behind_name, ref_at, behind_entry, entry_at, list_at, behind_vector, vector_at, behind_row, row_at}
use Rattle.mn_asking.specs.Searching.{order_at, behind_static, var_order_at, way_at, ways_at, val_order_at, rows_at, behind_print, print_at, item_rest, item_first, search_at}
use Rattle.mn_cursor.specs.declared.heads.Head.{Head}
use Rattle.mn_references.specs.declared.want.Unfit.TheVariants.{Form, Length}
use Rattle.mn_references.specs.declared.want.Want.{Want}

-- BOOL x, DISCRETE q[3] {0..2}, BOOL m[2,3], ALIAS r[2] = [q[1],x], ALIAS s = q[2]
abbrev declared : Problem
declared = record (nothing) {
  decls =
      record { name = codes "x"; dims = []; kind = Binary; domain = pos 0 ∷ pos 1 ∷ []; first = variable 0 }
      ∷ record { name = codes "q"; dims = 3 ∷ []; kind = Discrete; domain = pos 0 ∷ pos 1 ∷ pos 2 ∷ []; first = variable 1 }
      ∷ record { name = codes "m"; dims = 2 ∷ 3 ∷ []; kind = Binary; domain = pos 0 ∷ pos 1 ∷ []; first = variable 4 }
      ∷ [];
  aliases =
      record { name = codes "r"; dims = 2 ∷ []; vars = variable 2 ∷ variable 0 ∷ [] }
      ∷ record { name = codes "s"; dims = []; vars = variable 3 ∷ [] }
      ∷ [];
}

abbrev x : Terminal
x = word (codes "x")

abbrev q : Terminal
q = word (codes "q")

abbrev m : Terminal
m = word (codes "m")

abbrev r : Terminal
r = word (codes "r")

abbrev s : Terminal
s = word (codes "s")

abbrev unknown : Terminal
unknown = word (codes "z")

abbrev each : Terminal
each = word (codes "_")

abbrev comma : Terminal
comma = mark Comma

abbrev opens : Terminal
opens = mark OpenSquare

abbrev shut : Terminal
shut = mark CloseSquare

abbrev bang : Terminal
bang = mark Bang

abbrev num : ℕ → Terminal
num n = number (pos n)

abbrev refusal : {V : Type 0} → ℕ → Kind → Result V Fault
refusal left kind = Err (record { left = left; kind = kind })

abbrev numbers : Found → List ℕ
numbers f = map number_of f.vars

-- 1. References, with a `,` behind each
abbrev before_comma : Aim → List Terminal → Result (List ℕ) Fault
before_comma aim ts = whole None (then_read (ref_at declared aim) (λ f. then_read (mark_at MarksOnly Comma (as_kind f.behind)) (λ u. ret (numbers f)))) (ts ++ comma ∷ [])

-- any number of variables, up to the room
abbrev any_of : ℕ → Want
any_of room = record { least = 0; most = room; room = room; bits = false; single = true; slices = true; comma = true; round = false; square = false }

abbrev several : List Terminal → Result (List ℕ) Fault
several ts = before_comma (as_wanted declared (any_of 9)) ts

abbrev one_var : List Terminal → Result (List ℕ) Fault
one_var ts = before_comma (one_place declared false) ts

-- what they name, row by row, the last index running fastest
what_is_named :
    (several (x ∷ []) ≡ Ok (0 ∷ []))
    × (several (m ∷ []) ≡ Ok (4 ∷ 5 ∷ 6 ∷ 7 ∷ 8 ∷ 9 ∷ []))
    × (several (m ∷ opens ∷ num 1 ∷ comma ∷ num 0 ∷ shut ∷ []) ≡ Ok (7 ∷ []))
    × (several (m ∷ opens ∷ num 1 ∷ comma ∷ each ∷ shut ∷ []) ≡ Ok (7 ∷ 8 ∷ 9 ∷ []))
    × (several (m ∷ opens ∷ each ∷ comma ∷ num 2 ∷ shut ∷ []) ≡ Ok (6 ∷ 9 ∷ []))
    × (several (m ∷ opens ∷ each ∷ comma ∷ each ∷ shut ∷ []) ≡ Ok (4 ∷ 5 ∷ 6 ∷ 7 ∷ 8 ∷ 9 ∷ []))
    × (several (r ∷ []) ≡ Ok (2 ∷ 0 ∷ []))
    × (several (r ∷ opens ∷ num 1 ∷ shut ∷ []) ≡ Ok (0 ∷ []))
    × (several (s ∷ []) ≡ Ok (3 ∷ []))
    × (one_var (q ∷ opens ∷ num 2 ∷ shut ∷ []) ≡ Ok (3 ∷ []))
unfolding loop ref_at behind_name subs_at sub_at mark_at name_at items_at end_at
what_is_named = (refl, refl, refl, refl, refl, refl, refl, refl, refl, refl)

-- what their tokens break: the name, `[`, an index, the `,` behind it, the `]`; the number of tokens left tells which
what_indices_break :
    (several (unknown ∷ []) ≡ refusal 2 Name)
    × (several (x ∷ opens ∷ num 0 ∷ shut ∷ []) ≡ refusal 4 Shape)
    × (several (q ∷ opens ∷ num 3 ∷ shut ∷ []) ≡ refusal 3 Shape)
    × (several (q ∷ opens ∷ num 2 ∷ comma ∷ num 0 ∷ shut ∷ []) ≡ refusal 4 Shape)
    × (several (m ∷ opens ∷ num 1 ∷ shut ∷ []) ≡ refusal 2 Shape)
    × (several (m ∷ opens ∷ each ∷ shut ∷ []) ≡ refusal 2 Shape)
    × (one_var (m ∷ opens ∷ each ∷ comma ∷ num 0 ∷ shut ∷ []) ≡ refusal 5 Shape)
    × (several (m ∷ opens ∷ x ∷ shut ∷ []) ≡ refusal 3 Syntax)
    × (several (q ∷ opens ∷ shut ∷ []) ≡ refusal 2 Syntax)
unfolding loop ref_at behind_name subs_at sub_at mark_at name_at items_at end_at
what_indices_break = (refl, refl, refl, refl, refl, refl, refl, refl, refl)

-- what the end breaks: that of a bare matrix is the token behind it, where the grammar comes first
abbrev a_row_of_bits : Want
a_row_of_bits = record { least = 2; most = 3; room = 3; bits = true; single = false; slices = true; comma = true; round = false; square = false }

abbrev bits_row : List Terminal → Result (List ℕ) Fault
bits_row ts = before_comma (as_wanted declared a_row_of_bits) ts

what_ends_break :
    (one_var (q ∷ []) ≡ refusal 1 Shape)
    × (one_var (q ∷ each ∷ []) ≡ refusal 2 Syntax)
    × (before_comma (one_place declared true) (x ∷ []) ≡ Ok (0 ∷ []))
    × (before_comma (one_place declared true) (s ∷ []) ≡ refusal 2 Shape)
    × (before_comma (one_place declared true) (q ∷ opens ∷ num 0 ∷ shut ∷ []) ≡ refusal 2 Shape)
    × (bits_row (m ∷ opens ∷ num 0 ∷ comma ∷ each ∷ shut ∷ []) ≡ Ok (4 ∷ 5 ∷ 6 ∷ []))
    × (bits_row (m ∷ []) ≡ refusal 1 (Limit Vector))
    × (bits_row (q ∷ []) ≡ refusal 1 Shape)
    × (bits_row (x ∷ []) ≡ refusal 2 Shape)
    × (bits_row (m ∷ opens ∷ num 0 ∷ comma ∷ num 0 ∷ shut ∷ []) ≡ refusal 2 Shape)
    × (before_comma (as_wanted declared (any_of 5)) (m ∷ []) ≡ refusal 1 (Limit Vector))
    × (before_comma (as_wanted declared (any_of 5)) (m ∷ opens ∷ num 0 ∷ shut ∷ []) ≡ refusal 2 Shape)
unfolding loop ref_at behind_name subs_at sub_at mark_at name_at items_at end_at
what_ends_break = (refl, refl, refl, refl, refl, refl, refl, refl, refl, refl, refl, refl)

-- 2. Terms, lists and vectors
abbrev a_list : Bounds → List Terminal → Result (List Term) Fault
a_list b ts = whole None (list_at declared b) ts

abbrev exactly : ℕ → Bounds
exactly n = record { least = n; most = n; bits = false }

abbrev bits_of : ℕ → Bounds
bits_of n = record { least = n; most = n; bits = true }

abbrev term : Bool → List Terminal → Result (List Term) Fault
term bits ts = whole None (then_read (entry_at declared (a_term declared bits)) (λ v. then_read (mark_at MarksOnly Comma (as_kind v.behind)) (λ u. ret v.terms))) (ts ++ comma ∷ [])

what_terms_are :
    (term false (x ∷ []) ≡ Ok (Var (variable 0) ∷ []))
    × (term false (num 7 ∷ []) ≡ Ok (Const (pos 7) ∷ []))
    × (term true (num 7 ∷ []) ≡ refusal 2 Shape)
    × (term true (bang ∷ x ∷ []) ≡ Ok (Not (variable 0) ∷ []))
    × (term false (bang ∷ s ∷ []) ≡ refusal 2 Shape)
    × (term false (bang ∷ m ∷ []) ≡ refusal 1 Shape)
    × (term false (bang ∷ num 1 ∷ []) ≡ refusal 2 Syntax)
    × (term false (m ∷ opens ∷ each ∷ comma ∷ num 1 ∷ shut ∷ []) ≡ refusal 5 Shape)
unfolding loop ref_at behind_name subs_at sub_at mark_at name_at items_at end_at entry_at behind_entry
what_terms_are = (refl, refl, refl, refl, refl, refl, refl, refl)

what_lists_break :
    (a_list (exactly 3) (x ∷ comma ∷ r ∷ shut ∷ []) ≡ Ok (Var (variable 0) ∷ Var (variable 2) ∷ Var (variable 0) ∷ []))
    × (a_list (exactly 2) (num 1 ∷ comma ∷ bang ∷ x ∷ shut ∷ []) ≡ Ok (Const (pos 1) ∷ Not (variable 0) ∷ []))
    × (a_list (exactly 1) (x ∷ comma ∷ x ∷ shut ∷ []) ≡ refusal 3 Shape)
    × (a_list (exactly 1) (r ∷ shut ∷ []) ≡ refusal 1 Shape)
    × (a_list (exactly 3) (x ∷ comma ∷ x ∷ shut ∷ []) ≡ refusal 1 Shape)
    × (a_list (exactly 1) (shut ∷ []) ≡ refusal 1 Shape)
    × (a_list (exactly 0) (shut ∷ []) ≡ Ok [])
    × (a_list (exactly 0) (x ∷ shut ∷ []) ≡ refusal 2 Shape)
    × (a_list (exactly 0) (num 1 ∷ shut ∷ []) ≡ refusal 2 Shape)
    × (a_list (exactly 0) (bang ∷ x ∷ shut ∷ []) ≡ refusal 3 Shape)
    × (a_list (exactly 0) (m ∷ opens ∷ num 9 ∷ shut ∷ shut ∷ []) ≡ refusal 5 Shape)
    × (a_list (exactly 0) (unknown ∷ shut ∷ []) ≡ refusal 2 Name)
    × (a_list (bits_of 1) (num 2 ∷ shut ∷ []) ≡ refusal 2 Shape)
    × (a_list (bits_of 3) (q ∷ shut ∷ []) ≡ refusal 1 Shape)
    × (a_list any_number (q ∷ comma ∷ shut ∷ []) ≡ refusal 1 Syntax)
unfolding loop ref_at behind_name subs_at sub_at mark_at name_at items_at end_at entry_at behind_entry list_at maybe_at
what_lists_break = (refl, refl, refl, refl, refl, refl, refl, refl, refl, refl, refl, refl, refl, refl, refl)

-- A `,` behind as many places as the limit allows passes it, whatever else it breaks; without a `,` it is no limit.
what_passes_the_limit :
    (at_more any_number 65536 ≡ Some (Limit Vector))
    × (at_more any_number 65535 ≡ None)
    × (at_more (exactly 65536) 65536 ≡ Some (Limit Vector))
    × (at_more (exactly 2) 2 ≡ Some Shape)
    × (lesser (Some Shape) (at_more any_number 65536) ≡ Some (Limit Vector))
    × (at_end_in declared (exactly 2) 65536 (variable 0 ∷ []) ≡ Some Length)
    × (at_end_in declared (exactly 2) 2 (variable 0 ∷ []) ≡ Some Form)
what_passes_the_limit = (refl, refl, refl, refl, refl, refl, refl)

abbrev vector : Bounds → List Terminal → Result (List Term) Fault
vector b ts = whole None (then_read (vector_at declared b) (λ v. then_read (mark_at MarksOnly Comma (as_kind v.behind)) (λ u. ret v.terms))) (ts ++ comma ∷ [])

what_vectors_break :
    (vector (exactly 2) (r ∷ []) ≡ Ok (Var (variable 2) ∷ Var (variable 0) ∷ []))
    × (vector (exactly 2) (m ∷ opens ∷ each ∷ comma ∷ num 0 ∷ shut ∷ []) ≡ Ok (Var (variable 4) ∷ Var (variable 7) ∷ []))
    × (vector (exactly 2) (opens ∷ num 1 ∷ comma ∷ x ∷ shut ∷ []) ≡ Ok (Const (pos 1) ∷ Var (variable 0) ∷ []))
    × (vector any_number (x ∷ []) ≡ refusal 2 Shape)
    × (vector any_number (r ∷ opens ∷ num 0 ∷ shut ∷ []) ≡ refusal 2 Shape)
    × (vector (exactly 3) (r ∷ []) ≡ refusal 1 Shape)
    × (vector any_number (num 1 ∷ []) ≡ refusal 2 Syntax)
unfolding loop ref_at behind_name subs_at sub_at mark_at name_at items_at end_at entry_at behind_entry list_at maybe_at vector_at behind_vector
what_vectors_break = (refl, refl, refl, refl, refl, refl, refl)

-- 3. The section on search
abbrev asking : Asking
asking = record { problem = declared; asked = nothing_asked; behind = None }

abbrev end : Terminal
end = head (codes "**EOF**")

-- what is said, if it is
abbrev said : Asking × Head → Order × Option Goal × Print
said p = (p.0.problem.order, p.0.problem.goal, p.0.problem.print)

abbrev section : List Terminal → Result (Order × Option Goal × Print) Fault
section ts = whole None (then_read (search_at asking) (λ p. ret (said p))) (ts ++ end ∷ [])

abbrev order_of : List Terminal → List Terminal
order_of ts = word (codes "VARORDER") ∷ opens ∷ ts ++ shut ∷ []

abbrev values_of : List Terminal → List Terminal
values_of ts = word (codes "VALORDER") ∷ opens ∷ ts ++ shut ∷ []

abbrev maximising : Terminal
maximising = word (codes "MAXIMISING")

abbrev up : Terminal
up = word (codes "a")

abbrev down : Terminal
down = word (codes "d")

abbrev none_ordered : Order
none_ordered = record { vars = []; down = [] }

what_search_says :
    (section [] ≡ Ok (none_ordered, None, printed.All))
    × (section (word (codes "VARORDER") ∷ word (codes "STATIC") ∷ opens ∷ x ∷ comma ∷ r ∷ shut ∷ []) ≡ Ok (record { vars = variable 0 ∷ variable 2 ∷ variable 0 ∷ []; down = false ∷ false ∷ false ∷ [] }, None, printed.All))
    × (section (order_of (r ∷ []) ++ values_of (down ∷ comma ∷ up ∷ [])) ≡ Ok (record { vars = variable 2 ∷ variable 0 ∷ []; down = true ∷ false ∷ [] }, None, printed.All))
    × (section (maximising ∷ s ∷ []) ≡ Ok (none_ordered, Some (record { var = variable 3; maximise = true }), printed.All))
    × (section (word (codes "PRINT") ∷ word (codes "NONE") ∷ []) ≡ Ok (none_ordered, None, printed.Nothing))
    × (section (word (codes "PRINT") ∷ opens ∷ shut ∷ []) ≡ Ok (none_ordered, None, printed.Rows []))
    × (section (word (codes "PRINT") ∷ opens ∷ opens ∷ shut ∷ comma ∷ num 4 ∷ shut ∷ []) ≡ Ok (none_ordered, None, printed.Rows ([] ∷ (Const (pos 4) ∷ []) ∷ [])))
    × (section (word (codes "PRINT") ∷ opens ∷ m ∷ comma ∷ r ∷ shut ∷ []) ≡ Ok (none_ordered, None, printed.Rows ((Var (variable 4) ∷ Var (variable 5) ∷ Var (variable 6) ∷ []) ∷ (Var (variable 7) ∷ Var (variable 8) ∷ Var (variable 9) ∷ []) ∷ (Var (variable 2) ∷ Var (variable 0) ∷ []) ∷ [])))
    × (section (word (codes "PRINT") ∷ opens ∷ opens ∷ r ∷ comma ∷ bang ∷ x ∷ shut ∷ shut ∷ []) ≡ Ok (none_ordered, None, printed.Rows ((Var (variable 2) ∷ Var (variable 0) ∷ Not (variable 0) ∷ []) ∷ [])))
unfolding loop ref_at behind_name subs_at sub_at mark_at name_at items_at end_at entry_at behind_entry list_at maybe_at row_at behind_row search_at body_at item_first item_rest one_of order_at behind_static var_order_at way_at ways_at val_order_at rows_at behind_print print_at
what_search_says = (refl, refl, refl, refl, refl, refl, refl, refl, refl)

what_search_breaks :
    (section (order_of (x ∷ []) ++ values_of (word (codes "r") ∷ [])) ≡ refusal 3 Unsupported)
    × (section (order_of (x ∷ []) ++ order_of (x ∷ [])) ≡ refusal 5 Again)
    × (section (values_of (up ∷ [])) ≡ refusal 5 Shape)
    × (section (order_of [] ++ values_of (up ∷ [])) ≡ refusal 3 Shape)
    × (section (order_of (x ∷ []) ++ values_of (up ∷ comma ∷ up ∷ [])) ≡ refusal 4 Shape)
    × (section (order_of (r ∷ []) ++ values_of (up ∷ [])) ≡ refusal 2 Shape)
    × (section (order_of (r ∷ []) ++ values_of []) ≡ refusal 2 Shape)
    × (section (order_of (x ∷ []) ++ values_of (up ∷ []) ++ values_of (up ∷ [])) ≡ refusal 5 Shape)
    × (section (maximising ∷ x ∷ word (codes "MINIMISING") ∷ x ∷ []) ≡ refusal 3 Shape)
    × (section (word (codes "VARORDER") ∷ word (codes "SDF") ∷ []) ≡ refusal 2 Unsupported)
    × (section (word (codes "PRINT") ∷ []) ≡ refusal 1 Unsupported)
    × (section (word (codes "PRINT") ∷ opens ∷ comma ∷ []) ≡ refusal 2 Syntax)
unfolding loop ref_at behind_name subs_at sub_at mark_at name_at items_at end_at entry_at behind_entry list_at maybe_at row_at behind_row search_at body_at item_first item_rest one_of order_at behind_static var_order_at way_at ways_at val_order_at rows_at behind_print print_at
what_search_breaks = (refl, refl, refl, refl, refl, refl, refl, refl, refl, refl, refl, refl)

-- a whole matrix as an objective ends at the next token, whatever that is, but the grammar and what counts more come first
what_ends_an_objective :
    (section (maximising ∷ q ∷ []) ≡ refusal 1 Shape)
    × (section (maximising ∷ q ∷ word (codes "PRINT") ∷ word (codes "ALL") ∷ []) ≡ refusal 3 Shape)
    × (section (order_of [] ++ maximising ∷ q ∷ order_of []) ≡ refusal 4 Again)
    × (section (maximising ∷ q ∷ word (codes "BOOL") ∷ []) ≡ refusal 2 Unsupported)
    × (section (maximising ∷ q ∷ num 1 ∷ []) ≡ refusal 2 Unsupported)
    × (section (maximising ∷ q ∷ comma ∷ []) ≡ refusal 2 Syntax)
    × (whole None (search_at asking) (maximising ∷ q ∷ []) ≡ refusal 0 Syntax)
    × (whole (Some (NumberRange 9)) (search_at asking) (maximising ∷ q ∷ []) ≡ refusal 0 PastNumber)
unfolding loop ref_at behind_name subs_at sub_at mark_at name_at items_at end_at entry_at behind_entry list_at maybe_at row_at behind_row search_at body_at item_first item_rest one_of order_at behind_static var_order_at way_at ways_at val_order_at rows_at behind_print print_at
what_ends_an_objective = (refl, refl, refl, refl, refl, refl, refl, refl)
