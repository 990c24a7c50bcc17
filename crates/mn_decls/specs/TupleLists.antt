-- The section of tuple lists: its language, what it breaks, what it stands for, and its reader.
use Rattle.std.specs.Prelude.{◌⊎◌, ℕ, ℤ, pos, ◌+ℤ◌, ◌*ℤ◌, Bool, false, not, List, [], ◌∷◌, ◌++◌, length, map, Option, Some, is_some, if◌then◌else◌, nat_abs, int_lt}
use Rattle.std.proofs.Common.{inl, inr}
use Rattle.mn_lexer.specs.Terminals.{Terminal, word, number}
use Rattle.mn_grammar.specs.Tokens.{Name, name_of, is_number}
use Rattle.mn_grammar.specs.Places.{Break, when, on, behind}
use Rattle.mn_grammar.specs.Reading.{Reader, Turn, goes_on, is_done, which_either, one, number_at, then_read, ret, or_else, loop}
use Rattle.mn_grammar.specs.Bodies.{body_at}
use Rattle.mn_grammar.specs.Lawful.{Spec}
use Rattle.mn_grammar.specs.declared.site.Site.TheVariants.{Mixed}
use Rattle.mn_grammar.specs.declared.Kind.{Kind}
use Rattle.mn_grammar.specs.declared.Kind.TheVariants as kinds
use Rattle.mn_grammar.specs.declared.Limit.TheVariants as limits
use Rattle.mn_model.specs.Problem.{Problem, listed_as, cells_of}
use Rattle.mn_model.specs.declared.limits.TheConstants.{CELLS}
use Rattle.mn_cursor.specs.Added.{with_tuples}
use Rattle.mn_cursor.specs.Heads.{head_token, head_of}
use Rattle.mn_cursor.specs.declared.heads.Head.{Head}
use Rattle.mn_cursor.specs.declared.heads.Head.TheVariants.{End}

-- a tuple list as it is written: its name, how many tuples it has and how long they are, and their numbers
pub record TupleList : Type 0 where
  pub name : Name
  pub count : ℤ
  pub size : ℤ
  pub numbers : List ℤ

abbrev pub spell_list : TupleList → List Terminal
spell_list l = word l.name.bytes ∷ number l.count ∷ number l.size ∷ map (λ z. number z) l.numbers

-- the section: tuple lists, and the head after them
abbrev pub spell_lists : List TupleList → Head → List Terminal
spell_lists [] h = head_token h ∷ []
spell_lists (l ∷ ls) h = spell_list l ++ spell_lists ls h

-- what is listed so far, and whether the last list still lacks numbers
pub record Listing : Type 0 where
  pub problem : Problem
  pub lacks : Bool

-- where no list lacks numbers
abbrev pub whole : Problem → Listing
whole p = record { problem = p; lacks = false }

-- the problem with one more list
abbrev pub listed : Problem → List ℕ → ℤ → ℤ → List ℤ → Listing
listed p name count size numbers = record {
  problem = with_tuples p name (nat_abs size) numbers;
  lacks = int_lt (pos (length numbers)) (count *ℤ size);
}

abbrev pub after_list : Listing → TupleList → Listing
after_list s l = listed s.problem l.name.bytes l.count l.size l.numbers

-- a name: one that is declared among the tuple lists is refused, and so is one that stands where a number is lacking
abbrev pub new_list : Listing → List ℕ → Option Kind
new_list s name = if is_some (listed_as s.problem.tuples name) then Some kinds.Name else when s.lacks kinds.Shape

-- the head after the lists: a number may be lacking
abbrev pub end_of_lists : Listing → Option Kind
end_of_lists s = when s.lacks kinds.Shape

-- with so many cells more than the problem has, the limit of cells is passed
abbrev pub is_past_cells : Problem → ℤ → Bool
is_past_cells p more = int_lt (pos CELLS) (pos (cells_of p) +ℤ more)

-- a count is at least 0, and the limit is kept at least by tuples of the length 1
abbrev pub fair_count : Problem → ℤ → Option Kind
fair_count p count = if int_lt count (pos 0) then Some kinds.Shape else when (is_past_cells p count) (kinds.Limit limits.Cells)

-- a length is at least 1, and with it the limit is kept
abbrev pub fair_size : Problem → ℤ → ℤ → Option Kind
fair_size p count size =
    if int_lt size (pos 1) then Some kinds.Shape else when (is_past_cells p (count *ℤ size)) (kinds.Limit limits.Cells)

-- a number after those before it: there may be no more than are wanted
abbrev pub fair_number : ℤ → List ℤ → ℤ → Option Kind
fair_number wanted before z = when (not (int_lt (pos (length before)) wanted)) kinds.Shape

abbrev pub breaks_numbers : ℤ → List ℤ → List ℤ → List Break
breaks_numbers wanted before [] = []
breaks_numbers wanted before (z ∷ zs) = on (fair_number wanted before z) ++ behind 1 (breaks_numbers wanted (before ++ z ∷ []) zs)

abbrev pub breaks_list : Listing → TupleList → List Break
breaks_list s l =
    on (new_list s l.name.bytes)
    ++ behind 1 (on (fair_count s.problem l.count)
    ++ behind 1 (on (fair_size s.problem l.count l.size)
    ++ behind 1 (breaks_numbers (l.count *ℤ l.size) [] l.numbers)))

-- what the section breaks, after what is listed before it
abbrev pub breaks_lists : Listing → List TupleList → List Break
breaks_lists s [] = on (end_of_lists s)
breaks_lists s (l ∷ ls) = breaks_list s l ++ behind (length (spell_list l)) (breaks_lists (after_list s l) ls)

-- what the section stands for: the problem with its lists
abbrev pub value_lists : Listing → List TupleList → Problem
value_lists s [] = s.problem
value_lists s (l ∷ ls) = value_lists (after_list s l) ls

-- The readers: of the numbers of a list, of what stands after its name, of a name or a head, and of the section.
abbrev pub number_turn : ℤ → List ℤ → Reader (Turn (List ℤ) (List ℤ))
number_turn wanted before =
    or_else is_number (then_read (number_at (fair_number wanted before)) (λ z. ret (goes_on (before ++ z ∷ [])))) (ret (is_done before))

unfoldable pub numbers_at : ℤ → List ℤ → Reader (List ℤ)
numbers_at wanted before = loop (number_turn wanted) before

unfoldable pub list_at : Listing → List ℕ → Reader Listing
list_at s name =
    then_read (number_at (fair_count s.problem)) (λ count. then_read (number_at (fair_size s.problem count)) (λ size.
    then_read (numbers_at (count *ℤ size) []) (λ numbers. ret (listed s.problem name count size numbers))))

abbrev pub judge_first : Listing → List ℕ ⊎ Head → Option Kind
judge_first s (inl name) = new_list s name
judge_first s (inr h) = end_of_lists s

unfoldable pub first_at : Listing → Reader (List ℕ ⊎ Head)
first_at s = one Mixed (which_either name_of head_of) (judge_first s)

abbrev pub listed_before : Listing → Head → Problem × Head
listed_before s h = (s.problem, h)

unfoldable pub lists_at : Listing → Reader (Problem × Head)
lists_at s = body_at first_at list_at listed_before s

-- the section in a problem
abbrev pub tuplelist_at : Problem → Reader (Problem × Head)
tuplelist_at p = lists_at (whole p)

-- the language of the section, after what is listed before it
abbrev pub lists_spec : Listing → Spec (List TupleList × Head) (Problem × Head)
lists_spec s = record {
  spell = λ x. spell_lists x.0 x.1;
  breaks = λ x. breaks_lists s x.0;
  value = λ x. (value_lists s x.0, x.1);
  blocks = λ x t. false;
  start = Mixed;
  any = ([], End);
}

abbrev pub tuplelist_spec : Problem → Spec (List TupleList × Head) (Problem × Head)
tuplelist_spec p = lists_spec (whole p)
