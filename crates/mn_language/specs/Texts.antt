-- Whole texts: how they are spelled, what they break, which instances they stand for, and why all others are refused.
use Rattle.std.specs.Prelude.{◌≡◌, ◌⊎◌, ◌<◌, ◌≤◌, ℕ, pos, false, List, [], ◌∷◌, ◌++◌, length, map, drop, Option, None, Result, Ok, Err, codes}
use Rattle.mn_lexer.specs.Terminals.{Terminal, word, number, token_of}
use Rattle.mn_lexer.specs.Reading.{IsLexed}
use Rattle.mn_lexer.specs.declared.Token.{Token}
use Rattle.mn_lexer.specs.declared.LexFault.{LexFault}
use Rattle.mn_grammar.specs.Places.{Break, behind, IsText, IsRefusedAt}
use Rattle.mn_grammar.specs.Lawful.{Spec}
use Rattle.mn_grammar.specs.declared.site.Site.TheVariants.{Fixed}
use Rattle.mn_grammar.specs.declared.Kind.{Kind}
use Rattle.mn_model.specs.Problem.{Problem, nothing}
use Rattle.mn_model.specs.declared.limits.TheConstants.{TEXT_BYTES}
use Rattle.mn_model.specs.declared.refusal.Refusal.{Refusal}
use Rattle.mn_model.specs.declared.refusal.Refusal.TheVariants.{Limit}
use Rattle.mn_model.specs.declared.refusal.Which.TheVariants.{Text}
use Rattle.mn_cursor.specs.Heads.{head_token}
use Rattle.mn_cursor.specs.Progress.{nothing_asked, end_of, byte_at, refusal_at}
use Rattle.mn_decls.specs.Variables.{Entry, spell_declarations, breaks_declarations, value_declarations}
use Rattle.mn_decls.specs.TupleLists.{TupleList, whole, spell_lists, breaks_lists, value_lists}
use Rattle.mn_asking.specs.Search as asks
use Rattle.mn_cursor.specs.declared.asked.Asked.{Asked}
use Rattle.mn_asking.specs.Search.{Asking, Item}
use Rattle.mn_cursor.specs.declared.heads.Head.{Head}
use Rattle.mn_cursor.specs.declared.heads.Head.TheVariants as heads
use Rattle.mn_language.specs.Constraints as constrains
use Rattle.mn_language.specs.Constraints.{Constraint}

-- 1. The trees of a text, and how it is spelled

-- a section, by its entries: variables and aliases, tuple lists, how to search and what to print, or constraints
pub data Section : Type 0 where
  variables : List Entry → Section
  tuple_lists : List TupleList → Section
  search : List Item → Section
  constraints : List Constraint → Section

abbrev pub head_before : Section → Head
head_before (variables es) = heads.Variables
head_before (tuple_lists ls) = heads.TupleList
head_before (search items) = heads.Search
head_before (constraints cs) = heads.Constraints

-- the head of the first section, or the head that ends the text
abbrev pub first_head : List Section → Head
first_head [] = heads.End
first_head (s ∷ ss) = head_before s

-- the entries of a section, and the head after them
abbrev pub spell_entries : Section → Head → List Terminal
spell_entries (variables es) h = spell_declarations es h
spell_entries (tuple_lists ls) h = spell_lists ls h
spell_entries (search items) h = asks.spell_section items h
spell_entries (constraints cs) h = constrains.spell_section cs h

-- sections, after the head of the first
abbrev pub spell_sections : List Section → List Terminal
spell_sections [] = []
spell_sections (s ∷ ss) = spell_entries s (first_head ss) ++ spell_sections ss

-- a text: `MINION 3`, sections in any order, each as often as one likes, and `**EOF**`
abbrev pub spell_text : List Section → List Terminal
spell_text ss = word (codes "MINION") ∷ number (pos 3) ∷ head_token (first_head ss) ∷ spell_sections ss

-- 2. What it breaks, and what it stands for

-- what a text says so far: the problem, and which items of how to search it has had, in whatever section
pub record Stated : Type 0 where
  pub problem : Problem
  pub asked : Asked

abbrev pub nothing_stated : Stated
nothing_stated = record { problem = nothing; asked = nothing_asked }

-- where a section of how to search begins, and where it ends
abbrev pub asking : Stated → Asking
asking s = record { problem = s.problem; asked = s.asked; behind = None }

abbrev pub stated_by : Asking → Stated
stated_by a = record { problem = a.problem; asked = a.asked }

abbrev pub breaks_entries : Stated → Section → List Break
breaks_entries s (variables es) = breaks_declarations s.problem es
breaks_entries s (tuple_lists ls) = breaks_lists (whole s.problem) ls
breaks_entries s (search items) = asks.breaks_section (asking s) items
breaks_entries s (constraints cs) = constrains.breaks_section s.problem cs

-- what is said with one more section
abbrev pub after_section : Stated → Section → Stated
after_section s (variables es) = record s { problem = value_declarations s.problem es }
after_section s (tuple_lists ls) = record s { problem = value_lists (whole s.problem) ls }
after_section s (search items) = stated_by (asks.value_section (asking s) items)
after_section s (constraints cs) = record s { problem = constrains.value_section s.problem cs }

-- each section is judged by what is said before it
abbrev pub breaks_sections : Stated → List Section → List Break
breaks_sections s [] = []
breaks_sections s (x ∷ xs) = breaks_entries s x ++ behind (length (spell_entries x (first_head xs))) (breaks_sections (after_section s x) xs)

abbrev pub value_sections : Stated → List Section → Problem
value_sections s [] = s.problem
value_sections s (x ∷ xs) = value_sections (after_section s x) xs

abbrev pub breaks_text : List Section → List Break
breaks_text ss = behind 3 (breaks_sections nothing_stated ss)

abbrev pub problem_of : List Section → Problem
problem_of ss = value_sections nothing_stated ss

-- the language of whole texts
abbrev pub text_spec : Spec (List Section) Problem
text_spec = record {
  spell = spell_text;
  breaks = breaks_text;
  value = problem_of;
  blocks = λ x t. false;
  start = Fixed;
  any = [];
}

-- 3. The same of bytes

-- The text stands for the instance: it isn't too long, no lexical fault ends its tokens, and they are spelled as
-- sections that break nothing and say this much.
pub record Reads (text : List ℕ) (p : Problem) : Type 0 where
  pub size : length text ≤ TEXT_BYTES
  pub tokens : List Token
  pub lexed : IsLexed text tokens None
  pub sections : List Section
  pub is_text : IsText spell_text breaks_text (map (token_of text) tokens) sections
  pub means : problem_of sections ≡ p

-- A text that isn't too long is refused at the first of its tokens where a cause stands, or where its tokens end: the
-- outside is told the byte.
pub record IsRefusedWithin (text : List ℕ) (r : Refusal) : Type 0 where
  pub size : length text ≤ TEXT_BYTES
  pub tokens : List Token
  pub stop : Option LexFault
  pub lexed : IsLexed text tokens stop
  pub at : ℕ
  pub kind : Kind
  pub is_refused : IsRefusedAt spell_text breaks_text stop (map (token_of text) tokens) at kind
  pub told : refusal_at kind (byte_at (drop at tokens) (end_of text stop)) ≡ r

-- the text is refused so; one that is too long is refused as that before anything else
abbrev pub IsRefused : List ℕ → Refusal → Type 0
IsRefused text r = ((TEXT_BYTES < length text) × (r ≡ Limit Text TEXT_BYTES)) ⊎ IsRefusedWithin text r

-- the verdict on a text: the instance that it stands for, or the refusal of it
abbrev pub IsVerdict : List ℕ → Result Problem Refusal → Type 0
IsVerdict text (Ok p) = Reads text p
IsVerdict text (Err r) = IsRefused text r
