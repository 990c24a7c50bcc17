-- A small language, to show how a reader is proved exact: `MINION`, names, `**EOF**`. Each name stands once, and there
-- are two at most.
use Rattle.std.proofs.Common.{◌≡◌, ◌⊎◌, ℕ, Bool, true, false, leb, ◌||◌, List, [], ◌∷◌, ◌++◌, length, codes, Option, Some, None, is_some, Ok, Err, Result, refl, ap, inl, inr, bytes_eq, arith}
use Rattle.mn_lexer.specs.Terminals.{Terminal, word, head}
use Rattle.mn_lexer.specs.declared.LexFault.{LexFault}
use Rattle.mn_grammar.specs.Tokens.{Name, name_of}
use Rattle.mn_grammar.specs.Kinds.{is_condition}
use Rattle.mn_grammar.specs.Places.{Break, when, on, behind}
use Rattle.mn_grammar.specs.Reading.{Reader, Mixed, Fixed, Turn, goes_on, is_done, either_of, which_of, which_either, one, ret, then_read, loop, word_at, whole}
use Rattle.mn_grammar.specs.Lawful.{Spec, first, Lawful}
use Rattle.mn_grammar.specs.Laws.{IsExact}
use Rattle.mn_grammar.proofs.Breaks.{alike_append, alike_behind, or_then, on_when, kind_when, kind_or}
use Rattle.mn_grammar.proofs.Leaves.{leaf, Lawful-one}
use Rattle.mn_grammar.proofs.Classes.{set_class, either_token, either_value, either_class}
use Rattle.mn_grammar.proofs.Words.{name_token, name_class, Lawful-word}
use Rattle.mn_grammar.proofs.Steps.{valued, Lawful-valued, Lawful-token_then}
use Rattle.mn_grammar.proofs.Views.{Lawful-view}
use Rattle.mn_grammar.proofs.Loops.{Turns, last, more, turns, Loop, Lawful-loop}
use Rattle.mn_grammar.proofs.Exact.{exact}
use Rattle.mn_lexer.specs.declared.LexFault.TheVariants as stop
use Rattle.mn_grammar.specs.declared.Fault.{Fault}
use Rattle.mn_grammar.specs.declared.Kind.{Kind}
use Rattle.mn_grammar.specs.declared.Kind.TheVariants as kinds
use Rattle.mn_grammar.specs.declared.Limit.TheVariants as limits

-- 1. The language: trees and their spelling
abbrev spell_names : List Name → List Terminal
spell_names [] = head (codes "**EOF**") ∷ []
spell_names (n ∷ ns) = word n.bytes ∷ spell_names ns

abbrev spell_text : List Name → List Terminal
spell_text ns = word (codes "MINION") ∷ spell_names ns

-- 2. Its conditions, each on its token
abbrev has_bytes : List (List ℕ) → List ℕ → Bool
has_bytes [] w = false
has_bytes (v ∷ vs) w = bytes_eq v w || has_bytes vs w

abbrev once : List (List ℕ) → List ℕ → Option Kind
once seen w = when (has_bytes seen w) kinds.Name

abbrev room : List (List ℕ) → Option Kind
room seen = when (leb 2 (length seen)) (kinds.Limit limits.Variables)

abbrev breaks_names : List Name → List (List ℕ) → List Break
breaks_names [] seen = []
breaks_names (n ∷ ns) seen = (on (once seen n.bytes) ++ on (room seen)) ++ behind 1 (breaks_names ns (n.bytes ∷ seen))

-- 3. What a text stands for: its names, the last one first
abbrev value_names : List Name → List (List ℕ) → List (List ℕ)
value_names [] seen = seen
value_names (n ∷ ns) seen = value_names ns (n.bytes ∷ seen)

abbrev names_spec : List (List ℕ) → Spec (List Name) (List (List ℕ))
names_spec seen = record {
  spell = spell_names;
  breaks = λ ns. breaks_names ns seen;
  value = λ ns. value_names ns seen;
  blocks = λ ns t. false;
  start = Mixed;
  any = [];
}

abbrev text_spec : Spec (List Name) (List (List ℕ))
text_spec = record {
  spell = spell_text;
  breaks = λ ns. behind 1 (breaks_names ns []);
  value = λ ns. value_names ns [];
  blocks = λ ns t. false;
  start = Fixed;
  any = [];
}

-- 4. The reader: a leaf for a name or the end, a loop over it, a leaf before it
abbrev end_token : Unit {0} → Terminal
end_token u = head (codes "**EOF**")

abbrev name_or_end : Terminal → Option (List ℕ ⊎ Unit {0})
name_or_end = which_either name_of (which_of end_token (tt ∷ []))

abbrev judge : List (List ℕ) → List ℕ ⊎ Unit {0} → Option Kind
judge seen (inl w) = or_then (once seen w) (room seen)
judge seen (inr u) = None

abbrev turn_of : List (List ℕ) → List ℕ ⊎ Unit {0} → Turn (List (List ℕ)) (List (List ℕ))
turn_of seen (inl w) = goes_on (w ∷ seen)
turn_of seen (inr u) = is_done seen

abbrev step : List (List ℕ) → Reader (Turn (List (List ℕ)) (List (List ℕ)))
step seen = then_read (one Mixed name_or_end (judge seen)) (λ o. ret (turn_of seen o))

abbrev read_text : Reader (List (List ℕ))
read_text = then_read (word_at (codes "MINION") None) (λ u. loop step [])

-- 5. The leaf is a class of tokens
abbrev token : Name ⊎ Unit {0} → Terminal
token = either_token name_token end_token

abbrev value : Name ⊎ Unit {0} → List ℕ ⊎ Unit {0}
value = either_value (λ n. n.bytes) (λ u. u)

names_wanted : (t : Terminal) (w : List ℕ) → name_of t ≡ Some w → is_some (name_or_end t) ≡ true
names_wanted t w e = ap (λ o. is_some (either_of o (which_of end_token (tt ∷ []) t))) e

judge_kinds : (seen : List (List ℕ)) (w : List ℕ ⊎ Unit {0}) (kind : Kind) → judge seen w ≡ Some kind → is_condition kind ≡ true
judge_kinds seen (inl w) kind e =
    kind_or (once seen w) (room seen) (kind_when (has_bytes seen w) kinds.Name refl) (kind_when (leb 2 (length seen)) (kinds.Limit limits.Variables) refl) kind e
judge_kinds seen (inr u) kind e = cc

abbrev a_turn : List (List ℕ) → Spec (Name ⊎ Unit {0}) (Turn (List (List ℕ)) (List (List ℕ)))
a_turn seen = valued (turn_of seen) (leaf Mixed token value (judge seen) (inr tt))

step_law : (seen : List (List ℕ)) → Lawful (a_turn seen) (step seen)
step_law seen = Lawful-valued (turn_of seen) (leaf Mixed token value (judge seen) (inr tt)) (one Mixed name_or_end (judge seen))
    (Lawful-one Mixed token value name_or_end (judge seen) (inr tt) (record {
      class = either_class name_token (λ n. n.bytes) name_of end_token (λ u. u) (which_of end_token (tt ∷ [])) name_class (set_class end_token (tt ∷ []) (λ u. refl)) (λ u. refl);
      is_site = ((head (codes "**EOF**"), refl, refl), inl names_wanted);
      kinds = judge_kinds seen;
    }))

-- 6. The loop, and its trees as lists of names
abbrev next : List (List ℕ) → Name → List (List ℕ)
next seen n = n.bytes ∷ seen

abbrev Rows : List (List ℕ) → Type 0
Rows = Turns (λ s. Name) (λ s. Unit {0}) next

abbrev no_rows : (seen : List (List ℕ)) → Rows seen
no_rows seen = last tt

abbrev looped : (seen : List (List ℕ)) → Spec (Rows seen) (List (List ℕ))
looped seen = turns a_turn next (λ s u. s) no_rows seen

is_loop : Loop a_turn next (λ s u. s) no_rows
is_loop = record {
  goes = λ s n. refl;
  ends = λ s u. refl;
  grows = λ s n e. cc;
  apart = λ s n gs t q e. refl;
  fits = λ s n. tt;
  fits_last = λ s u. tt;
}

abbrev names_onto : (seen : List (List ℕ)) → Rows seen → List Name
names_onto seen (last u) = []
names_onto seen (more n gs) = n ∷ names_onto (next seen n) gs

abbrev names_back : List Name → (seen : List (List ℕ)) → Rows seen
names_back [] seen = last tt
names_back (n ∷ ns) seen = more n (names_back ns (next seen n))

names_again : (ns : List Name) (seen : List (List ℕ)) → names_onto seen (names_back ns seen) ≡ ns
names_again [] seen = refl
names_again (n ∷ ns) seen = ap (λ l. n ∷ l) (names_again ns (next seen n))

names_spell : (seen : List (List ℕ)) (gs : Rows seen) → spell_names (names_onto seen gs) ≡ (looped seen).spell gs
names_spell seen (last u) = refl
names_spell seen (more n gs) = ap (λ l. word n.bytes ∷ l) (names_spell (next seen n) gs)

names_breaks : (seen : List (List ℕ)) (gs : Rows seen) → first (breaks_names (names_onto seen gs) seen) ≡ first ((looped seen).breaks gs)
names_breaks seen (last u) = refl
names_breaks seen (more n gs) =
    alike_append (on (once seen n.bytes) ++ on (room seen)) (on (judge seen (inl n.bytes))) _ _
    (on_when (has_bytes seen n.bytes) (leb 2 (length seen)) kinds.Name (kinds.Limit limits.Variables) (omega arith))
    (alike_behind 1 (breaks_names (names_onto (next seen n) gs) (next seen n)) ((looped (next seen n)).breaks gs) (names_breaks (next seen n) gs))

names_value : (seen : List (List ℕ)) (gs : Rows seen) → value_names (names_onto seen gs) seen ≡ (looped seen).value gs
names_value seen (last u) = refl
names_value seen (more n gs) = names_value (next seen n) gs

names_blocks : (seen : List (List ℕ)) (gs : Rows seen) (t : Terminal) → false ≡ (looped seen).blocks gs t
names_blocks seen (last u) t = refl
names_blocks seen (more n gs) t = names_blocks (next seen n) gs t

names_law : (seen : List (List ℕ)) → Lawful (names_spec seen) (loop step seen)
names_law seen = Lawful-view (looped seen) (names_spec seen)
    (record {
      onto = names_onto seen;
      back = λ ns. names_back ns seen;
      again = λ ns. names_again ns seen;
      spell = names_spell seen;
      breaks = names_breaks seen;
      value = names_value seen;
      blocks = names_blocks seen;
      start = refl;
    })
    (loop step seen) (Lawful-loop a_turn next (λ s u. s) no_rows is_loop step step_law seen)

-- 7. The text: the word, and the names behind it
text_law : Lawful text_spec read_text
text_law =
    Lawful-token_then Fixed (word (codes "MINION")) None (word_at (codes "MINION") None) (names_spec []) (loop step [])
    (Lawful-word (codes "MINION") None refl (λ kind e. cc)) (names_law []).sound (λ kept. names_law [])

-- 8. So it accepts exactly the texts, and refuses all other lists at their place
pub example_is_exact : (stop : Option LexFault) → IsExact text_spec stop (whole stop read_text)
example_is_exact stop = exact text_spec stop read_text text_law (λ ns t. refl)

-- 9. And what it answers computes
abbrev minion : Terminal
minion = word (codes "MINION")

abbrev end : Terminal
end = head (codes "**EOF**")

abbrev answer : List Terminal → Result (List (List ℕ)) Fault
answer ts = whole None read_text ts

two_names : answer (minion ∷ word (codes "x") ∷ word (codes "y") ∷ end ∷ []) ≡ Ok (codes "y" ∷ codes "x" ∷ [])
unfolding loop word_at
two_names = refl

a_name_twice : answer (minion ∷ word (codes "x") ∷ word (codes "x") ∷ end ∷ []) ≡ Err (record { left = 2; kind = kinds.Name })
unfolding loop word_at
a_name_twice = refl

three_names : answer (minion ∷ word (codes "x") ∷ word (codes "y") ∷ word (codes "z") ∷ end ∷ []) ≡ Err (record { left = 2; kind = kinds.Limit limits.Variables })
unfolding loop word_at
three_names = refl

a_head : answer (minion ∷ head (codes "**END**") ∷ []) ≡ Err (record { left = 1; kind = kinds.Unsupported })
unfolding loop word_at
a_head = refl

a_known_head : answer (minion ∷ head (codes "**SEARCH**") ∷ []) ≡ Err (record { left = 1; kind = kinds.Syntax })
unfolding loop word_at
a_known_head = refl

another_word : answer (word (codes "MAXION") ∷ []) ≡ Err (record { left = 1; kind = kinds.Unsupported })
unfolding loop word_at
another_word = refl

no_end : answer (minion ∷ word (codes "x") ∷ []) ≡ Err (record { left = 0; kind = kinds.Syntax })
unfolding loop word_at
no_end = refl

more_tokens : answer (minion ∷ end ∷ end ∷ []) ≡ Err (record { left = 1; kind = kinds.Syntax })
unfolding loop word_at
more_tokens = refl

a_lexical_fault : whole (Some (stop.NumberRange 9)) read_text (minion ∷ []) ≡ Err (record { left = 0; kind = kinds.NumberRange })
unfolding loop word_at
a_lexical_fault = refl
