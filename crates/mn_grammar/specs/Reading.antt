-- Readers of token lists, and the parts that they are made of: they stand between the definitions of a language and the code
-- that reads it. The contracts of the calls that read single sections cite them; that of a whole text doesn't.
use Rattle.std.specs.Prelude.{ℕ, ℤ, zero, suc, Bool, not, ◌&&◌, List, [], ◌∷◌, length, Option, Some, None, Result, Ok, Err, if◌then◌else◌, ◌⊎◌, find}
use Rattle.std.proofs.Common.{inl, inr}
use Rattle.mn_lexer.specs.Terminals.{Terminal}
use Rattle.mn_lexer.specs.declared.LexFault.{LexFault}
use Rattle.mn_lexer.specs.declared.marks.Mark.{Mark}
use Rattle.mn_lexer.specs.declared.marks.Mark.TheVariants.{Comma}
use Rattle.mn_grammar.specs.Tokens.{is_head, is_mark, is_known_head, same_token, is_the_mark, is_the_word, is_the_head, name_of, number_of}
use Rattle.mn_grammar.specs.Kinds.{kind_at_end}
use Rattle.mn_grammar.specs.declared.Fault.{Fault}
pub use Rattle.mn_grammar.specs.declared.site.Site.{Site}
pub use Rattle.mn_grammar.specs.declared.site.Site.TheVariants.{MarksOnly, Free, Fixed, Mixed}
use Rattle.mn_grammar.specs.declared.Kind.{Kind}
use Rattle.mn_grammar.specs.declared.Kind.TheVariants.{Unsupported, Syntax}

-- a value and what is left of the list, or a refusal
abbrev pub Answer : Type 0 → Type 0
Answer V = Result (V × List Terminal) Fault

-- it reads the front of a list
abbrev pub Reader : Type 0 → Type 0
Reader V = List Terminal → Answer V

-- the refusal of the first of these tokens, or of the list's end
abbrev pub fault_at : List Terminal → Kind → Fault
fault_at ts kind = record { left = length ts; kind = kind }

-- the kind at a token that isn't wanted, and at the list's end
abbrev pub kind_at : Site → List Terminal → Kind
kind_at Fixed (t ∷ ts) = if is_mark t then Syntax else Unsupported
kind_at Mixed (t ∷ ts) = if is_head t && not (is_known_head t) then Unsupported else Syntax
kind_at _ _ = Syntax

-- the refusal of a token that isn't wanted, or of the list's end
abbrev pub refused : Site → List Terminal → Fault
refused s ts = fault_at ts (kind_at s ts)

-- reads nothing
abbrev pub ret : {V : Type 0} → V → Reader V
ret v ts = Ok (v, ts)

-- what a token of the class gives, by the condition on it
abbrev pub judged : {W : Type 0} → Option Kind → W → List Terminal → List Terminal → Answer W
judged None w ts rest = Ok (w, rest)
judged (Some kind) w ts rest = Err (fault_at ts kind)

-- what a token gives, by what it stands for in the class
abbrev pub classed : {W : Type 0} → Site → (W → Option Kind) → Option W → List Terminal → List Terminal → Answer W
classed s judge None ts rest = Err (refused s ts)
classed s judge (Some w) ts rest = judged (judge w) w ts rest

-- one token of a class, with a condition on it
abbrev pub one : {W : Type 0} → Site → (Terminal → Option W) → (W → Option Kind) → Reader W
one s classify judge [] = Err (refused s [])
one s classify judge (t ∷ ts) = classed s judge (classify t) (t ∷ ts) ts

-- on with the value and with what is left, if there is one
abbrev pub go_on : {V W : Type 0} → Answer V → (V → Reader W) → Answer W
go_on (Ok r) b = b r.0 r.1
go_on (Err e) b = Err e

-- a, and then what its value asks for
abbrev pub then_read : {V W : Type 0} → Reader V → (V → Reader W) → Reader W
then_read a b ts = go_on (a ts) b

-- a where the first token passes the test, else b
abbrev pub or_else : {V : Type 0} → (Terminal → Bool) → Reader V → Reader V → Reader V
or_else test a b [] = b []
or_else test a b (t ∷ ts) = if test t then a (t ∷ ts) else b (t ∷ ts)

-- a turn of a loop goes on in a state, or is the last
pub data Turn (S V : Type 0) : Type 0 where
  goes_on : S → Turn S V
  is_done : V → Turn S V

-- what follows a turn
abbrev pub turned : {S V : Type 0} → (S → Reader V) → Turn S V → Reader V
turned more (goes_on s) = more s
turned more (is_done v) = ret v

-- at most n turns
abbrev pub loop_by : {S V : Type 0} → ℕ → (S → Reader (Turn S V)) → S → Reader V
loop_by zero step s ts = Err (fault_at ts Syntax)
loop_by (suc n) step s ts = then_read (step s) (turned (loop_by n step)) ts

-- turns until one is the last; each that goes on reads a token at least
unfoldable pub loop : {S V : Type 0} → (S → Reader (Turn S V)) → S → Reader V
loop step s ts = loop_by (suc (length ts)) step s ts

-- one of certain tokens, which stand for the values of the list
abbrev pub which_of : {W : Type 0} → (W → Terminal) → List W → Terminal → Option W
which_of token all t = find (λ w. same_token t (token w)) all

-- one of them, with a condition on it
unfoldable pub one_of : {W : Type 0} → Site → (W → Terminal) → List W → (W → Option Kind) → Reader W
one_of site token all judge = one site (which_of token all) judge

-- a token of one class or of another
abbrev pub either_of : {V W : Type 0} → Option V → Option W → Option (V ⊎ W)
either_of (Some v) o = Some (inl v)
either_of None (Some w) = Some (inr w)
either_of None None = None

-- of the first, and else of the other
abbrev pub which_either : {V W : Type 0} → (Terminal → Option V) → (Terminal → Option W) → Terminal → Option (V ⊎ W)
which_either first other t = either_of (first t) (other t)

-- the mark m
abbrev pub which_mark : Mark → Terminal → Option (Unit {0})
which_mark m t = if is_the_mark m t then Some tt else None

-- that mark, with a condition on it, at a place of this site
unfoldable pub mark_at : Site → Mark → Option Kind → Reader (Unit {0})
mark_at s m c = one s (which_mark m) (λ _. c)

-- a name, with a condition on it
unfoldable pub name_at : (List ℕ → Option Kind) → Reader (List ℕ)
name_at judge = one Free name_of judge

-- any number, with a condition on it
unfoldable pub number_at : (ℤ → Option Kind) → Reader ℤ
number_at judge = one Free number_of judge

-- the word of these bytes
abbrev pub which_word : List ℕ → Terminal → Option (Unit {0})
which_word bs t = if is_the_word bs t then Some tt else None

-- that word, with a condition on it
unfoldable pub word_at : List ℕ → Option Kind → Reader (Unit {0})
word_at bs c = one Fixed (which_word bs) (λ _. c)

-- the head of these bytes
abbrev pub which_head : List ℕ → Terminal → Option (Unit {0})
which_head bs t = if is_the_head bs t then Some tt else None

-- that head, with a condition on it
unfoldable pub head_at : List ℕ → Option Kind → Reader (Unit {0})
head_at bs c = one Fixed (which_head bs) (λ _. c)

-- behind an entry of a list: `,`, and the list goes on, or the mark that closes it
abbrev pub which_end : {S V : Type 0} → Mark → S → V → Terminal → Option (Turn S V)
which_end shut s v t =
    if is_the_mark Comma t then Some (goes_on s) else (if is_the_mark shut t then Some (is_done v) else None)

-- the condition on the one, and on the other
abbrev pub judge_end : {S V : Type 0} → Option Kind → Option Kind → Turn S V → Option Kind
judge_end comma close (goes_on s) = comma
judge_end comma close (is_done v) = close

-- the end of an entry
unfoldable pub end_at : {S V : Type 0} → Mark → Option Kind → Option Kind → S → V → Reader (Turn S V)
end_at shut comma close s v = one MarksOnly (which_end shut s v) (judge_end comma close)

-- a reader of what is never read, and the reader of what stands inside, where it is read
abbrev pub never : {V : Type 0} → Reader V
never ts = Err (fault_at ts Syntax)

-- of no depth nothing is read
abbrev pub within : {D S V : Type 0} → (D → S → Reader V) → Option D → S → Reader V
within read None s = never
within read (Some d) s = read d s

-- the whole list
abbrev pub finished : {V : Type 0} → Answer V → Result V Fault
finished (Err e) = Err e
finished (Ok (v, [])) = Ok v
finished (Ok (v, t ∷ ts)) = Err (fault_at (t ∷ ts) Syntax)

-- where no token is left, the kind is that of what ended the list
abbrev pub kind_named : Option LexFault → ℕ → Kind → Kind
kind_named stop zero kind = kind_at_end stop
kind_named stop (suc left) kind = kind

-- the fault with that kind
abbrev pub renamed : Option LexFault → Fault → Fault
renamed stop e = record { left = e.left; kind = kind_named stop e.left e.kind }

-- the same of a result
abbrev pub named : {V : Type 0} → Option LexFault → Result V Fault → Result V Fault
named stop (Ok v) = Ok v
named stop (Err e) = Err (renamed stop e)

-- the result of a reader of whole lists, where `stop` is what ended the list
abbrev pub whole : {V : Type 0} → Option LexFault → Reader V → List Terminal → Result V Fault
whole stop read ts = named stop (finished (read ts))
