-- How far a text is read: what contracts see of a cursor.
use Rattle.std.specs.Prelude.{◌≡◌, ℕ, ◌-◌, ◌≤◌, false, All, List, [], ◌∷◌, length, drop, map, Option, Some, None, Err}
use Rattle.mn_lexer.specs.Terminals.{Terminal, token_of}
use Rattle.mn_lexer.specs.Reading.{IsTokenOf}
use Rattle.mn_lexer.specs.declared.TheConstants.{TEXT_LIMIT}
use Rattle.mn_lexer.specs.declared.Token.{Token}
use Rattle.mn_lexer.specs.declared.LexFault.{LexFault}
use Rattle.mn_lexer.specs.declared.LexFault.TheVariants as ending
use Rattle.mn_grammar.specs.Reading.{Answer, renamed}
use Rattle.mn_grammar.specs.declared.Fault.{Fault}
use Rattle.mn_grammar.specs.declared.Kind.{Kind}
use Rattle.mn_grammar.specs.declared.Kind.TheVariants as kinds
use Rattle.mn_grammar.specs.declared.Limit.{Limit}
use Rattle.mn_grammar.specs.declared.Limit.TheVariants as limits
use Rattle.mn_grammar.specs.declared.Stop.{Stop}
use Rattle.mn_grammar.specs.declared.Stop.TheVariants as stops
use Rattle.mn_cursor.specs.declared.asked.Asked.{Asked}
use Rattle.mn_model.specs.Problem.{Problem}
use Rattle.mn_model.specs.declared.refusal.Refusal.{Refusal}
use Rattle.mn_model.specs.declared.refusal.Refusal.TheVariants as refusals
use Rattle.mn_model.specs.declared.refusal.Which.{Which}
use Rattle.mn_model.specs.declared.refusal.Which.TheVariants as which

-- none of the items on how to search
abbrev pub nothing_asked : Asked
nothing_asked = record { order = false; values = false; goal = false; print = false }

-- a text with its tokens, what ended them, how many of them are left, what is declared and asked so far, and which items
-- on how to search it has had
pub record Progress : Type 0 where
  pub text : List ℕ
  pub tokens : List Token
  pub stop : Option LexFault
  pub left : ℕ
  pub problem : Problem
  pub asked : Asked

-- what a cursor keeps: the tokens are those of a text within the limit, and no more are left than there are
pub record IsProgress (c : Progress) : Type 0 where
  pub size : length c.text ≤ TEXT_LIMIT
  pub each : All (IsTokenOf c.text) c.tokens
  pub within : c.left ≤ length c.tokens

-- the last n of the tokens
abbrev pub last_tokens : Progress → ℕ → List Token
last_tokens c n = drop (length c.tokens - n) c.tokens

-- the tokens that are left
abbrev pub tokens_left : Progress → List Token
tokens_left c = last_tokens c c.left

-- the same, as the grammar sees them
unfoldable pub rest : Progress → List Terminal
rest c = map (token_of c.text) (tokens_left c)

-- only tokens were read from the one to the other: the text and the problem are the same
abbrev pub Moves : Progress → Progress → Type 0
Moves old new = new ≡ record old { left = new.left }

-- tokens were read and declarations added: the text is the same
abbrev pub GoesOn : Progress → Progress → Type 0
GoesOn old new = new ≡ record old { left = new.left; problem = new.problem }

-- whatever else was read or said: the text, its tokens and what ended them are the same
pub record SameText (old new : Progress) : Type 0 where
  pub text : new.text ≡ old.text
  pub tokens : new.tokens ≡ old.tokens
  pub stop : new.stop ≡ old.stop

-- the byte where the tokens end: that of the lexical fault that ended them, or the text's length
abbrev pub end_of : List ℕ → Option LexFault → ℕ
end_of text None = length text
end_of text (Some (ending.Lex at)) = at
end_of text (Some (ending.NumberRange at)) = at

-- the byte of the first of these tokens, or where they end
abbrev pub byte_at : List Token → ℕ → ℕ
byte_at [] end = end
byte_at (t ∷ ts) end = t.at

-- the byte at which so many tokens are left
abbrev pub byte_of : Progress → ℕ → ℕ
byte_of c n = byte_at (last_tokens c n) (end_of c.text c.stop)

-- the limits by their names for the outside
abbrev pub which_of_limit : Limit → Which
which_of_limit limits.Variables = which.Variables
which_of_limit limits.Constraints = which.Constraints
which_of_limit limits.Cells = which.Cells
which_of_limit limits.Nesting = which.Nesting
which_of_limit limits.Span = which.Span
which_of_limit limits.Vector = which.Vector

-- the refusal of a kind at a byte; what may stand once is unsupported where it stands again
abbrev pub refusal_at : Kind → ℕ → Refusal
refusal_at kinds.Lex at = refusals.Lex at
refusal_at kinds.NumberRange at = refusals.NumberRange at
refusal_at kinds.Unsupported at = refusals.Unsupported at
refusal_at kinds.Syntax at = refusals.Syntax at
refusal_at kinds.Again at = refusals.Unsupported at
refusal_at kinds.Name at = refusals.Name at
refusal_at kinds.EmptyDomain at = refusals.EmptyDomain at
refusal_at (kinds.Limit l) at = refusals.Limit (which_of_limit l) at
refusal_at kinds.Shape at = refusals.Shape at

-- what a refused text is told: the kind, which at the end of the tokens is that of what ended them, and the byte
abbrev pub refusal_of : Progress → Fault → Refusal
refusal_of c e = refusal_at (renamed c.stop e).kind (byte_of c e.left)

-- what stopped the reading, as the outside is told
abbrev pub refusal_by : Progress → Stop → Refusal
refusal_by c (stops.Refused e) = refusal_of c e
refusal_by c stops.NoMemory = refusals.NoMemory

-- A refusal is that of the fault which a reader answers, or want of memory, which says nothing.
abbrev pub IsTold : {V : Type 0} → Progress → Refusal → Answer V → Type 0
IsTold c refusals.NoMemory answer = Unit {0}
IsTold c r answer = (e : Fault) × (answer ≡ Err e) × (refusal_of c e ≡ r)
