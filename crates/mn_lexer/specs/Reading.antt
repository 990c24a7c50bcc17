-- The tokens of a text.
use Rattle.std.specs.Prelude.{◌≡◌, ℕ, ◌+◌, ◌<◌, ◌≤◌, Bool, List, [], ◌∷◌, length, take, drop, Option, Some, None, MatchBool, codes}
use Rattle.std.specs.Str.{bytes_eq}
use Rattle.mn_lexer.specs.Forms.{HasForm, IsLongest, BeginsNoToken}
use Rattle.mn_lexer.specs.Gaps.{gap}
use Rattle.mn_lexer.specs.Numbers.{number_value, IsWithinLimit}
use Rattle.mn_lexer.specs.declared.Token.{Token}
use Rattle.mn_lexer.specs.declared.TokenKind.{TokenKind}
use Rattle.mn_lexer.specs.declared.TokenKind.TheVariants as kind
use Rattle.mn_lexer.specs.declared.LexFault.{LexFault}
use Rattle.mn_lexer.specs.declared.LexFault.TheVariants.{Lex, NumberRange}

-- the bytes of a token
abbrev pub bytes_of : List ℕ → Token → List ℕ
bytes_of text t = take t.len (drop t.at text)

-- the first place from `at` on that has no blank and stands in no comment
abbrev pub next_place : List ℕ → ℕ → ℕ
next_place text at = at + gap (drop at text)

-- a number may stand in a text only where its value is within the limit
abbrev pub IsAllowed : TokenKind → List ℕ → Type 0
IsAllowed kind.Number bs = IsWithinLimit (number_value bs)
IsAllowed _ bs = Unit {0}

-- t is the first token from `at` on: the longest at its place
pub record IsNext (text : List ℕ) (at : ℕ) (t : Token) : Type 0 where
  pub place : t.at ≡ next_place text at
  pub longest : IsLongest (drop t.at text) t.kind t.len
  pub allowed : IsAllowed t.kind (bytes_of text t)

-- the token `**EOF**`
abbrev pub is_end : List ℕ → Token → Bool
is_end text t = bytes_eq (bytes_of text t) (codes "**EOF**")

-- the longest token at the front of bs is a number past the limit
abbrev pub BeginsPastNumber : List ℕ → Type 0
BeginsPastNumber bs = (n : ℕ) × IsLongest bs kind.Number n × (¬ IsWithinLimit (number_value (take n bs)))

-- The list of tokens ends before `at`: with the text, at a byte that begins no token, or at a number past
-- the limit.
abbrev pub Ends : List ℕ → ℕ → Option LexFault → Type 0
Ends text at None = length text ≤ at
Ends text at (Some (Lex place)) = (place ≡ at) × (at < length text) × BeginsNoToken (drop at text)
Ends text at (Some (NumberRange place)) = (place ≡ at) × BeginsPastNumber (drop at text)

-- From `at` on the text is cut into these tokens, up to the first `**EOF**` or to what ends the list.
abbrev pub Cuts : List ℕ → ℕ → List Token → Option LexFault → Type 0
Cuts text at [] stop = Ends text (next_place text at) stop
Cuts text at (t ∷ ts) stop =
    IsNext text at t
    × MatchBool (is_end text t) ((ts ≡ []) × (stop ≡ None)) (Cuts text (t.at + t.len) ts stop)

-- the tokens of the text, and the fault that ends them if one does
abbrev pub IsLexed : List ℕ → List Token → Option LexFault → Type 0
IsLexed text ts stop = Cuts text 0 ts stop

-- a token of the text: its bytes lie there, have the form of its kind, and no value past the limit
pub record IsTokenOf (text : List ℕ) (t : Token) : Type 0 where
  pub in_range : t.at + t.len ≤ length text
  pub form : HasForm t.kind (bytes_of text t)
  pub allowed : IsAllowed t.kind (bytes_of text t)

-- no text has two lists of tokens
abbrev pub OneReading : Type 0
OneReading =
    (text : List ℕ) (ts us : List Token) (p q : Option LexFault)
    → IsLexed text ts p → IsLexed text us q → (ts ≡ us) × (p ≡ q)
