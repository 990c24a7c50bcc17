-- The four kinds of token by their form, and the longest token at a place.
use Rattle.std.specs.Prelude.{◌≡◌, ℕ, Bool, ◌<◌, ◌≤◌, List, [], ◌∷◌, ◌++◌, length, take, IsTrue, codes}
use Rattle.std.specs.List.{list_all}
use Rattle.std.specs.Char.{is_ascii_digit, is_ascii_uppercase}
use Rattle.mn_lexer.specs.Bytes.{is_word_start, is_word_byte}
use Rattle.mn_lexer.specs.Marks.{mark_text}
use Rattle.mn_lexer.specs.Numbers.{without_sign}
use Rattle.mn_lexer.specs.declared.marks.Mark.{Mark}
use Rattle.mn_lexer.specs.declared.TokenKind.{TokenKind}
use Rattle.mn_lexer.specs.declared.TokenKind.TheVariants as kind

-- a letter or `_`, then letters, digits, `_` and `-`
abbrev pub IsWord : List ℕ → Type 0
IsWord [] = ⊥
IsWord (b ∷ bs) = IsTrue (is_word_start b) × IsTrue (list_all is_word_byte bs)

-- one or more bytes, each of which passes the test
abbrev pub OneOrMore : (ℕ → Bool) → List ℕ → Type 0
OneOrMore p bs = (0 < length bs) × IsTrue (list_all p bs)

-- an optional `-`, then one or more decimal digits
abbrev pub IsNumber : List ℕ → Type 0
IsNumber bs = OneOrMore is_ascii_digit (without_sign bs)

-- `**`, a name of one or more capital letters, `**`
abbrev pub IsHead : List ℕ → Type 0
IsHead bs = (name : List ℕ) × OneOrMore is_ascii_uppercase name × (bs ≡ codes "**" ++ name ++ codes "**")

-- one of the marks, as it is written
abbrev pub IsMark : List ℕ → Type 0
IsMark bs = (m : Mark) × (bs ≡ mark_text m)

-- these bytes have the form of a token of this kind
abbrev pub HasForm : TokenKind → List ℕ → Type 0
HasForm kind.Word bs = IsWord bs
HasForm kind.Number bs = IsNumber bs
HasForm kind.Head bs = IsHead bs
HasForm kind.Mark bs = IsMark bs

-- the first n bytes of bs are a token of this kind, and no longer front of bs is a token
pub record IsLongest (bs : List ℕ) (k : TokenKind) (n : ℕ) : Type 0 where
  pub in_range : n ≤ length bs
  pub form : HasForm k (take n bs)
  pub longest : (m : ℕ) (other : TokenKind) → n < m → m ≤ length bs → HasForm other (take m bs) → ⊥

-- no front of bs is a token
abbrev pub BeginsNoToken : List ℕ → Type 0
BeginsNoToken bs = (n : ℕ) (k : TokenKind) → HasForm k (take n bs) → ⊥
