-- Texts that are written piece by piece: each piece is a token with blanks before it.
use Rattle.std.specs.Prelude.{◌≡◌, ℕ, ◌+◌, Bool, true, false, ◌||◌, List, [], ◌∷◌, ◌++◌, length, map, None, codes}
use Rattle.std.specs.Char.{is_ascii_digit}
use Rattle.std.specs.List.{list_all}
use Rattle.std.specs.Str.{bytes_eq}
use Rattle.mn_lexer.specs.Bytes.{is_blank, is_word_byte}
use Rattle.mn_lexer.specs.Forms.{HasForm}
use Rattle.mn_lexer.specs.Reading.{IsAllowed, IsLexed}
use Rattle.mn_lexer.specs.Terminals.{terminal, token_of}
use Rattle.mn_lexer.specs.declared.Token.{Token}
use Rattle.mn_lexer.specs.declared.TokenKind.{TokenKind}
use Rattle.mn_lexer.specs.declared.TokenKind.TheVariants as kind

pub record Piece : Type 0 where
  pub blanks : List ℕ
  pub kind : TokenKind
  pub bytes : List ℕ

-- the pieces in front of what follows
abbrev pub written : List Piece → List ℕ → List ℕ
written [] behind = behind
written (p ∷ ps) behind = p.blanks ++ (p.bytes ++ written ps behind)

-- the first of the bytes passes the test
abbrev pub starts : (ℕ → Bool) → List ℕ → Bool
starts p [] = false
starts p (b ∷ bs) = p b

-- the bytes behind a token go on with it: a word goes on with its bytes, a number with digits
abbrev pub goes_on : TokenKind → List ℕ → Bool
goes_on kind.Word bs = starts is_word_byte bs
goes_on kind.Number bs = starts is_ascii_digit bs
goes_on kind.Head bs = false
goes_on kind.Mark bs = false

-- a piece in front of these bytes has the form of its kind, a value within the limit if it is a number, and ends there
pub record IsApart (p : Piece) (behind : List ℕ) : Type 0 where
  pub blank : list_all is_blank p.blanks ≡ true
  pub form : HasForm p.kind p.bytes
  pub allowed : IsAllowed p.kind p.bytes
  pub stops : goes_on p.kind behind ≡ false

-- so does each, and the last one and no other is the head that ends a text
abbrev pub AreApart : List Piece → List ℕ → Type 0
AreApart [] behind = ⊥
AreApart (p ∷ []) behind = IsApart p behind × (bytes_eq p.bytes (codes "**EOF**") ≡ true)
AreApart (p ∷ q ∷ ps) behind = IsApart p (written (q ∷ ps) behind) × (bytes_eq p.bytes (codes "**EOF**") ≡ false) × AreApart (q ∷ ps) behind

-- the tokens that the pieces are, from a place on
abbrev pub tokens_from : ℕ → List Piece → List Token
tokens_from at [] = []
tokens_from at (p ∷ ps) =
    record { kind = p.kind; at = at + length p.blanks; len = length p.bytes } ∷ tokens_from (at + length p.blanks + length p.bytes) ps

-- pieces that keep apart are the tokens of their text, and stand for what their bytes stand for
abbrev pub PiecesAreTokens : Type 0
PiecesAreTokens =
    (ps : List Piece) (behind : List ℕ) → AreApart ps behind
    → IsLexed (written ps behind) (tokens_from 0 ps) None × (map (token_of (written ps behind)) (tokens_from 0 ps) ≡ map (λ p. terminal p.kind p.bytes) ps)

-- a head and a mark end by themselves
abbrev pub ends_itself : TokenKind → Bool
ends_itself kind.Word = false
ends_itself kind.Number = false
ends_itself kind.Head = true
ends_itself kind.Mark = true

abbrev pub has_any : List ℕ → Bool
has_any [] = false
has_any (b ∷ bs) = true

-- nothing goes on with blanks, with a head or with a mark
abbrev pub begins_apart : Piece → Bool
begins_apart p = has_any p.blanks || ends_itself p.kind

-- a piece by itself
pub record IsPiece (p : Piece) : Type 0 where
  pub blank : list_all is_blank p.blanks ≡ true
  pub form : HasForm p.kind p.bytes
  pub allowed : IsAllowed p.kind p.bytes

-- Pieces with a blank, a head or a mark between any two words or numbers, of which the last and no other is the head that
-- ends a text
abbrev pub AreSpaced : List Piece → Type 0
AreSpaced [] = ⊥
AreSpaced (p ∷ []) = IsPiece p × (p.kind ≡ kind.Head) × (bytes_eq p.bytes (codes "**EOF**") ≡ true)
AreSpaced (p ∷ q ∷ ps) = IsPiece p × (bytes_eq p.bytes (codes "**EOF**") ≡ false) × ((ends_itself p.kind || begins_apart q) ≡ true) × AreSpaced (q ∷ ps)

-- such pieces keep apart, so they are the tokens of their text
abbrev pub SpacedPiecesAreTokens : Type 0
SpacedPiecesAreTokens =
    (ps : List Piece) (behind : List ℕ) → AreSpaced ps
    → IsLexed (written ps behind) (tokens_from 0 ps) None × (map (token_of (written ps behind)) (tokens_from 0 ps) ≡ map (λ p. terminal p.kind p.bytes) ps)
