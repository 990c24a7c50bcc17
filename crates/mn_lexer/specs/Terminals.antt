-- Tokens as the grammar sees them.
use Rattle.std.specs.Prelude.{ℕ, List, ℤ}
use Rattle.mn_lexer.specs.Marks.{mark_of}
use Rattle.mn_lexer.specs.Numbers.{number_value}
use Rattle.mn_lexer.specs.Reading.{bytes_of}
use Rattle.mn_lexer.specs.declared.marks.Mark.{Mark}
use Rattle.mn_lexer.specs.declared.Token.{Token}
use Rattle.mn_lexer.specs.declared.TokenKind.{TokenKind}
use Rattle.mn_lexer.specs.declared.TokenKind.TheVariants as kind

-- a word and a head by their bytes, a number by its value, a mark by its name
pub data Terminal : Type 0 where
  word : List ℕ → Terminal
  number : ℤ → Terminal
  head : List ℕ → Terminal
  mark : Mark → Terminal

-- what bytes of this kind stand for
abbrev pub terminal : TokenKind → List ℕ → Terminal
terminal kind.Word bs = word bs
terminal kind.Number bs = number (number_value bs)
terminal kind.Head bs = head bs
terminal kind.Mark bs = mark (mark_of bs)

-- what a token of the text stands for
abbrev pub token_of : List ℕ → Token → Terminal
token_of text t = terminal t.kind (bytes_of text t)
