-- What the first byte of a token tells.
use Rattle.std.specs.Prelude.{ℕ, Bool, not, is_none, ◌==◌, ◌||◌, ◌&&◌, Option, Some, None, if◌then◌else◌}
use Rattle.std.specs.Char.{is_ascii_digit}
use Rattle.std.specs.Str.{byte}
use Rattle.mn_lexer.specs.Bytes.{is_blank, begins_comment, is_word_start}
use Rattle.mn_lexer.specs.declared.TokenKind.{TokenKind}
use Rattle.mn_lexer.specs.declared.TokenKind.TheVariants as kind
use Rattle.mn_lexer.specs.declared.classes.Class.{Class}
use Rattle.mn_lexer.specs.declared.classes.Class.TheVariants as class

-- a mark of one byte
abbrev pub is_single_mark : ℕ → Bool
is_single_mark b =
    b == byte "[" || b == byte "]" || b == byte "{" || b == byte "}" || b == byte "("
    || b == byte ")" || b == byte "<" || b == byte ">" || b == byte "," || b == byte "=" || b == byte "!"

-- the kind of the tokens that begin with this byte, if any do
abbrev pub kind_of_first : ℕ → Option TokenKind
kind_of_first b =
    if is_word_start b then Some kind.Word
    else (if is_ascii_digit b || b == byte "-" then Some kind.Number
    else (if b == byte "*" then Some kind.Head
    else (if is_single_mark b || b == byte "." then Some kind.Mark
    else None)))

-- the byte is of this class
abbrev pub is_of_class : Class → ℕ → Bool
is_of_class class.Blank b = is_blank b
is_of_class class.Hash b = begins_comment b
is_of_class class.Letter b = is_word_start b
is_of_class class.Digit b = is_ascii_digit b
is_of_class class.Minus b = b == byte "-"
is_of_class class.Star b = b == byte "*"
is_of_class class.Mark b = is_single_mark b
is_of_class class.Dot b = b == byte "."
is_of_class class.Other b = is_none (kind_of_first b) && not (is_blank b || begins_comment b)
