-- The bytes that tokens are made of, and those that stand between them.
use Rattle.std.specs.Prelude.{ℕ, Bool, ◌==◌, ◌||◌}
use Rattle.std.specs.Char.{is_ascii_alphabetic, is_ascii_digit}
use Rattle.std.specs.Str.{byte}

-- a tab, a line feed, a carriage return or a space
abbrev pub is_blank : ℕ → Bool
is_blank b = b == 9 || b == 10 || b == 13 || b == 32

-- the end of a line, and so of a comment
abbrev pub is_line_feed : ℕ → Bool
is_line_feed b = b == 10

-- `#` begins a comment
abbrev pub begins_comment : ℕ → Bool
begins_comment b = b == byte "#"

-- a word begins with an ASCII letter or `_`
abbrev pub is_word_start : ℕ → Bool
is_word_start b = is_ascii_alphabetic b || b == byte "_"

-- a word goes on with ASCII letters, digits, `_` and `-`
abbrev pub is_word_byte : ℕ → Bool
is_word_byte b = is_word_start b || is_ascii_digit b || b == byte "-"
