-- What the grammar asks of a single token.
use Rattle.std.specs.Prelude.{◌≡◌, ℕ, ℤ, Bool, true, false, not, ◌==◌, ◌||◌, List, Option, Some, None, if◌then◌else◌, codes}
use Rattle.std.specs.List.{list_any}
use Rattle.std.specs.Ordering.{int_eq}
use Rattle.std.specs.Str.{byte, bytes_eq}
use Rattle.mn_lexer.specs.Terminals.{Terminal, word, number, head, mark}
use Rattle.mn_lexer.specs.declared.marks.Mark.{Mark}
use Rattle.mn_lexer.specs.declared.marks.Mark.TheVariants as marks

-- a word that is a name: it has no `-`, and isn't `_` alone
abbrev pub is_name : List ℕ → Bool
is_name bs = not (list_any (λ b. b == byte "-") bs || bytes_eq bs (codes "_"))

-- the name that the token is, if it is one
abbrev pub name_of : Terminal → Option (List ℕ)
name_of (word bs) = if is_name bs then Some bs else None
name_of _ = None

-- a head, a mark, a number
abbrev pub is_head : Terminal → Bool
is_head (head bs) = true
is_head _ = false

abbrev pub is_mark : Terminal → Bool
is_mark (mark m) = true
is_mark _ = false

abbrev pub is_number : Terminal → Bool
is_number (number n) = true
is_number _ = false

-- a head that the grammar has
abbrev pub is_known_head : Terminal → Bool
is_known_head (head bs) =
    bytes_eq bs (codes "**VARIABLES**") || bytes_eq bs (codes "**TUPLELIST**") || bytes_eq bs (codes "**SEARCH**")
    || bytes_eq bs (codes "**CONSTRAINTS**") || bytes_eq bs (codes "**EOF**")
is_known_head _ = false

-- a number for each mark
abbrev pub mark_number : Mark → ℕ
mark_number marks.OpenSquare = 0
mark_number marks.CloseSquare = 1
mark_number marks.OpenCurly = 2
mark_number marks.CloseCurly = 3
mark_number marks.OpenRound = 4
mark_number marks.CloseRound = 5
mark_number marks.Less = 6
mark_number marks.Greater = 7
mark_number marks.Comma = 8
mark_number marks.Equals = 9
mark_number marks.Bang = 10
mark_number marks.Dots = 11

-- the token is this mark
abbrev pub is_the_mark : Mark → Terminal → Bool
is_the_mark m (mark n) = mark_number n == mark_number m
is_the_mark m _ = false

-- the number that the token is, if it is one
abbrev pub number_of : Terminal → Option ℤ
number_of (number n) = Some n
number_of _ = None

-- the token is the word of these bytes
abbrev pub is_the_word : List ℕ → Terminal → Bool
is_the_word bs (word w) = bytes_eq w bs
is_the_word bs _ = false

-- the token is the head of these bytes
abbrev pub is_the_head : List ℕ → Terminal → Bool
is_the_head bs (head h) = bytes_eq h bs
is_the_head bs _ = false

-- two tokens are one
abbrev pub same_token : Terminal → Terminal → Bool
same_token (word a) (word b) = bytes_eq a b
same_token (number a) (number b) = int_eq a b
same_token (head a) (head b) = bytes_eq a b
same_token (mark a) (mark b) = mark_number a == mark_number b
same_token _ _ = false

-- a name, by its bytes. The empty word counts here, and so do bytes that no word has; no lexer gives such a token, and a
-- list of tokens that is passed to a reader comes from one.
pub record Name : Type 0 where
  pub bytes : List ℕ
  pub lawful : is_name bytes ≡ true
