-- What the lexer finds from a place on.
use Rattle.std.specs.Prelude.{ℕ, List}
use Rattle.mn_lexer.specs.Reading.{IsNext, Ends, next_place}
use Rattle.mn_lexer.specs.declared.Next.{Next}
use Rattle.mn_lexer.specs.declared.Next.TheVariants as next

-- the next token, or what ends the list
abbrev pub IsNextFrom : List ℕ → ℕ → Next → Type 0
IsNextFrom text from (next.Token t) = IsNext text from t
IsNextFrom text from (next.Stop stop) = Ends text (next_place text from) stop
