-- The marks, and how each is written.
use Rattle.std.specs.Prelude.{ℕ, List, [], ◌∷◌, codes, unwrap_or, find}
use Rattle.std.specs.Str.{bytes_eq}
use Rattle.mn_lexer.specs.declared.marks.Mark.{Mark}
use Rattle.mn_lexer.specs.declared.marks.Mark.TheVariants.{OpenSquare, CloseSquare, OpenCurly, CloseCurly, OpenRound, CloseRound, Less, Greater, Comma, Equals, Bang, Dots}

abbrev pub mark_text : Mark → List ℕ
mark_text OpenSquare = codes "["
mark_text CloseSquare = codes "]"
mark_text OpenCurly = codes "{"
mark_text CloseCurly = codes "}"
mark_text OpenRound = codes "("
mark_text CloseRound = codes ")"
mark_text Less = codes "<"
mark_text Greater = codes ">"
mark_text Comma = codes ","
mark_text Equals = codes "="
mark_text Bang = codes "!"
mark_text Dots = codes ".."

abbrev pub all_marks : List Mark
all_marks =
    OpenSquare ∷ CloseSquare ∷ OpenCurly ∷ CloseCurly ∷ OpenRound ∷ CloseRound
    ∷ Less ∷ Greater ∷ Comma ∷ Equals ∷ Bang ∷ Dots ∷ []

-- the mark that is written so. Bytes that write none give `!`: nothing asks for those.
abbrev pub mark_of : List ℕ → Mark
mark_of bs = unwrap_or (find (λ m. bytes_eq bs (mark_text m)) all_marks) Bang
