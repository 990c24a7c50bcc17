-- Pieces with a blank or a mark between them keep apart.
use Rattle.std.proofs.Common.{◌≡◌, ◌⊎◌, ℕ, true, false, ◌||◌, List, [], ◌∷◌, ◌++◌, refl, sym, ap, subst, ⊎_elim, arith}
use Rattle.std.specs.Char.{is_ascii_digit}
use Rattle.std.specs.List.{list_all}
use Rattle.std.proofs.lemmas.Bool.{and_parts, or_cases}
use Rattle.std.proofs.lemmas.Bool.Decides.{nat_tests}
use Rattle.mn_lexer.specs.Bytes.{is_blank, is_word_byte}
use Rattle.mn_lexer.specs.Forms.{HasForm}
use Rattle.mn_lexer.specs.Marks.{mark_text}
use Rattle.mn_lexer.specs.declared.marks.Mark.{Mark}
use Rattle.mn_lexer.specs.declared.marks.Mark.TheVariants as marks
use Rattle.mn_lexer.specs.declared.TokenKind.{TokenKind}
use Rattle.mn_lexer.specs.declared.TokenKind.TheVariants as kind
use Rattle.mn_pieces.specs.Pieces.{Piece, written, goes_on, ends_itself, begins_apart, IsPiece, AreSpaced, AreApart, SpacedPiecesAreTokens}
use Rattle.mn_pieces.proofs.Cutting.{pieces_are_tokens_of}

-- a byte that goes on with no token
record GoesNowhere (b : ℕ) : Type 0 where
  word : is_word_byte b ≡ false
  digit : is_ascii_digit b ≡ false

blank_goes_nowhere : (b : ℕ) → is_blank b ≡ true → GoesNowhere b
blank_goes_nowhere b blank = record { word = grind (arith, nat_tests); digit = grind (arith, nat_tests) }

stops_at : (k : TokenKind) (b : ℕ) (bs : List ℕ) → GoesNowhere b → goes_on k (b ∷ bs) ≡ false
stops_at kind.Word b bs nowhere = nowhere.word
stops_at kind.Number b bs nowhere = nowhere.digit
stops_at kind.Head b bs nowhere = refl
stops_at kind.Mark b bs nowhere = refl

by_itself : (k : TokenKind) (bs : List ℕ) → ends_itself k ≡ true → goes_on k bs ≡ false
by_itself kind.Word bs ends = absurd cc
by_itself kind.Number bs ends = absurd cc
by_itself kind.Head bs ends = refl
by_itself kind.Mark bs ends = refl

mark_stops : (k : TokenKind) (m : Mark) (bs : List ℕ) → goes_on k (mark_text m ++ bs) ≡ false
mark_stops k marks.OpenSquare bs = stops_at k 91 bs (record { word = refl; digit = refl })
mark_stops k marks.CloseSquare bs = stops_at k 93 bs (record { word = refl; digit = refl })
mark_stops k marks.OpenCurly bs = stops_at k 123 bs (record { word = refl; digit = refl })
mark_stops k marks.CloseCurly bs = stops_at k 125 bs (record { word = refl; digit = refl })
mark_stops k marks.OpenRound bs = stops_at k 40 bs (record { word = refl; digit = refl })
mark_stops k marks.CloseRound bs = stops_at k 41 bs (record { word = refl; digit = refl })
mark_stops k marks.Less bs = stops_at k 60 bs (record { word = refl; digit = refl })
mark_stops k marks.Greater bs = stops_at k 62 bs (record { word = refl; digit = refl })
mark_stops k marks.Comma bs = stops_at k 44 bs (record { word = refl; digit = refl })
mark_stops k marks.Equals bs = stops_at k 61 bs (record { word = refl; digit = refl })
mark_stops k marks.Bang bs = stops_at k 33 bs (record { word = refl; digit = refl })
mark_stops k marks.Dots bs = stops_at k 46 (46 ∷ bs) (record { word = refl; digit = refl })

-- bytes of a kind that ends by itself
kind_stops : (k l : TokenKind) (bytes bs : List ℕ) → ends_itself l ≡ true → HasForm l bytes → goes_on k (bytes ++ bs) ≡ false
kind_stops k kind.Word bytes bs ends form = absurd cc
kind_stops k kind.Number bytes bs ends form = absurd cc
kind_stops k kind.Head bytes bs ends (name, some, e) = subst (λ xs. goes_on k (xs ++ bs) ≡ false) (sym e) (stops_at k 42 _ (record { word = refl; digit = refl }))
kind_stops k kind.Mark bytes bs ends (m, e) = subst (λ xs. goes_on k (xs ++ bs) ≡ false) (sym e) (mark_stops k m bs)

begins_so : (k : TokenKind) (blanks bytes bs : List ℕ) (l : TokenKind) → list_all is_blank blanks ≡ true → HasForm l bytes → begins_apart (record { blanks = blanks; kind = l; bytes = bytes }) ≡ true
    → goes_on k (blanks ++ (bytes ++ bs)) ≡ false
begins_so k [] bytes bs l blank form apart = kind_stops k l bytes bs apart form
begins_so k (b ∷ blanks) bytes bs l blank form apart = stops_at k b (blanks ++ (bytes ++ bs)) (blank_goes_nowhere b (and_parts (is_blank b) _ blank).0)

neighbours : (p q : Piece) (bs : List ℕ) → (ends_itself p.kind || begins_apart q) ≡ true → IsPiece q → goes_on p.kind (q.blanks ++ (q.bytes ++ bs)) ≡ false
neighbours p q bs part piece =
    ⊎_elim (λ ends. by_itself p.kind _ ends) (λ apart. begins_so p.kind q.blanks q.bytes bs q.kind piece.blank piece.form apart) (or_cases _ _ part)

first_piece : (q : Piece) (ps : List Piece) → AreSpaced (q ∷ ps) → IsPiece q
first_piece q [] spaced = spaced.0
first_piece q (r ∷ ps) spaced = spaced.0

pub keep_apart : (ps : List Piece) (behind : List ℕ) → AreSpaced ps → AreApart ps behind
keep_apart [] behind spaced = spaced
keep_apart (p ∷ []) behind spaced =
    (record { blank = spaced.0.blank; form = spaced.0.form; allowed = spaced.0.allowed; stops = ap (λ (k : TokenKind). goes_on k behind) spaced.1 }, spaced.2)
keep_apart (p ∷ q ∷ ps) behind spaced = (
  record { blank = spaced.0.blank; form = spaced.0.form; allowed = spaced.0.allowed; stops = neighbours p q (written ps behind) spaced.2 (first_piece q ps spaced.3) },
  spaced.1,
  keep_apart (q ∷ ps) behind spaced.3,
)

pub spaced_pieces_are_tokens_of : SpacedPiecesAreTokens
spaced_pieces_are_tokens_of ps behind spaced = pieces_are_tokens_of ps behind (keep_apart ps behind spaced)
