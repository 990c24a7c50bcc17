-- Which tokens words, numbers, marks and heads say.
use Rattle.std.proofs.Common.{◌≡◌, ℕ, ℤ, Bool, true, false, eqb, List, [], ◌∷◌, refl, sym, ap, subst, codes, ⊎_elim}
use Rattle.std.specs.Fmt.{signed_decimal}
use Rattle.std.specs.Str.{bytes_eq}
use Rattle.std.proofs.lemmas.Bool.{cases_Bool, eqb-true}
use Rattle.mn_lexer.specs.FirstBytes.{kind_of_first}
use Rattle.mn_lexer.specs.Forms.{HasForm, IsWord}
use Rattle.mn_lexer.specs.Marks.{mark_text}
use Rattle.mn_lexer.specs.Numbers.{IsWithinLimit}
use Rattle.mn_lexer.specs.Terminals.{word, number, mark}
use Rattle.mn_lexer.specs.declared.marks.Mark.{Mark}
use Rattle.mn_lexer.specs.declared.marks.Mark.TheVariants as marks
use Rattle.mn_lexer.specs.declared.TokenKind.{TokenKind}
use Rattle.mn_lexer.specs.declared.TokenKind.TheVariants as kind
use Rattle.mn_lexer.proofs.Firsts.{nonempty, kind_of_first-form}
use Rattle.mn_pieces.specs.Printed.{NumbersAreRead}
use Rattle.mn_canonical.proofs.Saying.{Says, says_token, says_blanks}

-- no word, number or mark is the head that ends a text
no_end : (k : TokenKind) (bytes : List ℕ) → HasForm k bytes → (k ≡ kind.Head → ⊥) → bytes_eq bytes (codes "**EOF**") ≡ false
no_end k [] form other = absurd (nonempty k form)
no_end k (b ∷ bs) form other = ⊎_elim
    (λ star. absurd (other (let first = kind_of_first-form k b bs form in let begins = ap kind_of_first (eqb-true b 42 star) in cc)))
    (λ star. rw star refl)
    (cases_Bool (eqb b 42))

pub says_word : (bytes : List ℕ) → IsWord bytes → Says false bytes (word bytes ∷ []) true
says_word bytes form = says_token kind.Word bytes form tt (no_end kind.Word bytes form (λ e. absurd cc))

pub says_number : NumbersAreRead → (z : ℤ) → IsWithinLimit z → Says false (signed_decimal z) (number z ∷ []) true
says_number read z few =
    let again = read z few in
    subst (λ n. Says false (signed_decimal z) (number n ∷ []) true) again.value
    (says_token kind.Number (signed_decimal z) again.form (subst IsWithinLimit (sym again.value) few) (no_end kind.Number (signed_decimal z) again.form (λ e. absurd cc)))

-- each mark is the one that is written so
pub says_mark : (m : Mark) → Says true (mark_text m) (mark m ∷ []) false
says_mark marks.OpenSquare = says_token kind.Mark (codes "[") (marks.OpenSquare, refl) tt refl
says_mark marks.CloseSquare = says_token kind.Mark (codes "]") (marks.CloseSquare, refl) tt refl
says_mark marks.OpenCurly = says_token kind.Mark (codes "{") (marks.OpenCurly, refl) tt refl
says_mark marks.CloseCurly = says_token kind.Mark (codes "}") (marks.CloseCurly, refl) tt refl
says_mark marks.OpenRound = says_token kind.Mark (codes "(") (marks.OpenRound, refl) tt refl
says_mark marks.CloseRound = says_token kind.Mark (codes ")") (marks.CloseRound, refl) tt refl
says_mark marks.Less = says_token kind.Mark (codes "<") (marks.Less, refl) tt refl
says_mark marks.Greater = says_token kind.Mark (codes ">") (marks.Greater, refl) tt refl
says_mark marks.Comma = says_token kind.Mark (codes ",") (marks.Comma, refl) tt refl
says_mark marks.Equals = says_token kind.Mark (codes "=") (marks.Equals, refl) tt refl
says_mark marks.Bang = says_token kind.Mark (codes "!") (marks.Bang, refl) tt refl
says_mark marks.Dots = says_token kind.Mark (codes "..") (marks.Dots, refl) tt refl

-- a space, and the end of a line
pub says_space : {a : Bool} → Says a (codes " ") [] false
says_space = says_blanks 32 [] refl

pub says_line : {a : Bool} → Says a (codes "\n") [] false
says_line = says_blanks 10 [] refl
