-- The longest token at the front is the piece that stands there.
use Rattle.std.proofs.Common.{◌≡◌, ℕ, ◌+◌, ◌≤◌, Bool, true, false, eqb, List, [], ◌∷◌, ◌++◌, length, take, refl, sym, subst, ⊎_elim, arith, length-append}
use Rattle.std.specs.Char.{is_ascii_digit}
use Rattle.std.specs.List.{list_all, prefix_len}
use Rattle.std.proofs.Math.Seq.{take-append_seam}
use Rattle.std.proofs.lemmas.Bool.{cases_Bool, and_parts, and_from, or_left, eqb-true}
use Rattle.std.proofs.lemmas.List.{length-take-le}
use Rattle.mn_lexer.specs.Bytes.{is_blank, begins_comment, is_word_byte}
use Rattle.mn_lexer.specs.Forms.{HasForm, IsLongest}
use Rattle.mn_lexer.specs.Gaps.{gap}
use Rattle.mn_lexer.specs.Marks.{mark_text}
use Rattle.mn_lexer.specs.declared.marks.Mark.{Mark}
use Rattle.mn_lexer.specs.declared.marks.Mark.TheVariants as marks
use Rattle.mn_lexer.specs.declared.TokenKind.{TokenKind}
use Rattle.mn_lexer.specs.declared.TokenKind.TheVariants as kind
use Rattle.mn_lexer.proofs.Firsts.{nonempty, kind_of_first-form, longest_of_kind, blank_first, comment_first}
use Rattle.mn_lexer.proofs.Heads.{begins_head}
use Rattle.mn_lexer.proofs.Markings.{longest_single, longest_dots}
use Rattle.mn_lexer.proofs.Words.{longest_word, longest_signed, longest_plain}
use Rattle.mn_pieces.specs.Pieces.{starts, goes_on}

-- a run of bytes that pass ends before one that doesn't
run_stops : (p : ℕ → Bool) (xs behind : List ℕ) → list_all p xs ≡ true → starts p behind ≡ false → prefix_len p (xs ++ behind) ≡ length xs
run_stops p [] [] all stops = refl
run_stops p [] (y ∷ ys) all stops = rw stops refl
run_stops p (x ∷ xs) behind all stops =
    let parts = and_parts (p x) _ all in
    rw parts.0 (let more = run_stops p xs behind parts.1 stops in omega arith)

longest_word_piece : (bytes behind : List ℕ) → HasForm kind.Word bytes → starts is_word_byte behind ≡ false → IsLongest (bytes ++ behind) kind.Word (length bytes)
longest_word_piece [] behind form stops = absurd form
longest_word_piece (b ∷ bs) behind form stops =
    let passes : is_word_byte b ≡ true = or_left _ _ (or_left _ _ form.0) in
    let run = run_stops is_word_byte (b ∷ bs) behind (and_from (is_word_byte b) _ passes form.1) stops in
    subst (λ n. IsLongest (b ∷ (bs ++ behind)) kind.Word n) run (longest_word (b ∷ (bs ++ behind)) form.0)

longest_number_piece : (bytes behind : List ℕ) → HasForm kind.Number bytes → starts is_ascii_digit behind ≡ false → IsLongest (bytes ++ behind) kind.Number (length bytes)
longest_number_piece [] behind form stops = absurd (nonempty kind.Number form)
longest_number_piece (b ∷ bs) behind form stops =
    ⊎_elim
    (λ minus.
    let digits = rw minus at form in
    let run = run_stops is_ascii_digit bs behind digits.1 stops in
    let count : 1 + prefix_len is_ascii_digit (bs ++ behind) ≡ length (b ∷ bs) = omega arith in
    subst (λ n. IsLongest (b ∷ (bs ++ behind)) kind.Number n) count (longest_signed (b ∷ (bs ++ behind)) (eqb-true b 45 minus) (omega (arith, run, digits.0))))
    (λ plain.
    let digits = rw plain at form in
    let run = run_stops is_ascii_digit (b ∷ bs) behind digits.1 stops in
    subst (λ n. IsLongest (b ∷ (bs ++ behind)) kind.Number n) run (longest_plain (b ∷ (bs ++ behind)) (and_parts (is_ascii_digit b) _ digits.1).0))
    (cases_Bool (eqb b 45))

longest_head_piece : (bytes behind : List ℕ) → HasForm kind.Head bytes → IsLongest (bytes ++ behind) kind.Head (length bytes)
longest_head_piece bytes behind form =
    let front : take (length bytes) (bytes ++ behind) ≡ bytes = take-append_seam bytes behind in
    let here : HasForm kind.Head (take (length bytes) (bytes ++ behind)) = subst (λ bs. HasForm kind.Head bs) (sym front) form in
    let fits : length bytes ≤ length (bytes ++ behind) = omega (arith, length-append bytes behind) in
    longest_of_kind (bytes ++ behind) kind.Head (length bytes) fits here (λ m within other.
    let one = begins_head (bytes ++ behind) (length bytes) here in
    let two = begins_head (bytes ++ behind) m other in
    omega (arith, one.size, two.size, length-take-le m (bytes ++ behind) within, length-take-le (length bytes) (bytes ++ behind) fits))

longest_mark : (m : Mark) (behind : List ℕ) → IsLongest (mark_text m ++ behind) kind.Mark (length (mark_text m))
longest_mark marks.OpenSquare behind = longest_single (91 ∷ behind) refl
longest_mark marks.CloseSquare behind = longest_single (93 ∷ behind) refl
longest_mark marks.OpenCurly behind = longest_single (123 ∷ behind) refl
longest_mark marks.CloseCurly behind = longest_single (125 ∷ behind) refl
longest_mark marks.OpenRound behind = longest_single (40 ∷ behind) refl
longest_mark marks.CloseRound behind = longest_single (41 ∷ behind) refl
longest_mark marks.Less behind = longest_single (60 ∷ behind) refl
longest_mark marks.Greater behind = longest_single (62 ∷ behind) refl
longest_mark marks.Comma behind = longest_single (44 ∷ behind) refl
longest_mark marks.Equals behind = longest_single (61 ∷ behind) refl
longest_mark marks.Bang behind = longest_single (33 ∷ behind) refl
longest_mark marks.Dots behind = longest_dots (46 ∷ 46 ∷ behind) refl (omega arith) refl

pub longest_piece : (k : TokenKind) (bytes behind : List ℕ) → HasForm k bytes → goes_on k behind ≡ false → IsLongest (bytes ++ behind) k (length bytes)
longest_piece kind.Word bytes behind form stops = longest_word_piece bytes behind form stops
longest_piece kind.Number bytes behind form stops = longest_number_piece bytes behind form stops
longest_piece kind.Head bytes behind form stops = longest_head_piece bytes behind form
longest_piece kind.Mark bytes behind (m, e) stops = subst (λ bs. IsLongest (bs ++ behind) kind.Mark (length bs)) (sym e) (longest_mark m behind)

-- no token begins with a byte of a gap
not_blank : (k : TokenKind) (b : ℕ) (bs : List ℕ) → HasForm k (b ∷ bs) → is_blank b ≡ false
not_blank k b bs form = ⊎_elim (λ blank. absurd (let first = kind_of_first-form k b bs form in let none = blank_first b blank in cc)) (λ other. other) (cases_Bool (is_blank b))

not_hash : (k : TokenKind) (b : ℕ) (bs : List ℕ) → HasForm k (b ∷ bs) → begins_comment b ≡ false
not_hash k b bs form = ⊎_elim (λ hash. absurd (let first = kind_of_first-form k b bs form in let none = comment_first b hash in cc)) (λ other. other) (cases_Bool (begins_comment b))

no_gap : (k : TokenKind) (bytes behind : List ℕ) → HasForm k bytes → gap (bytes ++ behind) ≡ 0
no_gap k [] behind form = absurd (nonempty k form)
no_gap k (b ∷ bs) behind form = rw (not_blank k b bs form, not_hash k b bs form) refl

-- the gap before a token is the blanks before it
pub gap_is : (blanks : List ℕ) (k : TokenKind) (bytes behind : List ℕ) → list_all is_blank blanks ≡ true → HasForm k bytes → gap (blanks ++ (bytes ++ behind)) ≡ length blanks
gap_is [] k bytes behind blank form = no_gap k bytes behind form
gap_is (b ∷ blanks) k bytes behind blank form =
    let parts = and_parts (is_blank b) _ blank in
    rw parts.0 (let more = gap_is blanks k bytes behind parts.1 form in omega arith)
