-- What a word and a number of the lexer are in the model: names and values.
use Rattle.std.proofs.Common.{◌≡◌, ℕ, zero, suc, ℤ, pos, negsuc, Bool, true, false, ◌||◌, ◌&&◌, ◌==◌, List, [], ◌∷◌, refl, arith, bytes_eq, codes}
use Rattle.std.specs.List.{list_all, list_any}
use Rattle.std.specs.Char.{is_ascii_alphabetic, is_ascii_digit}
use Rattle.std.specs.Prelude.{Result, Ok, Err}
use Rattle.std.specs.Result.{MatchResult, IsOk}
use Rattle.std.specs.Str.{byte, IsAscii, IsUtf8}
use Rattle.std.proofs.lemmas.Str.{IsUtf8-from_ascii}
use Rattle.std.proofs.lemmas.Bool.Decides.{nat_tests}
use Rattle.std.proofs.lemmas.Bool.{and_parts, or_parts, not-true, and_from, or_left}
use Rattle.std.proofs.lemmas.Int.{ints}
use Rattle.mn_lexer.specs.Bytes.{is_word_byte}
use Rattle.mn_lexer.specs.Forms.{IsWord}
use Rattle.mn_lexer.specs.Numbers.{IsWithinLimit}
use Rattle.mn_grammar.specs.Tokens.{is_name}
use Rattle.mn_model.specs.Domain.{IsValue}
use Rattle.mn_model.specs.Name.{IsName, begins_name, continues_name}
use Rattle.mn_model.proofs.NameParts.{ascii}

-- a number within the limit is a value
pub is_a_value : (z : ℤ) → IsWithinLimit z → IsValue z
is_a_value (pos n) within = (omega (arith, ints), omega (arith, ints))
is_a_value (negsuc n) within = (omega (arith, ints), omega (arith, ints))

goes_on_so : (s d h : Bool) → (s || d || h) ≡ true → h ≡ false → (s || d) ≡ true
goes_on_so true d h e f = refl
goes_on_so false true h e f = refl
goes_on_so false false true e f = cc
goes_on_so false false false e f = cc

-- bytes of a word without `-` go on with a name
no_dash : (bs : List ℕ) → list_all is_word_byte bs ≡ true → list_any (λ b. b == byte "-") bs ≡ false → list_all continues_name bs ≡ true
no_dash [] all none = refl
no_dash (b ∷ bs) all none =
    let parts = and_parts (is_word_byte b) (list_all is_word_byte bs) all in
    let nones = or_parts (b == byte "-") (list_any (λ b. b == byte "-") bs) none in
    and_from (continues_name b) (list_all continues_name bs) (goes_on_so (begins_name b) (is_ascii_digit b) (b == byte "-") parts.0 nones.0) (no_dash bs parts.1 nones.1)

-- a single byte that begins a word and isn't `_` is a letter
letter : (a b : Bool) → (a || b) ≡ true → b ≡ false → a ≡ true
letter true b e f = refl
letter false true e f = cc
letter false false e f = e

alone : (b : ℕ) → bytes_eq (b ∷ []) (codes "_") ≡ false → (b == byte "_") ≡ false
alone b e = dropped (b == byte "_") e
  where
    dropped : (x : Bool) → (x && true) ≡ false → x ≡ false
    dropped true e = cc
    dropped false e = refl

-- a word that the grammar takes for a name is one of the model
pub is_a_name : (bs : List ℕ) → IsWord bs → is_name bs ≡ true → IsName bs
is_a_name [] form named = absurd form
is_a_name (b ∷ []) form named =
    let parts = or_parts (list_any (λ b. b == byte "-") (b ∷ [])) (bytes_eq (b ∷ []) (codes "_")) (not-true _ named) in
    letter (is_ascii_alphabetic b) (b == byte "_") form.0 (alone b parts.1)
is_a_name (b ∷ d ∷ bs) form named =
    let parts = or_parts (list_any (λ b. b == byte "-") (b ∷ d ∷ bs)) (bytes_eq (b ∷ d ∷ bs) (codes "_")) (not-true _ named) in
    let nones = or_parts (b == byte "-") (list_any (λ b. b == byte "-") (d ∷ bs)) parts.0 in
    and_from (begins_name b) (list_all continues_name (b ∷ d ∷ bs)) form.0
    (and_from (continues_name b) (list_all continues_name (d ∷ bs)) (or_left (begins_name b) (is_ascii_digit b) form.0) (no_dash (d ∷ bs) form.1 nones.1))

-- so a name is a text in UTF-8
ascii_all : (bs : List ℕ) → list_all continues_name bs ≡ true → IsAscii bs
ascii_all [] all i = omega arith
ascii_all (b ∷ bs) all zero = ascii b (and_parts (continues_name b) (list_all continues_name bs) all).0
ascii_all (b ∷ bs) all (suc i) = ascii_all bs (and_parts (continues_name b) (list_all continues_name bs) all).1 i

made_of : (bs : List ℕ) → IsName bs → list_all continues_name bs ≡ true
made_of [] named = refl
made_of (b ∷ []) named = grind (arith, nat_tests)
made_of (b ∷ d ∷ bs) named = (and_parts (begins_name b) (list_all continues_name (b ∷ d ∷ bs)) named).1

pub utf8_name : (bs : List ℕ) → IsName bs → IsUtf8 bs
utf8_name bs named = IsUtf8-from_ascii bs (ascii_all bs (made_of bs named))

pub is_text : {X E : Type 0} (P : X → Type 0) (Q : E → Type 0) (bs : List ℕ) (r : Result X E) → IsName bs → MatchResult r P (λ e. (IsUtf8 bs → ⊥) × Q e) → IsOk r
is_text P Q bs (Ok t) named cases = refl
is_text P Q bs (Err e) named cases = absurd (cases.0 (utf8_name bs named))
