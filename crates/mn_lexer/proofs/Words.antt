-- The longest word and the longest number at the front.
use Rattle.std.proofs.Common.{◌≡◌, ℕ, suc, zero, ◌+◌, ◌<◌, true, false, List, [], ◌∷◌, take, drop, get_or, refl, ap, ◌∙◌, subst, arith}
use Rattle.std.specs.List.{prefix_len}
use Rattle.std.specs.Char.{is_ascii_digit}
use Rattle.std.proofs.Math.Numerals.{one-add}
use Rattle.std.proofs.lemmas.Bool.{and_parts, ne_eqb, or_left}
use Rattle.std.proofs.lemmas.List.{length-take-le, get_or-drop}
use Rattle.std.proofs.lemmas.List.Sums.{prefix_len-le-length}
use Rattle.mn_lexer.specs.Bytes.{is_word_start, is_word_byte}
use Rattle.mn_lexer.specs.Forms.{IsNumber, IsLongest, BeginsNoToken}
use Rattle.mn_lexer.specs.Numbers.{without_sign}
use Rattle.mn_lexer.proofs.Runs.{list_all-take-run, length-take-le_run}
use Rattle.mn_lexer.proofs.Firsts.{longest_of_kind, begins_no_token}
use Rattle.mn_lexer.specs.declared.TokenKind.TheVariants as kind

pub longest_word : (bs : List ℕ) → is_word_start (get_or bs 0 0) ≡ true → IsLongest bs kind.Word (prefix_len is_word_byte bs)
longest_word [] start = cc
longest_word (b ∷ bs) start =
    let passes : is_word_byte b ≡ true = or_left _ _ (or_left _ _ start) in
    let count : prefix_len is_word_byte (b ∷ bs) ≡ suc (prefix_len is_word_byte bs) = rw passes (one-add _) in
    longest_of_kind (b ∷ bs) kind.Word (prefix_len is_word_byte (b ∷ bs))
    (prefix_len-le-length is_word_byte (b ∷ bs))
    (rw count (start, list_all-take-run is_word_byte bs))
    (elim [
      | zero ↦ λ within form. omega arith
      | suc m ↦ λ within form.
          let bound = length-take-le_run is_word_byte bs m form.1 in
          let all = length-take-le m bs (omega arith) in
          omega arith
    ])

signed_number : (bs : List ℕ) → 0 < prefix_len is_ascii_digit bs → IsLongest (45 ∷ bs) kind.Number (1 + prefix_len is_ascii_digit bs)
signed_number bs some =
    let fits = prefix_len-le-length is_ascii_digit bs in
    let count : 1 + prefix_len is_ascii_digit bs ≡ suc (prefix_len is_ascii_digit bs) = one-add _ in
    longest_of_kind (45 ∷ bs) kind.Number (1 + prefix_len is_ascii_digit bs)
    (omega arith)
    (rw count (rw (length-take-le (prefix_len is_ascii_digit bs) bs fits) some, list_all-take-run is_ascii_digit bs))
    (elim [
      | zero ↦ λ within form. omega arith
      | suc m ↦ λ within form.
          let bound = length-take-le_run is_ascii_digit bs m form.1 in
          let all = length-take-le m bs (omega arith) in
          omega arith
    ])

no_signed_number : (bs : List ℕ) → prefix_len is_ascii_digit bs ≡ 0 → (n : ℕ) → IsNumber (take n (45 ∷ bs)) → ⊥
no_signed_number bs none zero form = omega (arith, form.0)
no_signed_number bs none (suc n) form = let bound = length-take-le_run is_ascii_digit bs n form.1 in omega (arith, form.0)

digit_not_minus : (b : ℕ) → is_ascii_digit b ≡ true → b ≡ 45 → ⊥
digit_not_minus b digit minus = let off : is_ascii_digit b ≡ false = rw minus refl in cc

-- the bytes of a front that begins with no `-` are all its digits
plain_sign : (b : ℕ) (bs : List ℕ) → (b ≡ 45 → ⊥) → without_sign (b ∷ bs) ≡ b ∷ bs
plain_sign b bs plain = rw (ne_eqb b 45 plain) refl

plain_number : (b : ℕ) (bs : List ℕ) → (b ≡ 45 → ⊥) → is_ascii_digit b ≡ true → IsLongest (b ∷ bs) kind.Number (prefix_len is_ascii_digit (b ∷ bs))
plain_number b bs plain digit =
    let count : prefix_len is_ascii_digit (b ∷ bs) ≡ suc (prefix_len is_ascii_digit bs) = rw digit (one-add _) in
    let all = list_all-take-run is_ascii_digit (b ∷ bs) in
    longest_of_kind (b ∷ bs) kind.Number (prefix_len is_ascii_digit (b ∷ bs))
    (prefix_len-le-length is_ascii_digit (b ∷ bs))
    (rw count (rw (plain_sign b (take (prefix_len is_ascii_digit bs) bs) plain) (omega arith, rw count at all)))
    (elim [
      | zero ↦ λ within form. omega arith
      | suc m ↦ λ within form.
          let parts = and_parts (is_ascii_digit b) _ (rw (plain_sign b (take m bs) plain) at form.1) in
          let bound = length-take-le_run is_ascii_digit bs m parts.1 in
          let whole = length-take-le m bs (omega arith) in
          omega arith
    ])

-- the longest number behind a `-`
pub longest_signed : (bs : List ℕ) → get_or bs 0 0 ≡ 45 → 0 < prefix_len is_ascii_digit (drop 1 bs) → IsLongest bs kind.Number (1 + prefix_len is_ascii_digit (drop 1 bs))
longest_signed [] minus some = cc
longest_signed (b ∷ bs) minus some = rw minus (signed_number bs some)

-- a `-` with no digit behind it
pub lone_minus : (bs : List ℕ) → get_or bs 0 0 ≡ 45 → prefix_len is_ascii_digit (drop 1 bs) ≡ 0 → BeginsNoToken bs
lone_minus [] minus none = cc
lone_minus (b ∷ bs) minus none =
    begins_no_token (b ∷ bs) kind.Number (rw minus refl)
    (λ n form. no_signed_number bs none n (subst (λ x. IsNumber (take n (x ∷ bs))) minus form))

-- the longest number with no sign
pub longest_plain : (bs : List ℕ) → is_ascii_digit (get_or bs 0 0) ≡ true → IsLongest bs kind.Number (prefix_len is_ascii_digit bs)
longest_plain [] digit = cc
longest_plain (b ∷ bs) digit = plain_number b bs (digit_not_minus b digit) digit

pub first_at : (text : List ℕ) (at : ℕ) → get_or (drop at text) 0 0 ≡ get_or text at 0
first_at text at = let same : at + 0 ≡ at = omega arith in get_or-drop at text 0 0 ∙ ap (λ i. get_or text i 0) same
