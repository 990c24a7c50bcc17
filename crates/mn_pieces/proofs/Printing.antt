-- Printed numbers have the form of tokens.
use Rattle.std.proofs.Common.{◌≡◌, ℕ, suc, ◌<◌, true, false, pos, negsuc, neg_ℤ, nat_eq, List, [], ◌∷◌, length, decimal, refl, subst, arith}
use Rattle.std.specs.Char.{is_ascii_digit, digit_value}
use Rattle.std.specs.List.{list_all}
use Rattle.std.specs.Str.Parse.{AllDigits, digits_value}
use Rattle.std.proofs.lemmas.Bool.{and_parts, and_from}
use Rattle.std.proofs.lemmas.Bool.Decides.{nat_tests}
use Rattle.std.proofs.lemmas.Fmt.{decimal_is_IsNumeral}
use Rattle.mn_pieces.specs.Printed.{IsReadAs, NumbersAreRead}

is_digit_of : (c : ℕ) → digit_value c < 10 → is_ascii_digit c ≡ true
is_digit_of c small = grind (arith, nat_tests)

all_digits_of : (ds : List ℕ) → AllDigits 10 ds → list_all is_ascii_digit ds ≡ true
all_digits_of [] all = refl
all_digits_of (c ∷ cs) all = and_from (is_ascii_digit c) _ (is_digit_of c all.0) (all_digits_of cs all.1)

digit_not_minus : (c : ℕ) → is_ascii_digit c ≡ true → nat_eq c 45 ≡ false
digit_not_minus c digit = grind (arith, nat_tests)

plain : (ds : List ℕ) → 0 < length ds → list_all is_ascii_digit ds ≡ true → IsReadAs ds (pos (digits_value 10 ds))
plain [] some all = absurd (omega arith)
plain (c ∷ cs) some all =
    let first : nat_eq c 45 ≡ false = digit_not_minus c (and_parts (is_ascii_digit c) _ all).0 in
    record { form = rw first (some, all); value = rw first refl }

signed : (ds : List ℕ) → 0 < length ds → list_all is_ascii_digit ds ≡ true → IsReadAs (45 ∷ ds) (neg_ℤ (pos (digits_value 10 ds)))
signed ds some all = record { form = (some, all); value = refl }

pub numbers_are_read_of : NumbersAreRead
numbers_are_read_of (pos n) few =
    let numeral = decimal_is_IsNumeral n (omega arith) in
    subst (λ m. IsReadAs (decimal n) (pos m)) numeral.1 (plain (decimal n) numeral.0.0 (all_digits_of (decimal n) numeral.0.1))
numbers_are_read_of (negsuc n) few =
    let numeral = decimal_is_IsNumeral (suc n) (omega arith) in
    subst (λ m. IsReadAs (45 ∷ decimal (suc n)) (neg_ℤ (pos m))) numeral.1 (signed (decimal (suc n)) numeral.0.0 (all_digits_of (decimal (suc n)) numeral.0.1))
