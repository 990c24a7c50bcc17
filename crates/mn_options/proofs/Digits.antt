-- The value of decimal digits, one after another.
use Rattle.std.proofs.Common.{◌≡◌, ℕ, suc, zero, ◌+◌, ◌*◌, ◌-◌, ◌^◌, ◌<◌, ◌≤◌, true, List, [], ◌∷◌, length, take, get_or, ap, ◌∙◌, arith, rules}
use Rattle.std.specs.Char.{is_ascii_digit, digit_value}
use Rattle.std.specs.List.{list_all}
use Rattle.std.specs.Str.Parse.{digits_value, AllDigits}
use Rattle.std.proofs.Math.Nat.{pow-le-pow_right}
use Rattle.std.proofs.lemmas.Bool.{and_parts}
use Rattle.std.proofs.lemmas.Bool.Decides.{nat_tests}
use Rattle.std.proofs.lemmas.Int.Digits.{digits_value_more, digits_value-lt}

digit_value_is : (c : ℕ) → is_ascii_digit c ≡ true → digit_value c ≡ c - 48
digit_value_is c digit = grind (arith, nat_tests)

digit_below : (c : ℕ) → is_ascii_digit c ≡ true → c - 48 < 10
digit_below c digit = grind (arith, nat_tests)

-- each byte is a digit
pub digit_at : (ds : List ℕ) (i : ℕ) → list_all is_ascii_digit ds ≡ true → i < length ds → is_ascii_digit (get_or ds i 0) ≡ true
digit_at [] i all within = absurd (omega arith)
digit_at (d ∷ ds) zero all within = (and_parts (is_ascii_digit d) _ all).0
digit_at (d ∷ ds) (suc i) all within = digit_at ds i (and_parts (is_ascii_digit d) _ all).1 (omega arith)

-- one more digit
pub value_more : (ds : List ℕ) (i : ℕ) → list_all is_ascii_digit ds ≡ true → i < length ds → digits_value 10 (take (i + 1) ds) ≡ digits_value 10 (take i ds) * 10 + (get_or ds i 0 - 48)
value_more ds i all within = digits_value_more 10 ds i within ∙ ap (λ d. digits_value 10 (take i ds) * 10 + d) (digit_value_is (get_or ds i 0) (digit_at ds i all within))

front_digits : (i : ℕ) (ds : List ℕ) → list_all is_ascii_digit ds ≡ true → AllDigits 10 (take i ds)
front_digits zero ds all = search rules
front_digits (suc i) [] all = search rules
front_digits (suc i) (d ∷ ds) all =
    let parts = and_parts (is_ascii_digit d) _ all in
    let below = digit_below d parts.0 in
    (omega (arith, digit_value_is d parts.0), front_digits i ds parts.1)

front_length : (i : ℕ) (ds : List ℕ) → length (take i ds) ≤ length ds
front_length zero ds = omega arith
front_length (suc i) [] = omega arith
front_length (suc i) (d ∷ ds) = let less = front_length i ds in omega arith

-- the digits in front of others are a number as short as these
pub front_below : (most : ℕ) (ds : List ℕ) (i : ℕ) → list_all is_ascii_digit ds ≡ true → length ds ≤ most → digits_value 10 (take i ds) < 10 ^ most
front_below most ds i all few =
    let below = digits_value-lt 10 (take i ds) (front_digits i ds all) in
    let short : length (take i ds) ≤ most = let less = front_length i ds in omega arith in
    let powers : 10 ^ length (take i ds) ≤ 10 ^ most = pow-le-pow_right (omega arith) short in
    omega arith
