-- The value of decimal digits, one after another.
use Rattle.std.proofs.Common.{◌≡◌, ℕ, suc, zero, ◌+◌, ◌*◌, ◌-◌, ◌^◌, ◌<◌, ◌≤◌, true, List, [], ◌∷◌, ◌++◌, length, take, drop, get_or, refl, sym, ap, ◌∙◌, ⊎_elim, nat_eq, arith, rules}
use Rattle.std.specs.Prelude.{nat_abs, neg_ℤ, pos}
use Rattle.std.specs.Char.{is_ascii_digit, digit_value}
use Rattle.std.specs.List.{list_all}
use Rattle.std.specs.Str.Parse.{digits_value, digits_value_after, AllDigits}
use Rattle.std.proofs.Math.Nat.{pow-le-pow_right}
use Rattle.std.proofs.lemmas.Bool.{and_parts, cases_Bool}
use Rattle.std.proofs.lemmas.Bool.Decides.{nat_tests}
use Rattle.std.proofs.lemmas.List.{take-append-drop}
use Rattle.std.proofs.lemmas.Int.Digits.{digits_value_more, digits_value-lt}
use Rattle.mn_lexer.specs.Forms.{IsNumber}
use Rattle.mn_lexer.specs.Numbers.{without_sign, magnitude, number_value, IsWithinLimit}

digit_value_is : (c : ℕ) → is_ascii_digit c ≡ true → digit_value c ≡ c - 48
digit_value_is c digit = grind (arith, nat_tests)

-- each byte is a digit
pub digit_at : (ds : List ℕ) (i : ℕ) → list_all is_ascii_digit ds ≡ true → i < length ds → is_ascii_digit (get_or ds i 0) ≡ true
digit_at [] i all within = absurd (omega arith)
digit_at (d ∷ ds) zero all within = (and_parts (is_ascii_digit d) _ all).0
digit_at (d ∷ ds) (suc i) all within = digit_at ds i (and_parts (is_ascii_digit d) _ all).1 (omega arith)

-- one more digit
pub value_more : (ds : List ℕ) (i : ℕ) → list_all is_ascii_digit ds ≡ true → i < length ds → digits_value 10 (take (i + 1) ds) ≡ digits_value 10 (take i ds) * 10 + (get_or ds i 0 - 48)
value_more ds i all within = digits_value_more 10 ds i within ∙ ap (λ d. digits_value 10 (take i ds) * 10 + d) (digit_value_is (get_or ds i 0) (digit_at ds i all within))

after_le : (n : ℕ) (ds : List ℕ) → n ≤ digits_value_after 10 n ds
after_le n [] = omega arith
after_le n (d ∷ ds) = let more = after_le (n * 10 + digit_value d) ds in omega arith

after-append : (n : ℕ) (xs ys : List ℕ) → digits_value_after 10 n (xs ++ ys) ≡ digits_value_after 10 (digits_value_after 10 n xs) ys
after-append n [] ys = refl
after-append n (x ∷ xs) ys = after-append (n * 10 + digit_value x) xs ys

-- more digits make no smaller number
pub value-take-le : (ds : List ℕ) (i : ℕ) → digits_value 10 (take i ds) ≤ digits_value 10 ds
value-take-le ds i =
    let whole : digits_value 10 ds ≡ digits_value_after 10 (digits_value 10 (take i ds)) (drop i ds) = ap (digits_value 10) (sym (take-append-drop i ds)) ∙ after-append 0 (take i ds) (drop i ds) in
    let more = after_le (digits_value 10 (take i ds)) (drop i ds) in
    omega arith

digit_below : (c : ℕ) → is_ascii_digit c ≡ true → c - 48 < 10
digit_below c digit = grind (arith, nat_tests)

all_digits : (ds : List ℕ) → list_all is_ascii_digit ds ≡ true → AllDigits 10 ds
all_digits [] all = search rules
all_digits (d ∷ ds) all =
    let parts = and_parts (is_ascii_digit d) _ all in
    let below = digit_below d parts.0 in
    (omega (arith, digit_value_is d parts.0), all_digits ds parts.1)

without_sign-le : (bs : List ℕ) → length (without_sign bs) ≤ length bs
without_sign-le [] = omega arith
without_sign-le (b ∷ bs) = ⊎_elim (λ minus. rw minus (omega arith)) (λ plain. rw plain (omega arith)) (cases_Bool (nat_eq b 45))

short_magnitude : (bs : List ℕ) → IsNumber bs → length bs ≤ 9 → magnitude bs < 1000000000
short_magnitude bs form short =
    let below = digits_value-lt 10 (without_sign bs) (all_digits (without_sign bs) form.1) in
    let few : length (without_sign bs) ≤ 9 = let fewer = without_sign-le bs in omega arith in
    let most : 10 ^ length (without_sign bs) ≤ 10 ^ 9 = pow-le-pow_right (omega arith) few in
    omega arith

nat_abs-neg : (n : ℕ) → nat_abs (neg_ℤ (pos n)) ≡ n
nat_abs-neg zero = refl
nat_abs-neg (suc n) = refl

-- a number of nine bytes at most is within the limit
pub short_within : (bs : List ℕ) → IsNumber bs → length bs ≤ 9 → IsWithinLimit (number_value bs)
short_within bs form short =
    let below = short_magnitude bs form short in
    ⊎_elim
    (λ minus. rw minus (let same = nat_abs-neg (magnitude bs) in omega arith))
    (λ plain. rw plain (omega arith))
    (cases_Bool (nat_eq (get_or bs 0 0) 45))
