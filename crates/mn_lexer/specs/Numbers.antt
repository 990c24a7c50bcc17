-- What a number stands for, and which numbers are allowed.
use Rattle.std.specs.Prelude.{ℕ, ◌≤◌, List, [], ◌∷◌, ◌==◌, if◌then◌else◌, ℤ, pos, neg_ℤ, nat_abs, slice_index}
use Rattle.std.specs.Str.{byte}
use Rattle.std.specs.Str.Parse.{digits_value}
use Rattle.mn_lexer.specs.declared.TheConstants.{NUMBER_LIMIT}

-- bs without the `-` that it may begin with
abbrev pub without_sign : List ℕ → List ℕ
without_sign [] = []
without_sign (b ∷ bs) = if b == byte "-" then bs else b ∷ bs

-- the number that the decimal digits behind the sign write
abbrev pub magnitude : List ℕ → ℕ
magnitude bs = digits_value 10 (without_sign bs)

-- the value of a number by its bytes: negative behind a `-`
abbrev pub number_value : List ℕ → ℤ
number_value bs =
    if slice_index bs 0 == byte "-" then neg_ℤ (pos (magnitude bs)) else pos (magnitude bs)

-- a value that may stand in a text: from minus the limit to the limit
abbrev pub IsWithinLimit : ℤ → Type 0
IsWithinLimit z = nat_abs z ≤ NUMBER_LIMIT
