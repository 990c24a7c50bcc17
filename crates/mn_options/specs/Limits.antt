-- The numbers that words write.
use Rattle.std.specs.Prelude.{ℕ, ◌<◌, ◌≤◌, Bool, not, ◌&&◌, ◌==◌, leb, if◌then◌else◌, List, length, Option, Some, None}
use Rattle.std.specs.List.{list_all}
use Rattle.std.specs.Char.{is_ascii_digit}
use Rattle.std.specs.Str.Parse.{digits_value}
use Rattle.mn_gen.specs.declared.fault.TheConstants.{GREATEST_SIZE}
use Rattle.mn_options.specs.declared.limits.TheConstants.{MOST_DIGITS}

-- one decimal digit or more, and not too many
abbrev pub is_number : List ℕ → Bool
is_number word = leb 1 (length word) && leb (length word) MOST_DIGITS && list_all is_ascii_digit word

-- the number that a word writes, if it writes one
abbrev pub number_in : List ℕ → Option ℕ
number_in word = if is_number word then Some (digits_value 10 word) else None

-- what a limit is: not 0, and of 18 digits at most
pub record IsLimit (n : ℕ) : Type 0 where
  pub some : 1 ≤ n
  pub below : n < 1000000000000000000

-- a size of a generated model is from 1 to the greatest
abbrev pub is_size : ℕ → Bool
is_size n = leb 1 n && leb n GREATEST_SIZE

-- the limit that a word writes, if it writes one
abbrev pub limit_in : List ℕ → Option ℕ
limit_in word = if is_number word && not (digits_value 10 word == 0) then Some (digits_value 10 word) else None

-- the size of a generated model that a word writes, if it writes one
abbrev pub size_in : List ℕ → Option ℕ
size_in word = if is_number word && is_size (digits_value 10 word) then Some (digits_value 10 word) else None
