-- What may be a name in the input language (the Minion manual, and this project's profile: no `-`).
use Rattle.std.specs.Prelude.{ℕ, Bool, false, ◌&&◌, ◌||◌, ◌==◌, List, [], ◌∷◌, IsTrue}
use Rattle.std.specs.Char.{is_ascii_alphabetic, is_ascii_digit}
use Rattle.std.specs.List.{list_all}

-- a letter or `_`
abbrev pub begins_name : ℕ → Bool
begins_name c = is_ascii_alphabetic c || (c == 95)

-- a letter, a digit or `_`
abbrev pub continues_name : ℕ → Bool
continues_name c = begins_name c || is_ascii_digit c

-- a letter or `_`, then letters, digits and `_`; `_` alone is no name
abbrev pub is_name : List ℕ → Bool
is_name [] = false
is_name (c ∷ []) = is_ascii_alphabetic c
is_name (c ∷ d ∷ others) = begins_name c && list_all continues_name (c ∷ d ∷ others)

abbrev pub IsName : List ℕ → Type 0
IsName name = IsTrue (is_name name)
