-- The names of an instance are names of the grammar.
use Rattle.std.proofs.Common.{◌≡◌, ℕ, Bool, true, false, ◌&&◌, ◌==◌, List, [], ◌∷◌, refl, arith}
use Rattle.std.specs.List.{list_all, list_any}
use Rattle.std.specs.Char.{is_ascii_alphabetic}
use Rattle.std.specs.Str.{byte}
use Rattle.std.proofs.lemmas.Bool.Decides.{nat_tests}
use Rattle.std.proofs.lemmas.Bool.{and_parts, or_from}
use Rattle.mn_grammar.specs.Tokens.{is_name}
use Rattle.mn_model.specs.Name.{IsName, begins_name, continues_name}
use Rattle.mn_sections.specs.Trees.{name_by, name_from}

not_dash : (b : ℕ) → continues_name b ≡ true → (b == byte "-") ≡ false
not_dash b goes_on = grind (arith, nat_tests)

letter_is_no_dash : (b : ℕ) → is_ascii_alphabetic b ≡ true → (b == byte "-") ≡ false
letter_is_no_dash b letter = grind (arith, nat_tests)

letter_is_no_line : (b : ℕ) → is_ascii_alphabetic b ≡ true → (b == byte "_") ≡ false
letter_is_no_line b letter = grind (arith, nat_tests)

no_dashes : (bs : List ℕ) → list_all continues_name bs ≡ true → list_any (λ b. b == byte "-") bs ≡ false
no_dashes [] all = refl
no_dashes (b ∷ bs) all =
    let parts = and_parts (continues_name b) (list_all continues_name bs) all in
    or_from (b == byte "-") _ (not_dash b parts.0) (no_dashes bs parts.1)

with_true : (a : Bool) → a ≡ false → (a && true) ≡ false
with_true true e = cc
with_true false e = refl

with_false : (a : Bool) → (a && false) ≡ false
with_false true = refl
with_false false = refl

pub name_of_grammar : (bs : List ℕ) → IsName bs → is_name bs ≡ true
name_of_grammar [] named = cc
name_of_grammar (b ∷ []) named =
    rw (letter_is_no_dash b named, letter_is_no_line b named) refl
name_of_grammar (b ∷ d ∷ bs) named =
    let parts = and_parts (begins_name b) (list_all continues_name (b ∷ d ∷ bs)) named in
    rw (no_dashes (b ∷ d ∷ bs) parts.1, with_false (b == byte "_")) refl

same_bytes : (bytes : List ℕ) (lawful : Bool) (e : is_name bytes ≡ lawful) → lawful ≡ true → (name_by bytes lawful e).bytes ≡ bytes
same_bytes bytes true e is = refl
same_bytes bytes false e is = cc

pub name_of_model : (bytes : List ℕ) → IsName bytes → (name_from bytes).bytes ≡ bytes
unfolding name_from
name_of_model bytes named = same_bytes bytes (is_name bytes) refl (name_of_grammar bytes named)
