-- A name of two characters or more.
use Rattle.std.proofs.Common.{◌≡◌, ℕ, zero, suc, ◌≤◌, ◌<◌, Bool, true, false, ◌&&◌, List, [], ◌∷◌, length, get_or, refl, arith}
use Rattle.std.proofs.lemmas.Bool.Decides.{nat_tests}
use Rattle.std.proofs.lemmas.List.Recursion.{and_at}
use Rattle.std.specs.List.{list_all}
use Rattle.mn_model.specs.Name.{is_name, begins_name, continues_name, IsName}

pub is_name-parts : (bytes : List ℕ) → 2 ≤ length bytes → is_name bytes ≡ (begins_name (get_or bytes 0 0) && list_all continues_name bytes)
is_name-parts [] h = absurd (omega arith)
is_name-parts (c ∷ []) h = absurd (omega arith)
is_name-parts (c ∷ d ∷ others) h = refl

-- the characters of a name are ASCII
pub ascii : (c : ℕ) → continues_name c ≡ true → c < 128
ascii c h = grind (arith, nat_tests)

pub ascii_name : (name : List ℕ) (i : ℕ) → IsName name → i < length name → get_or name i 0 < 128
ascii_name [] i named within = absurd (omega arith)
ascii_name (c ∷ []) zero named within = grind (arith, nat_tests)
ascii_name (c ∷ []) (suc i) named within = absurd (omega arith)
ascii_name (c ∷ d ∷ others) i named within =
    ascii (get_or (c ∷ d ∷ others) i 0) (and_at (list_all continues_name) continues_name refl (λ _ _. refl) (c ∷ d ∷ others) i 0 within (second (begins_name c) (list_all continues_name (c ∷ d ∷ others)) named))
  where
    second : (a b : Bool) → (a && b) ≡ true → b ≡ true
    second true b h = h
    second false b h = cc
