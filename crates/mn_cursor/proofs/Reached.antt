-- What is left of a list, by how much of it, and its first item.
use Rattle.std.proofs.Common.{◌≡◌, ℕ, zero, suc, ◌-◌, ◌+◌, ◌<◌, ◌≤◌, List, [], ◌∷◌, length, drop, map, slice_get, unwrap_or, Some, All, refl, sym, ap, ◌∙◌, subst, arith}
use Rattle.std.specs.Option.{option_map}
use Rattle.std.proofs.lemmas.List.{length-drop, length-map, drop-map, drop-drop, drop_all}
use Rattle.std.proofs.lemmas.List.Elements.{All-get_or}
use Rattle.std.proofs.lemmas.Option.{slice_get-map, slice_get_within, unwrap_or-slice_get}
use Rattle.mn_lexer.specs.Terminals.{token_of}
use Rattle.mn_lexer.specs.declared.Token.{Token}
use Rattle.mn_cursor.specs.Progress.{Progress, tokens_left, rest, byte_at, end_of, byte_of}

-- as many are left as it says
pub length_rest : (c : Progress) → c.left ≤ length c.tokens → length (rest c) ≡ c.left
unfolding rest
length_rest c within =
    length-map _ _ ∙ length-drop (length c.tokens - c.left) c.tokens ∙ omega arith

-- one fewer are those behind the first
pub one_fewer : {A B : Type 0} (f : A → B) (l : List A) (n : ℕ) → 0 < n → n ≤ length l → map f (drop (length l - (n - 1)) l) ≡ drop 1 (map f (drop (length l - n) l))
one_fewer f l n some within =
    let more : length l - (n - 1) ≡ (length l - n) + 1 = omega arith in
    ap (λ k. map f (drop k l)) more ∙ ap (map f) (sym (drop-drop 1 (length l - n) l)) ∙ sym (drop-map f 1 (drop (length l - n) l))

-- the first that is left
pub get_drop : {A : Type 0} (l : List A) (n : ℕ) → slice_get (drop n l) 0 ≡ slice_get l n
get_drop l zero = refl
get_drop [] (suc n) = refl
get_drop (x ∷ l) (suc n) = get_drop l n

pub first_token : (c : Progress) (t : Token) → slice_get c.tokens (length c.tokens - c.left) ≡ Some t → slice_get (tokens_left c) 0 ≡ Some t
first_token c t is = get_drop c.tokens (length c.tokens - c.left) ∙ is

pub first_terminal : (c : Progress) (t : Token) → slice_get c.tokens (length c.tokens - c.left) ≡ Some t → slice_get (rest c) 0 ≡ Some (token_of c.text t)
unfolding rest
first_terminal c t is = slice_get-map (token_of c.text) (tokens_left c) 0 ∙ ap (option_map (token_of c.text)) (first_token c t is)

-- nothing is left
pub none_left : (c : Progress) → c.left ≡ 0 → rest c ≡ []
unfolding rest
none_left c none = ap (map (token_of c.text)) (drop_all (length c.tokens - c.left) c.tokens (omega arith))

-- what holds of all holds of each
pub of_each : {A : Type 0} (P : A → Type 0) (l : List A) (i : ℕ) (x : A) → All P l → slice_get l i ≡ Some x → P x
of_each P l i x all is =
    subst P (sym (unwrap_or-slice_get l i x) ∙ ap (λ o. unwrap_or o x) is) (All-get_or P l i x (slice_get_within l i x is) all)

-- the byte of the first that is left
byte_first : (l : List Token) (t : Token) (end : ℕ) → slice_get l 0 ≡ Some t → byte_at l end ≡ t.at
byte_first [] t end is = cc
byte_first (u ∷ l) t end is = let same : u ≡ t = cc in ap (λ x. x.at) same

pub byte_there : (c : Progress) (n : ℕ) (t : Token) → slice_get c.tokens (length c.tokens - n) ≡ Some t → byte_of c n ≡ t.at
byte_there c n t is = byte_first (drop (length c.tokens - n) c.tokens) t (end_of c.text c.stop) (get_drop c.tokens (length c.tokens - n) ∙ is)
