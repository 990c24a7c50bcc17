-- Each text has tokens, and something that ends them.
use Rattle.std.proofs.Common.{◌≡◌, ◌⊎◌, ℕ, zero, suc, ◌+◌, ◌<◌, ◌≤◌, false, List, [], ◌∷◌, length, take, drop, get_or, Option, Some, None, refl, ap, ◌∙◌, subst, inl, inr, ⊎_elim, arith}
use Rattle.std.specs.Prelude.{eqb, nat_abs}
use Rattle.std.specs.Char.{is_ascii_digit, is_ascii_uppercase}
use Rattle.std.specs.List.{prefix_len}
use Rattle.std.proofs.lemmas.Bool.{cases_Bool, cases_lt, eqb-true, eqb-false}
use Rattle.std.proofs.lemmas.List.{get_or_past}
use Rattle.mn_lexer.specs.Bytes.{is_word_start}
use Rattle.mn_lexer.specs.FirstBytes.{is_single_mark, kind_of_first}
use Rattle.mn_lexer.specs.Forms.{IsLongest, BeginsNoToken, HasForm}
use Rattle.mn_lexer.specs.Numbers.{number_value, IsWithinLimit}
use Rattle.mn_lexer.specs.Reading.{next_place, IsAllowed, IsNext, is_end, Cuts, IsLexed}
use Rattle.mn_lexer.specs.declared.TheConstants.{NUMBER_LIMIT}
use Rattle.mn_lexer.specs.declared.Token.{Token}
use Rattle.mn_lexer.specs.declared.TokenKind.{TokenKind}
use Rattle.mn_lexer.specs.declared.TokenKind.TheVariants as kind
use Rattle.mn_lexer.specs.declared.LexFault.{LexFault}
use Rattle.mn_lexer.specs.declared.LexFault.TheVariants.{Lex, NumberRange}
use Rattle.mn_lexer.proofs.Firsts.{nonempty, begins_no_token, begins_nothing}
use Rattle.mn_lexer.proofs.Words.{longest_word, longest_signed, lone_minus, longest_plain}
use Rattle.mn_lexer.proofs.Heads.{begins_head, longest_head}
use Rattle.mn_lexer.proofs.Markings.{longest_single, longest_dots, lone_dot}
use Rattle.mn_lexer.proofs.Readings.{case_false, case_true}

-- no token stands at the front, or the longest does
abbrev Front : List ℕ → Type 0
Front bs = BeginsNoToken bs ⊎ ((k : TokenKind) × (n : ℕ) × IsLongest bs k n)

front_minus : (bs : List ℕ) → get_or bs 0 0 ≡ 45 → (n : ℕ) → prefix_len is_ascii_digit (drop 1 bs) ≡ n → Front bs
front_minus bs first zero e = inl (lone_minus bs first e)
front_minus bs first (suc n) e = inr (kind.Number, 1 + prefix_len is_ascii_digit (drop 1 bs), longest_signed bs first (omega arith))

-- the byte at a place, where it isn't 0, stands within
within : (bs : List ℕ) (n m : ℕ) → get_or bs n 0 ≡ suc m → n < length bs
within bs n m e = ⊎_elim (λ less. less) (λ past. let none = get_or_past bs n 0 past in absurd (omega arith)) (cases_lt n (length bs))

front_dot : (bs : List ℕ) → get_or bs 0 0 ≡ 46 → Front bs
front_dot bs first = ⊎_elim
    (λ second. let is = eqb-true (get_or bs 1 0) 46 second in inr (kind.Mark, 2, longest_dots bs first (within bs 1 45 is) is))
    (λ other. inl (lone_dot bs first (λ is. let no = eqb-false (get_or bs 1 0) 46 other in no is)))
    (cases_Bool (eqb (get_or bs 1 0) 46))

module _ (bs : List ℕ) (first : get_or bs 0 0 ≡ 42) where
  abbrev end : ℕ
  end = 2 + prefix_len is_ascii_uppercase (drop 2 bs)

  no_head : ((n : ℕ) → HasForm kind.Head (take n bs) → ⊥) → Front bs
  no_head none = inl (begins_no_token bs kind.Head (ap kind_of_first first) none)

  star : (n : ℕ) → (get_or bs n 0 ≡ 42) ⊎ (get_or bs n 0 ≡ 42 → ⊥)
  star n = ⊎_elim (λ is. inl (eqb-true (get_or bs n 0) 42 is)) (λ other. inr (eqb-false (get_or bs n 0) 42 other)) (cases_Bool (eqb (get_or bs n 0) 42))

  third_at : 2 + prefix_len is_ascii_uppercase (drop 2 bs) ≡ end
  third_at = refl

  front_star : Front bs
  front_star = ⊎_elim
      (λ second. ⊎_elim
      (λ named. ⊎_elim
      (λ third. ⊎_elim
      (λ fourth. let less = within bs (end + 1) 41 fourth in inr (kind.Head, end + 2, longest_head bs first end refl named (omega arith) second third fourth))
      (λ other. no_head (λ n form.
      let head = begins_head bs n form in
      let at : end + 1 ≡ 3 + prefix_len is_ascii_uppercase (drop 2 bs) = omega arith in
      other (ap (λ m. get_or bs m 0) at ∙ head.fourth)))
      (star (end + 1)))
      (λ other. no_head (λ n form. let head = begins_head bs n form in other head.third))
      (star end))
      (λ none. no_head (λ n form. let head = begins_head bs n form in omega arith))
      (cases_lt 2 end))
      (λ other. no_head (λ n form. let head = begins_head bs n form in other head.second))
      (star 1)

nothing_first : (b : ℕ) → is_word_start b ≡ false → is_ascii_digit b ≡ false → eqb b 45 ≡ false → eqb b 42 ≡ false → is_single_mark b ≡ false → eqb b 46 ≡ false → kind_of_first b ≡ None
nothing_first b w d m s k p = rw (w, d, m, s, k, p) refl

front_of : (bs : List ℕ) → Front bs
front_of bs = ⊎_elim (λ w. inr (kind.Word, _, longest_word bs w))
    (λ w. ⊎_elim (λ d. inr (kind.Number, _, longest_plain bs d))
    (λ d. ⊎_elim (λ m. front_minus bs (eqb-true _ 45 m) _ refl)
    (λ m. ⊎_elim (λ s. front_star bs (eqb-true _ 42 s))
    (λ s. ⊎_elim (λ k. inr (kind.Mark, 1, longest_single bs k))
    (λ k. ⊎_elim (λ p. front_dot bs (eqb-true _ 46 p))
    (λ p. inl (begins_nothing bs (nothing_first (get_or bs 0 0) w d m s k p)))
    (cases_Bool (eqb (get_or bs 0 0) 46)))
    (cases_Bool (is_single_mark (get_or bs 0 0))))
    (cases_Bool (eqb (get_or bs 0 0) 42)))
    (cases_Bool (eqb (get_or bs 0 0) 45)))
    (cases_Bool (is_ascii_digit (get_or bs 0 0))))
    (cases_Bool (is_word_start (get_or bs 0 0)))

-- a token may stand there, or it is a number past the limit
allowed_or : (k : TokenKind) (bs : List ℕ) → IsAllowed k bs ⊎ ((k ≡ kind.Number) × (IsWithinLimit (number_value bs) → ⊥))
allowed_or kind.Word bs = inl tt
allowed_or kind.Head bs = inl tt
allowed_or kind.Mark bs = inl tt
allowed_or kind.Number bs = ⊎_elim
    (λ past. inr (refl, λ is. omega arith))
    (λ is. inl is)
    (cases_lt NUMBER_LIMIT (nat_abs (number_value bs)))

module _ (text : List ℕ) where
  abbrev Tokens : ℕ → Type 0
  Tokens at = (ts : List Token) × (stop : Option LexFault) × Cuts text at ts stop

  grows : (k : TokenKind) (n : ℕ) (bs : List ℕ) → HasForm k (take n bs) → 0 < n
  grows k zero bs form = absurd (nonempty k form)
  grows k (suc n) bs form = omega arith

  module _ (at : ℕ) (more : (n : ℕ) → at < n → Tokens n) where
    abbrev place : ℕ
    place = next_place text at

    token_here : (k : TokenKind) (n : ℕ) → IsLongest (drop place text) k n → IsAllowed k (take n (drop place text)) → Tokens at
    token_here k n longest allowed =
        let t : Token = record { kind = k; at = place; len = n } in
        let next : IsNext text at t = record { place = refl; longest = longest; allowed = allowed } in
        ⊎_elim
        (λ last. (t ∷ [], None, (next, case_true _ _ last (refl, refl))))
        (λ goes_on.
        let some = grows k n (drop place text) longest.form in
        let others = more (place + n) (omega arith) in
        (t ∷ others.0, others.1, (next, case_false _ _ goes_on others.2)))
        (cases_Bool (is_end text t))

    here : Tokens at
    here = ⊎_elim
        (λ inside. ⊎_elim
        (λ none. ([], Some (Lex place), (refl, inside, none)))
        (λ found. ⊎_elim
        (λ allowed. token_here found.0 found.1 found.2 allowed)
        (λ past. ([], Some (NumberRange place), (refl, (found.1, subst (λ k. IsLongest (drop place text) k found.1) past.0 found.2, past.1))))
        (allowed_or found.0 (take found.1 (drop place text))))
        (front_of (drop place text)))
        (λ ended. ([], None, ended))
        (cases_lt place (length text))

  tokens_by : (fuel at : ℕ) → length text ≤ at + fuel → Tokens at
  tokens_by zero at size = ([], None, omega arith)
  tokens_by (suc fuel) at size = here at (λ n less. tokens_by fuel n (omega arith))

  pub some_tokens : (ts : List Token) × (stop : Option LexFault) × IsLexed text ts stop
  some_tokens = tokens_by (length text) 0 (omega arith)
