-- The tokens of a text: no text has two lists of them, and a list grows token by token.
use Rattle.std.proofs.Common.{◌≡◌, ℕ, ◌+◌, ◌<◌, ◌≤◌, Bool, true, false, List, [], ◌∷◌, ◌++◌, Option, Some, None, length, take, drop, get_or, refl, sym, ap, ◌∙◌, subst, ⊎_elim, arith, length-drop, append_assoc}
use Rattle.std.specs.Prelude.{MatchBool, All, codes}
use Rattle.std.proofs.lemmas.Slice.Eq.{bytes_eq-Decides}
use Rattle.std.proofs.lemmas.Bool.{cases_Bool, cases_lt, cases_order, MatchBool-at_true, MatchBool-at_false}
use Rattle.std.proofs.lemmas.List.{drop_all, append-nil}
use Rattle.std.proofs.lemmas.List.Elements.{All-push}
use Rattle.mn_lexer.specs.FirstBytes.{kind_of_first}
use Rattle.mn_lexer.specs.Forms.{HasForm, IsLongest}
use Rattle.mn_lexer.specs.Numbers.{number_value, IsWithinLimit}
use Rattle.mn_lexer.specs.Reading.{bytes_of, next_place, BeginsPastNumber, IsAllowed, IsNext, is_end, Ends, Cuts, IsLexed, IsTokenOf, OneReading}
use Rattle.mn_lexer.proofs.Firsts.{kind_of_front, kind_of_first-form, first_gap}
use Rattle.mn_lexer.specs.declared.Token.{Token}
use Rattle.mn_lexer.specs.declared.TokenKind.{TokenKind}
use Rattle.mn_lexer.specs.declared.TokenKind.TheVariants as kind
use Rattle.mn_lexer.specs.declared.LexFault.{LexFault}
use Rattle.mn_lexer.specs.declared.LexFault.TheVariants.{Lex, NumberRange}

-- at one place there is one longest token
same_longest : (bs : List ℕ) (k l : TokenKind) (n m : ℕ) → IsLongest bs k n → IsLongest bs l m → (k ≡ l) × (n ≡ m)
same_longest bs k l n m a b = (
  let first = kind_of_front k bs n a.form in let again = kind_of_front l bs m b.form in cc,
  ⊎_elim
      (λ same. same)
      (λ apart. absurd (⊎_elim (λ below. a.longest m l below b.in_range b.form) (λ above. b.longest n k above a.in_range a.form) apart))
      (cases_order n m),
)

-- a token stands within the text
token_within : (text : List ℕ) (at : ℕ) (k : TokenKind) (n : ℕ) → IsLongest (drop at text) k n → at < length text
token_within text at k n a =
    ⊎_elim
    (λ within. within)
    (λ past.
    let first = kind_of_front k (drop at text) n a.form in
    let none : kind_of_first (get_or (drop at text) 0 0) ≡ None = rw (drop_all at text past) refl in
    absurd cc)
    (cases_lt at (length text))

next_here : (text : List ℕ) (at : ℕ) (t : Token) → IsNext text at t → IsLongest (drop (next_place text at) text) t.kind t.len
next_here text at t next = subst (λ x. IsLongest (drop x text) t.kind t.len) next.place next.longest

same_next : (text : List ℕ) (at : ℕ) (t u : Token) → IsNext text at t → IsNext text at u → t ≡ u
same_next text at t u a b =
    let same = same_longest _ t.kind u.kind t.len u.len (next_here text at t a) (next_here text at u b) in
    let place : t.at ≡ u.at = a.place ∙ sym b.place in
    λ i. record { kind = same.0 i; at = place i; len = same.1 i }

-- one thing ends a list
same_end : (text : List ℕ) (at : ℕ) (p q : Option LexFault) → Ends text at p → Ends text at q → p ≡ q
same_end text at None None a b = refl
same_end text at None (Some (Lex x)) a b = absurd (omega arith)
same_end text at None (Some (NumberRange x)) a b = absurd (let within = token_within text at kind.Number b.1.0 b.1.1 in omega arith)
same_end text at (Some (Lex x)) None a b = absurd (omega arith)
same_end text at (Some (Lex x)) (Some (Lex y)) a b = ap (λ z. Some (Lex z)) (a.0 ∙ sym b.0)
same_end text at (Some (Lex x)) (Some (NumberRange y)) a b = absurd (a.2 b.1.0 kind.Number b.1.1.form)
same_end text at (Some (NumberRange x)) None a b = absurd (let within = token_within text at kind.Number a.1.0 a.1.1 in omega arith)
same_end text at (Some (NumberRange x)) (Some (Lex y)) a b = absurd (b.2 a.1.0 kind.Number a.1.1.form)
same_end text at (Some (NumberRange x)) (Some (NumberRange y)) a b = ap (λ z. Some (NumberRange z)) (a.0 ∙ sym b.0)

-- where a token comes next, nothing ends the list
no_end : (text : List ℕ) (at : ℕ) (t : Token) (stop : Option LexFault) → IsNext text at t → Ends text (next_place text at) stop → ⊥
no_end text at t None a b = let within = token_within text _ t.kind t.len (next_here text at t a) in omega arith
no_end text at t (Some (Lex x)) a b = b.2 t.len t.kind (next_here text at t a).form
no_end text at t (Some (NumberRange x)) a b =
    let same = same_longest _ t.kind kind.Number t.len b.1.0 (next_here text at t a) b.1.1 in
    let allowed : IsAllowed kind.Number (take t.len (drop (next_place text at) text)) = subst (λ k. IsAllowed k (take t.len (drop (next_place text at) text))) same.0 (subst (λ x. IsAllowed t.kind (take t.len (drop x text))) a.place a.allowed) in
    b.1.2 (subst (λ n. IsWithinLimit (number_value (take n (drop (next_place text at) text)))) same.1 allowed)

pub one_reading_from : (text : List ℕ) (at : ℕ) (ts us : List Token) (p q : Option LexFault) → Cuts text at ts p → Cuts text at us q → (ts ≡ us) × (p ≡ q)
one_reading_from text at [] [] p q a b = (refl, same_end text (next_place text at) p q a b)
one_reading_from text at [] (u ∷ us) p q a b = absurd (no_end text at u p b.0 a)
one_reading_from text at (t ∷ ts) [] p q a b = absurd (no_end text at t q a.0 b)
one_reading_from text at (t ∷ ts) (u ∷ us) p q a b =
    let same = same_next text at t u a.0 b.0 in
    let rest : MatchBool (is_end text t) ((us ≡ []) × (q ≡ None)) (Cuts text (t.at + t.len) us q) = subst (λ x. MatchBool (is_end text x) ((us ≡ []) × (q ≡ None)) (Cuts text (x.at + x.len) us q)) (sym same) b.1 in
    let more : (ts ≡ us) × (p ≡ q) =
    ⊎_elim
    (λ last. let one = MatchBool-at_true _ _ last a.1 in let other = MatchBool-at_true _ _ last rest in (one.0 ∙ sym other.0, one.1 ∙ sym other.1))
    (λ goes_on. one_reading_from text (t.at + t.len) ts us p q (MatchBool-at_false _ _ goes_on a.1) (MatchBool-at_false _ _ goes_on rest))
    (cases_Bool (is_end text t)) in
    (λ i. same i ∷ more.0 i, more.1)

pub one_reading_of : OneReading
one_reading_of text ts us p q a b = one_reading_from text 0 ts us p q a b

-- what comes next is a token of the text
pub IsTokenOf-next : (text : List ℕ) (at : ℕ) (t : Token) → IsNext text at t → IsTokenOf text t
IsTokenOf-next text at t next =
    let within = token_within text t.at t.kind t.len next.longest in
    let fits = next.longest.in_range in
    record { in_range = omega (arith, length-drop t.at text); form = next.longest.form; allowed = next.allowed }

-- The tokens so far, up to a place: whatever the text is cut into from there on completes them.
pub record CutsUpTo (text : List ℕ) (ts : List Token) (at : ℕ) : Type 0 where
  pub completes : (more : List Token) (stop : Option LexFault) → Cuts text at more stop → IsLexed text (ts ++ more) stop
  pub each : All (IsTokenOf text) ts
  pub in_text : at ≤ length text

pub case_true : {b : Bool} (P Q : Type 0) → b ≡ true → P → MatchBool b P Q
case_true P Q e p = subst (λ x. MatchBool x P Q) (sym e) p

pub case_false : {b : Bool} (P Q : Type 0) → b ≡ false → Q → MatchBool b P Q
case_false P Q e q = subst (λ x. MatchBool x P Q) (sym e) q

-- a list of tokens hangs on the place where the next one may stand, and on no more
cuts_from : (text : List ℕ) (from to : ℕ) → next_place text from ≡ next_place text to → (ts : List Token) (stop : Option LexFault) → Cuts text from ts stop → Cuts text to ts stop
cuts_from text from to same [] stop cut = subst (λ x. Ends text x stop) same cut
cuts_from text from to same (t ∷ ts) stop cut = (record { place = cut.0.place ∙ same; longest = cut.0.longest; allowed = cut.0.allowed }, cut.1)

-- a token stands in no gap
no_gap : (text : List ℕ) (at : ℕ) (k : TokenKind) (n : ℕ) → IsLongest (drop at text) k n → next_place text at ≡ at
no_gap text at k n longest =
    let gap_is = first_gap (drop at text) k (kind_of_front k (drop at text) n longest.form) in
    omega arith

-- only a head is `**EOF**`
never_end : (text : List ℕ) (t : Token) → HasForm t.kind (bytes_of text t) → (kind.Head ≡ t.kind → ⊥) → is_end text t ≡ false
never_end text t form plain =
    ⊎_elim
    (λ ends.
    let same : bytes_of text t ≡ codes "**EOF**" = (bytes_eq-Decides (bytes_of text t) (codes "**EOF**")).0 ends in
    let first : Some kind.Head ≡ Some t.kind = kind_of_first-form t.kind 42 _ (subst (HasForm t.kind) same form) in
    absurd (plain cc))
    (λ goes_on. goes_on)
    (cases_Bool (is_end text t))

module _ (text : List ℕ) (ts : List Token) (at : ℕ) (before : CutsUpTo text ts at) where
  -- one more token
  pub push_next : (t : Token) → IsNext text at t → is_end text t ≡ false → CutsUpTo text (ts ++ t ∷ []) (t.at + t.len)
  push_next t next goes_on = record {
    completes = λ more stop cut.
        subst (λ x. IsLexed text x stop) (sym (append_assoc ts (t ∷ []) more))
        (before.completes (t ∷ more) stop (next, case_false _ _ goes_on cut));
    each = All-push (IsTokenOf text) ts t before.each (IsTokenOf-next text at t next);
    in_text = (IsTokenOf-next text at t next).in_range;
  }

  -- what ends it without a token
  pub stop_here : (stop : Option LexFault) → Ends text (next_place text at) stop → IsLexed text ts stop
  stop_here stop ends = subst (λ x. IsLexed text x stop) (append-nil ts) (before.completes [] stop ends)

  -- what stands between is passed over
  pub go_on : (to : ℕ) → to ≤ length text → next_place text to ≡ next_place text at → CutsUpTo text ts to
  go_on to within same = record {
    completes = λ more stop cut. before.completes more stop (cuts_from text to at same more stop cut);
    each = before.each;
    in_text = within;
  }

  -- the longest token at the place, if it can't be `**EOF**`
  pub add_next : (k : TokenKind) (n : ℕ) → IsLongest (drop at text) k n → IsAllowed k (take n (drop at text)) → (kind.Head ≡ k → ⊥) → CutsUpTo text (ts ++ record { kind = k; at = at; len = n } ∷ []) (at + n)
  add_next k n longest allowed plain =
      let next : IsNext text at (record { kind = k; at = at; len = n }) = record { place = sym (no_gap text at k n longest); longest = longest; allowed = allowed } in
      push_next (record { kind = k; at = at; len = n }) next (never_end text (record { kind = k; at = at; len = n }) longest.form plain)

  -- a number past the limit ends it
  pub past_here : BeginsPastNumber (drop at text) → IsLexed text ts (Some (NumberRange at))
  past_here past =
      let here : at ≡ next_place text at = sym (no_gap text at kind.Number past.0 past.1) in
      stop_here (Some (NumberRange at)) (here, subst (λ x. BeginsPastNumber (drop x text)) here past)
