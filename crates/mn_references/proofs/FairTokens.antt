-- The tokens that a cursor has left, and those of a whole text, are fair: each number is a value of the model, and each word
-- has the form of one.
use Rattle.std.proofs.Common.{◌≡◌, ℕ, ◌+◌, ◌-◌, Bool, true, false, List, [], ◌∷◌, length, map, Option, None, sym, subst}
use Rattle.std.specs.Prelude.{MatchBool}
use Rattle.std.specs.List.{All}
use Rattle.std.proofs.lemmas.List.Elements.{All-drop, All-head, All-tail}
use Rattle.mn_lexer.specs.Forms.{HasForm}
use Rattle.mn_lexer.specs.Reading.{IsTokenOf, IsAllowed, IsLexed, Cuts, is_end, bytes_of}
use Rattle.mn_lexer.specs.Terminals.{terminal, token_of}
use Rattle.mn_lexer.specs.Numbers.{number_value}
use Rattle.mn_lexer.specs.declared.LexFault.{LexFault}
use Rattle.mn_lexer.specs.declared.Token.{Token}
use Rattle.mn_lexer.specs.declared.TokenKind.{TokenKind}
use Rattle.mn_lexer.specs.declared.TokenKind.TheVariants as kind
use Rattle.mn_cursor.specs.Progress.{Progress, IsProgress, tokens_left, rest}
use Rattle.mn_cursor.proofs.Fair.{is_a_value}
use Rattle.mn_references.proofs.LawfulVectors.{IsFairToken, AreFair}

fair_kind : (k : TokenKind) (bs : List ℕ) → HasForm k bs → IsAllowed k bs → IsFairToken (terminal k bs)
fair_kind kind.Word bs form allowed = form
fair_kind kind.Number bs form allowed = is_a_value (number_value bs) allowed
fair_kind kind.Head bs form allowed = tt
fair_kind kind.Mark bs form allowed = tt

fair_tokens : (text : List ℕ) (ts : List Token) → All (IsTokenOf text) ts → AreFair (map (token_of text) ts)
fair_tokens text [] all = tt
fair_tokens text (t ∷ ts) all =
    let first = All-head (IsTokenOf text) t ts all in
    (fair_kind t.kind (bytes_of text t) first.form first.allowed, fair_tokens text ts (All-tail (IsTokenOf text) t ts all))

pub rest_fair : (c : Progress) → IsProgress c → AreFair (rest c)
unfolding rest
rest_fair c is = fair_tokens c.text (tokens_left c) (All-drop (IsTokenOf c.text) (length c.tokens - c.left) c.tokens is.each)

-- so are those of a text, up to its end
cut_fair : (text : List ℕ) (at : ℕ) (ts : List Token) (stop : Option LexFault) → Cuts text at ts stop → AreFair (map (token_of text) ts)
cut_fair text at [] stop cuts = tt
cut_fair text at (t ∷ ts) stop cuts =
    (fair_kind t.kind (bytes_of text t) cuts.0.longest.form cuts.0.allowed, by (is_end text t) cuts.1 (λ later. cut_fair text (t.at + t.len) ts stop later))
  where
    by : (ends : Bool) → MatchBool ends ((ts ≡ []) × (stop ≡ None)) (Cuts text (t.at + t.len) ts stop) → (Cuts text (t.at + t.len) ts stop → AreFair (map (token_of text) ts)) → AreFair (map (token_of text) ts)
    by true ended later = subst (λ us. AreFair (map (token_of text) us)) (sym ended.0) tt
    by false cuts later = later cuts

pub lexed_fair : (text : List ℕ) (ts : List Token) (stop : Option LexFault) → IsLexed text ts stop → AreFair (map (token_of text) ts)
lexed_fair text ts stop lexed = cut_fair text 0 ts stop lexed
