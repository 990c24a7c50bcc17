-- Pieces are cut one after another.
use Rattle.std.proofs.Common.{◌≡◌, ℕ, ◌+◌, List, [], ◌∷◌, ◌++◌, length, take, drop, map, None, codes, refl, sym, ap, ◌∙◌, subst}
use Rattle.std.specs.Str.{bytes_eq}
use Rattle.std.proofs.Math.Seq.{take-append_seam}
use Rattle.std.proofs.lemmas.List.{drop-drop}
use Rattle.mn_lexer.specs.Forms.{IsLongest}
use Rattle.mn_lexer.specs.Gaps.{gap}
use Rattle.mn_lexer.specs.Reading.{bytes_of, IsAllowed, IsNext, Cuts}
use Rattle.mn_lexer.specs.Terminals.{terminal, token_of}
use Rattle.mn_lexer.specs.declared.Token.{Token}
use Rattle.mn_lexer.proofs.Readings.{case_false, case_true}
use Rattle.mn_pieces.specs.Pieces.{Piece, written, IsApart, AreApart, tokens_from, PiecesAreTokens}
use Rattle.mn_pieces.proofs.Fronts.{longest_piece, gap_is}

drop_front : (xs ys : List ℕ) → drop (length xs) (xs ++ ys) ≡ ys
drop_front [] ys = refl
drop_front (x ∷ xs) ys = drop_front xs ys

module _ (text : List ℕ) (at : ℕ) (p : Piece) (behind : List ℕ) (here : drop at text ≡ p.blanks ++ (p.bytes ++ behind)) where
  abbrev token : Token
  token = record { kind = p.kind; at = at + length p.blanks; len = length p.bytes }

  from_token : drop (at + length p.blanks) text ≡ p.bytes ++ behind
  from_token = sym (drop-drop (length p.blanks) at text) ∙ ap (drop (length p.blanks)) here ∙ drop_front p.blanks (p.bytes ++ behind)

  pub bytes_are : bytes_of text token ≡ p.bytes
  bytes_are = ap (take (length p.bytes)) from_token ∙ take-append_seam p.bytes behind

  pub behind_token : drop (at + length p.blanks + length p.bytes) text ≡ behind
  behind_token = sym (drop-drop (length p.bytes) (at + length p.blanks) text) ∙ ap (drop (length p.bytes)) from_token ∙ drop_front p.bytes behind

  pub next_is : IsApart p behind → IsNext text at token
  next_is apart = record {
    place = ap (λ n. at + n) (sym (ap gap here ∙ gap_is p.blanks p.kind p.bytes behind apart.blank apart.form));
    longest = subst (λ bs. IsLongest bs p.kind (length p.bytes)) (sym from_token) (longest_piece p.kind p.bytes behind apart.form apart.stops);
    allowed = subst (IsAllowed p.kind) (sym bytes_are) apart.allowed;
  }

pub cuts : (text : List ℕ) (at : ℕ) (ps : List Piece) (behind : List ℕ) → drop at text ≡ written ps behind → AreApart ps behind → Cuts text at (tokens_from at ps) None
cuts text at [] behind here apart = absurd apart
cuts text at (p ∷ []) behind here apart =
    (next_is text at p behind here apart.0, case_true _ _ (ap (λ bs. bytes_eq bs (codes "**EOF**")) (bytes_are text at p behind here) ∙ apart.1) (refl, refl))
cuts text at (p ∷ q ∷ ps) behind here apart =
    let rest = written (q ∷ ps) behind in (
      next_is text at p rest here apart.0,
      case_false _ _ (ap (λ bs. bytes_eq bs (codes "**EOF**")) (bytes_are text at p rest here) ∙ apart.1)
          (cuts text (at + length p.blanks + length p.bytes) (q ∷ ps) behind (behind_token text at p rest here) apart.2),
    )

pub stand_for : (text : List ℕ) (at : ℕ) (ps : List Piece) (behind : List ℕ) → drop at text ≡ written ps behind → map (token_of text) (tokens_from at ps) ≡ map (λ p. terminal p.kind p.bytes) ps
stand_for text at [] behind here = refl
stand_for text at (p ∷ ps) behind here =
    let rest = written ps behind in
    λ i. terminal p.kind (bytes_are text at p rest here i) ∷ stand_for text (at + length p.blanks + length p.bytes) ps behind (behind_token text at p rest here) i

pub pieces_are_tokens_of : PiecesAreTokens
pieces_are_tokens_of ps behind apart = (cuts (written ps behind) 0 ps behind refl apart, stand_for (written ps behind) 0 ps behind refl)
