-- Which tokens a text says, wherever it stands in a whole one.
use Rattle.std.proofs.Common.{◌≡◌, ℕ, Bool, true, false, ◌||◌, List, [], ◌∷◌, ◌++◌, map, refl, sym, ap, ◌∙◌, subst, codes, append_assoc, arith}
use Rattle.std.specs.Prelude.{not}
use Rattle.std.specs.List.{list_all}
use Rattle.std.specs.Str.{bytes_eq}
use Rattle.std.proofs.lemmas.Bool.{and_from}
use Rattle.std.proofs.lemmas.List.Folds.{list_all-append}
use Rattle.mn_lexer.specs.Bytes.{is_blank}
use Rattle.mn_lexer.specs.Forms.{HasForm}
use Rattle.mn_lexer.specs.Reading.{IsAllowed}
use Rattle.mn_lexer.specs.Terminals.{Terminal, terminal, head}
use Rattle.mn_lexer.specs.declared.TokenKind.{TokenKind}
use Rattle.mn_lexer.specs.declared.TokenKind.TheVariants as kind
use Rattle.mn_pieces.specs.Pieces.{Piece, written, ends_itself, begins_apart, IsPiece, AreSpaced}

-- what a piece stands for
abbrev pub stands_for : Piece → Terminal
stands_for p = terminal p.kind p.bytes

-- The end of a text is spelled as these tokens: it is made of pieces. Behind an open one, which is a word or a number that
-- a byte could go on with, its first piece begins apart.
pub record IsSpelled (behind_open : Bool) (bytes : List ℕ) (ts : List Terminal) : Type 0 where
  pub first : Piece
  pub others : List Piece
  pub behind : List ℕ
  pub spaced : AreSpaced (first ∷ others)
  pub text : bytes ≡ written (first ∷ others) behind
  pub tokens : map stands_for (first ∷ others) ≡ ts
  pub apart : behind_open ≡ true → begins_apart first ≡ true

-- The bytes say these tokens, between what is open before them and what is open behind them: in front of the end of a text
-- they make a longer end.
pub record Says (before : Bool) (bytes : List ℕ) (ts : List Terminal) (after : Bool) : Type 0 where
  pub go : (rest : List ℕ) (us : List Terminal) → IsSpelled after rest us → IsSpelled before (bytes ++ rest) (ts ++ us)

pub says_as : {a b : Bool} {x y : List ℕ} {ts us : List Terminal} → x ≡ y → ts ≡ us → Says a x ts b → Says a y us b
says_as {a} {b} {x} {y} {ts} {us} e f says = subst (λ vs. Says a y vs b) f (subst (λ z. Says a z ts b) e says)

pub says_nothing : {a : Bool} → Says a [] [] a
says_nothing = record { go = λ rest us spelled. spelled }

pub says_both : {a b c : Bool} {x y : List ℕ} {ts us : List Terminal} → Says a x ts b → Says b y us c → Says a (x ++ y) (ts ++ us) c
says_both {a} {b} {c} {x} {y} {ts} {us} one two = record {
  go = λ rest vs spelled.
      subst (λ z. IsSpelled a z ((ts ++ us) ++ vs)) (sym (append_assoc x y rest))
      (subst (λ ws. IsSpelled a (x ++ (y ++ rest)) ws) (sym (append_assoc ts us vs)) (one.go (y ++ rest) (us ++ vs) (two.go rest vs spelled)));
}

-- what may stand behind an open token may stand behind a closed one
never_open : false ≡ true → ⊥
never_open e = absurd cc

closed : {ts : List Terminal} {bytes : List ℕ} → IsSpelled true bytes ts → IsSpelled false bytes ts
closed s = record { first = s.first; others = s.others; behind = s.behind; spaced = s.spaced; text = s.text; tokens = s.tokens; apart = λ e. absurd (never_open e) }

pub says_open : {a : Bool} {x : List ℕ} {ts : List Terminal} → Says a x ts false → Says a x ts true
says_open says = record { go = λ rest us spelled. says.go rest us (closed spelled) }

pub says_closed : {b : Bool} {x : List ℕ} {ts : List Terminal} → Says true x ts b → Says false x ts b
says_closed says = record { go = λ rest us spelled. closed (says.go rest us spelled) }

-- 1. Blanks go to the piece behind them
abbrev with_blanks : List ℕ → Piece → Piece
with_blanks bs p = record p { blanks = bs ++ p.blanks }

blank_piece : (bs : List ℕ) (p : Piece) → list_all is_blank bs ≡ true → IsPiece p → IsPiece (with_blanks bs p)
blank_piece bs p blank piece = record { blank = list_all-append is_blank bs p.blanks ∙ and_from _ _ blank piece.blank; form = piece.form; allowed = piece.allowed }

blank_pieces : (bs : List ℕ) (p : Piece) (ps : List Piece) → list_all is_blank bs ≡ true → AreSpaced (p ∷ ps) → AreSpaced (with_blanks bs p ∷ ps)
blank_pieces bs p [] blank spaced = (blank_piece bs p blank spaced.0, spaced.1, spaced.2)
blank_pieces bs p (q ∷ ps) blank spaced = (blank_piece bs p blank spaced.0, spaced.1, spaced.2, spaced.3)

pub says_blanks : {a : Bool} (b : ℕ) (bs : List ℕ) → list_all is_blank (b ∷ bs) ≡ true → Says a (b ∷ bs) [] false
says_blanks {a} b bs blank = record {
  go = λ rest us spelled. record {
    first = with_blanks (b ∷ bs) spelled.first;
    others = spelled.others;
    behind = spelled.behind;
    spaced = blank_pieces (b ∷ bs) spelled.first spelled.others blank spelled.spaced;
    text = ap (λ z. (b ∷ bs) ++ z) spelled.text ∙ sym (append_assoc (b ∷ bs) spelled.first.blanks _);
    tokens = spelled.tokens;
    apart = λ e. refl;
  };
}

-- 2. A token is a piece of its own
abbrev token_piece : TokenKind → List ℕ → Piece
token_piece k bytes = record { blanks = []; kind = k; bytes = bytes }

either_way : (e b : Bool) → (not e ≡ true → b ≡ true) → (e || b) ≡ true
either_way true b h = refl
either_way false b h = h refl

pub says_token : (k : TokenKind) (bytes : List ℕ) → HasForm k bytes → IsAllowed k bytes → bytes_eq bytes (codes "**EOF**") ≡ false
    → Says (ends_itself k) bytes (terminal k bytes ∷ []) (not (ends_itself k))
says_token k bytes form allowed other = record {
  go = λ rest us spelled. record {
    first = token_piece k bytes;
    others = spelled.first ∷ spelled.others;
    behind = spelled.behind;
    spaced = (record { blank = refl; form = form; allowed = allowed }, other, either_way (ends_itself k) _ spelled.apart, spelled.spaced);
    text = ap (λ z. bytes ++ z) spelled.text;
    tokens = ap (λ ws. terminal k bytes ∷ ws) spelled.tokens;
    apart = λ e. e;
  };
}

-- 3. The token that ends a text
pub end_is_spelled : (behind : List ℕ) → IsSpelled false (codes "**EOF**" ++ behind) (head (codes "**EOF**") ∷ [])
end_is_spelled behind = record {
  first = token_piece kind.Head (codes "**EOF**");
  others = [];
  behind = behind;
  spaced = (record { blank = refl; form = (codes "EOF", (omega arith, refl), refl); allowed = tt }, refl, refl);
  text = refl;
  tokens = refl;
  apart = λ e. absurd (never_open e);
}
