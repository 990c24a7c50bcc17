-- Characters and their bytes.
use Rattle.std.proofs.Common.{◌≡◌, ℕ, List, [], ◌∷◌, ◌++◌, encode_utf8, encode_utf8_all, append-nil, append_assoc, sym, ap, ◌∙◌}

-- one character more
pub spelled_more : (xs : List ℕ) (c : ℕ) → encode_utf8_all (xs ++ c ∷ []) ≡ encode_utf8_all xs ++ encode_utf8 c
spelled_more [] c = append-nil (encode_utf8 c)
spelled_more (x ∷ xs) c = ap (λ t. encode_utf8 x ++ t) (spelled_more xs c) ∙ sym (append_assoc (encode_utf8 x) (encode_utf8_all xs) (encode_utf8 c))
