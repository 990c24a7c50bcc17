-- Texts one after another.
use Rattle.std.specs.Prelude.{ℕ, zero, suc, List, [], ◌∷◌, ◌++◌, codes}
use Rattle.std.specs.List.{flat_map}

-- the texts in order, with a separator between each two
abbrev pub separated : List ℕ → List (List ℕ) → List ℕ
separated separator [] = []
separated separator (x ∷ xs) = x ++ flat_map (λ y. separator ++ y) xs

-- with a comma between each two; in brackets; in braces
abbrev pub with_commas : List (List ℕ) → List ℕ
with_commas xs = separated (codes ",") xs

unfoldable pub bracketed : List (List ℕ) → List ℕ
bracketed xs = codes "[" ++ with_commas xs ++ codes "]"

unfoldable pub braced : List (List ℕ) → List ℕ
braced xs = codes "{" ++ with_commas xs ++ codes "}"

-- the same bytes so many times
abbrev pub repeated : ℕ → List ℕ → List ℕ
repeated zero bytes = []
repeated (suc n) bytes = bytes ++ repeated n bytes
