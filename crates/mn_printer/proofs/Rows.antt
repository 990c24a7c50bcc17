-- Rows that are written one behind another.
use Rattle.std.proofs.Common.{◌≡◌, ℕ, zero, suc, ◌-◌, ◌<◌, List, [], ◌∷◌, ◌++◌, map, take, drop, refl, ap, sym, ◌∙◌, arith}
use Rattle.std.specs.List.{flat_map}
use Rattle.mn_sections.specs.Matrices.{rows_of}
use Rattle.mn_canonical.specs.Lists.{with_commas}
use Rattle.mn_printer.specs.Pages.{Written, onto}
use Rattle.mn_printer.proofs.Joining.{onto_joined}

less_one : (n : ℕ) → suc n - 1 ≡ n
less_one n = omega arith

-- a row is taken from the front
pub rows_step : {X : Type 0} (size left : ℕ) (xs : List X) → 0 < left → rows_of size left xs ≡ take size xs ∷ rows_of size (left - 1) (drop size xs)
rows_step size zero xs some = absurd (omega arith)
rows_step size (suc left) xs some = ap (λ n. take size xs ∷ rows_of size n (drop size xs)) (sym (less_one left))

pub no_rows : {X : Type 0} (size left : ℕ) (xs : List X) → left ≡ 0 → rows_of size left xs ≡ []
no_rows size zero xs none = refl
no_rows size (suc left) xs none = absurd (omega arith)

-- one row more is written
pub one_row_more : {X : Type 0} (w u : Written) (f : List X → List ℕ) (size left : ℕ) (xs rest : List X) (line : List ℕ) → 0 < left → rest ≡ drop size xs → u ≡ onto w line → line ≡ f (take size xs)
    → onto u (flat_map f (rows_of size (left - 1) rest)) ≡ onto w (flat_map f (rows_of size left xs))
one_row_more w u f size left xs rest line some is written is_line =
    ap (λ t. onto t (flat_map f (rows_of size (left - 1) rest))) (written ∙ ap (onto w) is_line)
    ∙ onto_joined w (f (take size xs)) (flat_map f (rows_of size (left - 1) rest))
    ∙ ap (onto w) (ap (λ ys. f (take size xs) ++ flat_map f (rows_of size (left - 1) ys)) is ∙ ap (flat_map f) (sym (rows_step size left xs some)))

pub one_mapped_row_more : {X : Type 0} (w u : Written) (f : List ℕ → List ℕ) (text : List X → List ℕ) (size left : ℕ) (xs rest : List X) (line : List ℕ) → 0 < left → rest ≡ drop size xs → u ≡ onto w line → line ≡ f (text (take size xs))
    → onto u (flat_map f (map text (rows_of size (left - 1) rest))) ≡ onto w (flat_map f (map text (rows_of size left xs)))
one_mapped_row_more w u f text size left xs rest line some is written is_line =
    ap (λ t. onto t (flat_map f (map text (rows_of size (left - 1) rest)))) (written ∙ ap (onto w) is_line)
    ∙ onto_joined w (f (text (take size xs))) (flat_map f (map text (rows_of size (left - 1) rest)))
    ∙ ap (onto w) (ap (λ ys. f (text (take size xs)) ++ flat_map f (map text (rows_of size (left - 1) ys))) is ∙ ap (λ rows. flat_map f (map text rows)) (sym (rows_step size left xs some)))

-- the first row, and those behind it with a comma before each
pub rows_with_commas : {X : Type 0} (text : List X → List ℕ) (size left : ℕ) (xs rest : List X) → 0 < left → rest ≡ drop size xs
    → with_commas (map text (rows_of size left xs)) ≡ text (take size xs) ++ flat_map (λ y. 44 ∷ y) (map text (rows_of size (left - 1) rest))
rows_with_commas text size left xs rest some is =
    ap (λ rows. with_commas (map text rows)) (rows_step size left xs some) ∙ ap (λ ys. text (take size xs) ++ flat_map (λ y. 44 ∷ y) (map text (rows_of size (left - 1) ys))) (sym is)
