-- The values of a domain, one after another.
use Rattle.std.proofs.Common.{◌≡◌, ℕ, zero, suc, ◌+◌, ℤ, List, [], ◌∷◌, ◌++◌, map, drop, slice_get, Some, codes, ap, sym, ◌∙◌, arith}
use Rattle.std.proofs.lemmas.Grind.{common_steps}
use Rattle.std.specs.Fmt.{signed_decimal}
use Rattle.std.specs.List.{flat_map}
use Rattle.std.proofs.lemmas.Option.{same_Some}
use Rattle.mn_model.proofs.Sizes.{suc_plus_one}
use Rattle.mn_canonical.specs.Declarations.{values_text}
use Rattle.mn_canonical.specs.Lists.{braced}
use Rattle.mn_printer.specs.Pages.{Written, onto}
use Rattle.mn_printer.proofs.Joining.{onto_joined}
use Rattle.mn_printer.proofs.Owners.{none_there}

pub drop_there : (xs : List ℤ) (i : ℕ) (x : ℤ) → slice_get xs i ≡ Some x → drop i xs ≡ x ∷ drop (i + 1) xs
drop_there [] i x is = absurd (none_there i x is)
drop_there (y ∷ xs) zero x is = ap (λ z. z ∷ xs) (same_Some y x is)
drop_there (y ∷ xs) (suc i) x is = rw (suc_plus_one i) (drop_there xs i x is)

abbrev pub further_values : List ℤ → List ℕ
further_values values = flat_map (λ y. codes "," ++ y) (map signed_decimal values)

pub one_value_more : (w v u : Written) (xs : List ℤ) (i : ℕ) (x : ℤ) → slice_get xs i ≡ Some x → v ≡ onto w (codes ",") → u ≡ onto v (signed_decimal x)
    → onto u (further_values (drop (i + 1) xs)) ≡ onto w (further_values (drop i xs))
one_value_more w v u xs i x is first second =
    let tail = further_values (drop (i + 1) xs) in
    ap (λ t. onto t tail) (second ∙ ap (λ t. onto t (signed_decimal x)) first ∙ onto_joined w (codes ",") (signed_decimal x)) ∙ onto_joined w (codes "," ++ signed_decimal x) tail
    ∙ ap (λ ys. onto w (further_values ys)) (sym (drop_there xs i x is))

pub values_is : (xs : List ℤ) (x : ℤ) → slice_get xs 0 ≡ Some x → values_text xs ≡ ((codes " {" ++ signed_decimal x) ++ further_values (drop 1 xs)) ++ codes "}"
unfolding braced
values_is xs x is = ap values_text (drop_there xs 0 x is) ∙ regrouped (signed_decimal x) (further_values (drop 1 xs))
  where
    regrouped : (ys zs : List ℕ) → codes " " ++ ((codes "{" ++ (ys ++ zs)) ++ codes "}") ≡ ((codes " {" ++ ys) ++ zs) ++ codes "}"
    regrouped ys zs = grind (arith, common_steps)
