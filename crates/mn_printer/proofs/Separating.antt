-- Texts with a separator between each two, from the first on.
use Rattle.std.proofs.Common.{◌≡◌, ℕ, ◌-◌, ◌<◌, ◌≤◌, List, [], ◌∷◌, ◌++◌, length, map, take, drop, get_or, refl, ap, sym, ◌∙◌, append-nil, ◌+◌, arith, Result, Ok, Err, OnOk, take_all}
use Rattle.std.proofs.lemmas.Grind.{common_steps, flat_map-append}
use Rattle.std.proofs.lemmas.List.{take_more}
use Rattle.std.specs.List.{flat_map}
use Rattle.mn_canonical.specs.Lists.{separated}
use Rattle.mn_printer.specs.Pages.{Written, onto}
use Rattle.mn_printer.proofs.Joining.{onto_joined}

-- what follows from what holds where a call succeeds
pub on_ok : {R E : Type 0} {P Q : Type 0} (r : Result R E) → (P → Q) → OnOk r P → OnOk r Q
on_ok (Ok x) f p = f p
on_ok (Err e) f p = tt

pub separated_first : {X : Type 0} (separator : List ℕ) (text : X → List ℕ) (items : List X) (x : X) → 1 ≤ length items → x ≡ get_or items 0 x
    → separated separator (map text items) ≡ text x ++ flat_map (λ y. separator ++ y) (map text (take (length items - 1) (drop 1 items)))
separated_first separator text [] x some e = absurd (omega arith)
separated_first separator text (y ∷ items) x some e = ap (λ z. text z ++ flat_map (λ w. separator ++ w) (map text items)) (sym e) ∙ ap (λ zs. text x ++ flat_map (λ w. separator ++ w) (map text zs)) (sym (all_left y items))
  where
    all_left : {X : Type 0} (y : X) (items : List X) → take (length (y ∷ items) - 1) items ≡ items
    all_left y items = grind (arith, common_steps)

pub separated_none : {X : Type 0} (separator : List ℕ) (text : X → List ℕ) (items : List X) → length items < 1 → separated separator (map text items) ≡ []
separated_none separator text [] none = refl
separated_none separator text (y ∷ items) none = absurd (omega arith)

-- one writing behind another
pub then_onto : {R E : Type 0} (r : Result R E) (w v u : Written) (xs ys all : List ℕ) → v ≡ onto w xs → all ≡ xs ++ ys → OnOk r (u ≡ onto v ys) → OnOk r (u ≡ onto w all)
then_onto r w v u xs ys all first whole second =
    on_ok r (λ e. e ∙ ap (λ t. onto t ys) first ∙ onto_joined w xs ys ∙ ap (λ t. onto w t) (sym whole)) second

pub twice : (w v u : Written) (xs ys : List ℕ) → v ≡ onto w xs → u ≡ onto v ys → u ≡ onto w (xs ++ ys)
twice w v u xs ys first second = second ∙ ap (λ t. onto t ys) first ∙ onto_joined w xs ys

pub thrice : (w v u t : Written) (xs ys zs : List ℕ) → v ≡ onto w xs → u ≡ onto v ys → t ≡ onto u zs → t ≡ onto w ((xs ++ ys) ++ zs)
thrice w v u t xs ys zs first second third = twice w u t (xs ++ ys) zs (twice w v u xs ys first second) third

-- one item more of a list is written
pub item_more : {X : Type 0} (w v u : Written) (text : X → List ℕ) (xs : List X) (i : ℕ) (x : X) → x ≡ get_or xs i x → i < length xs → v ≡ onto w (flat_map text (take i xs)) → u ≡ onto v (text x)
    → u ≡ onto w (flat_map text (take (i + 1) xs))
item_more w v u text xs i x is within so_far one =
    let more : take (i + 1) xs ≡ take i xs ++ x ∷ [] = take_more xs i x within ∙ ap (λ y. take i xs ++ y ∷ []) (sym is) in
    let whole : flat_map text (take (i + 1) xs) ≡ flat_map text (take i xs) ++ text x =
    ap (flat_map text) more ∙ flat_map-append text (take i xs) (x ∷ []) ∙ ap (λ t. flat_map text (take i xs) ++ t) (append-nil (text x)) in
    twice w v u (flat_map text (take i xs)) (text x) so_far one ∙ ap (onto w) (sym whole)

-- all items of a list are written
pub items_all : {X : Type 0} (w v : Written) (text : X → List ℕ) (xs ys : List X) (i : ℕ) → xs ≡ ys → length xs ≤ i → v ≡ onto w (flat_map text (take i xs)) → v ≡ onto w (flat_map text ys)
items_all w v text xs ys i same all so_far =
    so_far ∙ ap (λ zs. onto w (flat_map text zs)) (take_all i xs all ∙ same)
