-- A list of trees breaks nothing where each entry does, by the states in turn.
use Rattle.std.proofs.Common.{◌≡◌, List, [], ◌∷◌, map, None, refl}
use Rattle.mn_grammar.specs.Lists.{Judge, breaks_items}
use Rattle.mn_sections.specs.Trees.{items_from}

-- each entry breaks nothing, and neither does the mark behind it
abbrev pub AllFit : {X A S V : Type 0} → Judge A S V → (X → A) → S → X → List X → Type 0
AllFit j tree s x [] = (j.breaks s (tree x) ≡ []) × (j.ends.close s (j.value s (tree x)) ≡ None)
AllFit j tree s x (y ∷ ys) =
    (j.breaks s (tree x) ≡ []) × (j.ends.comma s (j.value s (tree x)) ≡ None) × AllFit j tree (j.ends.next s (j.value s (tree x))) y ys

pub items_break : {X A S V : Type 0} (j : Judge A S V) (tree : X → A) (s : S) (x : X) (xs : List X) → AllFit j tree s x xs → breaks_items j (items_from (tree x) (map tree xs)) s ≡ []
items_break j tree s x [] fit = rw (fit.0, fit.1) refl
items_break j tree s x (y ∷ ys) fit = rw (fit.0, fit.1, items_break j tree (j.ends.next s (j.value s (tree x))) y ys fit.2) refl
