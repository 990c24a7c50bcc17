-- Lists of trees, each for one thing, whose state is the list of the things so far.
use Rattle.std.proofs.Common.{◌≡◌, ◌≤◌, List, [], ◌∷◌, ◌++◌, length, map, Option, None, refl, ap, ◌∙◌, append_assoc, arith}
use Rattle.mn_grammar.specs.Places.{on, behind}
use Rattle.mn_grammar.specs.Lists.{Judge, breaks_items, breaks_maybe, value_items, value_maybe}
use Rattle.mn_grammar.specs.declared.Kind.{Kind}
use Rattle.mn_sections.specs.Trees.{items_from, maybe_items}
use Rattle.mn_sections.proofs.Kept.{on_none, part_nothing, token_nothing}

-- what the mark behind an entry breaks, by what follows: a `,` before more, or else the mark that closes the list
abbrev pub mark_breaks : {X : Type 0} → List X → Option Kind → Option Kind → Option Kind
mark_breaks [] comma close = close
mark_breaks (x ∷ left) comma close = comma

pub mark_none : {X : Type 0} (left : List X) (comma close : Option Kind) → (1 ≤ length left → comma ≡ None) → (length left ≡ 0 → close ≡ None) → mark_breaks left comma close ≡ None
mark_none [] comma close more done = done refl
mark_none (x ∷ left) comma close more done = more (omega arith)

module _ {X A V : Type 0} (j : Judge A (List X) V) (result : List X → V → List X) (tree : X → A) where
  -- the tree of x breaks nothing behind those of the things before, nor does the mark behind it, and it adds x to them
  pub record IsGathered (before : List X) (x : X) (left : List X) : Type 0 where
    pub breaks : j.breaks before (tree x) ≡ []
    pub mark : mark_breaks left (j.ends.comma before (j.value before (tree x))) (j.ends.close before (j.value before (tree x))) ≡ None
    pub next : j.ends.next before (j.value before (tree x)) ≡ before ++ x ∷ []
    pub last : result before (j.value before (tree x)) ≡ before ++ x ∷ []

  -- so is each of the whole list
  abbrev pub AreGathered : List X → Type 0
  AreGathered whole = (before : List X) (x : X) (left : List X) → before ++ x ∷ left ≡ whole → IsGathered before x left

  module _ (whole : List X) (gathered : AreGathered whole) where
    items_break : (before : List X) (x : X) (left : List X) → before ++ x ∷ left ≡ whole → breaks_items j (items_from (tree x) (map tree left)) before ≡ []
    items_break before x [] e =
        let here = gathered before x [] e in
        part_nothing (length (j.spell (tree x))) (j.breaks before (tree x)) (on (j.ends.close before (j.value before (tree x)))) here.breaks
        (on_none (j.ends.close before (j.value before (tree x))) here.mark)
    items_break before x (y ∷ left) e =
        let here = gathered before x (y ∷ left) e in
        let others = items_break (before ++ x ∷ []) y left (append_assoc before (x ∷ []) (y ∷ left) ∙ e) in
        part_nothing (length (j.spell (tree x))) (j.breaks before (tree x)) (on (j.ends.comma before (j.value before (tree x))) ++ behind 1 (breaks_items j (items_from (tree y) (map tree left)) (j.ends.next before (j.value before (tree x))))) here.breaks
        (token_nothing (j.ends.comma before (j.value before (tree x))) 1 (breaks_items j (items_from (tree y) (map tree left)) (j.ends.next before (j.value before (tree x)))) here.mark
        (ap (breaks_items j (items_from (tree y) (map tree left))) here.next ∙ others))

    items_mean : (before : List X) (x : X) (left : List X) → before ++ x ∷ left ≡ whole → value_items j result (items_from (tree x) (map tree left)) before ≡ whole
    items_mean before x [] e = (gathered before x [] e).last ∙ e
    items_mean before x (y ∷ left) e =
        ap (value_items j result (items_from (tree y) (map tree left))) (gathered before x (y ∷ left) e).next
        ∙ items_mean (before ++ x ∷ []) y left (append_assoc before (x ∷ []) (y ∷ left) ∙ e)

  -- a list with one thing or more, and any list
  pub list_breaks : (x : X) (left : List X) → AreGathered (x ∷ left) → breaks_items j (items_from (tree x) (map tree left)) [] ≡ []
  list_breaks x left gathered = items_break (x ∷ left) gathered [] x left refl

  pub list_means : (x : X) (left : List X) → AreGathered (x ∷ left) → value_items j result (items_from (tree x) (map tree left)) [] ≡ x ∷ left
  list_means x left gathered = items_mean (x ∷ left) gathered [] x left refl

  pub maybe_breaks : (empty : Option Kind) (whole : List X) → (whole ≡ [] → empty ≡ None) → AreGathered whole → breaks_maybe j empty (maybe_items (map tree whole)) [] ≡ []
  maybe_breaks empty [] none gathered = on_none empty (none refl)
  maybe_breaks empty (x ∷ left) none gathered = list_breaks x left gathered

  pub maybe_means : (whole : List X) → AreGathered whole → value_maybe j [] result (maybe_items (map tree whole)) [] ≡ whole
  maybe_means [] gathered = refl
  maybe_means (x ∷ left) gathered = list_means x left gathered
