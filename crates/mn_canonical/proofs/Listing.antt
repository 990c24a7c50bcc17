-- What lists say: their entries, with commas between.
use Rattle.std.proofs.Common.{◌≡◌, ℕ, true, false, List, [], ◌∷◌, ◌++◌, map, refl, sym, ap, codes, append_assoc}
use Rattle.std.specs.List.{flat_map, AllByRecursion}
use Rattle.std.proofs.lemmas.Grind.{flat_map-append}
use Rattle.mn_lexer.specs.Marks.{mark_text}
use Rattle.mn_lexer.specs.Terminals.{Terminal, mark}
use Rattle.mn_lexer.specs.declared.marks.Mark.{Mark}
use Rattle.mn_lexer.specs.declared.marks.Mark.TheVariants.{Comma, OpenSquare, CloseSquare, OpenCurly, CloseCurly}
use Rattle.mn_grammar.specs.Lists.{spell_items, spell_maybe}
use Rattle.mn_sections.specs.Trees.{items_from, maybe_items}
use Rattle.mn_canonical.specs.Lists.{with_commas, bracketed, braced}
use Rattle.mn_canonical.proofs.Saying.{Says, says_as, says_both, says_closed, says_nothing}
use Rattle.mn_canonical.proofs.Tokens.{says_mark}

-- a comma, and what stands behind it
abbrev pub comma_before : List ℕ → List ℕ
comma_before x = codes "," ++ x

module _ {B : Type 0} (spell : B → List Terminal) where
  -- each text says the spelling of its tree
  abbrev pub AllSaid : List (List ℕ) → List B → Type 0
  AllSaid [] [] = Unit {0}
  AllSaid [] (b ∷ bs) = ⊥
  AllSaid (x ∷ xs) [] = ⊥
  AllSaid (x ∷ xs) (b ∷ bs) = Says false x (spell b) true × AllSaid xs bs

  pub said_map : {A : Type 0} (text : A → List ℕ) (tree : A → B) (P : A → Type 0) → ((a : A) → P a → Says false (text a) (spell (tree a)) true)
      → (list : List A) → AllByRecursion P list → AllSaid (map text list) (map tree list)
  said_map text tree P each [] all = tt
  said_map text tree P each (a ∷ list) all = (each a all.0, said_map text tree P each list all.1)

  -- what stands behind an entry
  abbrev behind_entry : Mark → List B → List Terminal
  behind_entry shut [] = mark shut ∷ []
  behind_entry shut (b ∷ bs) = mark Comma ∷ (spell b ++ behind_entry shut bs)

  items_spelled : (shut : Mark) (b : B) (bs : List B) → spell b ++ behind_entry shut bs ≡ spell_items shut spell (items_from b bs)
  items_spelled shut b [] = refl
  items_spelled shut b (c ∷ bs) = ap (λ ts. spell b ++ mark Comma ∷ ts) (items_spelled shut c bs)

  said_behind : (shut : Mark) (xs : List (List ℕ)) (bs : List B) → AllSaid xs bs → Says true (flat_map comma_before xs ++ mark_text shut) (behind_entry shut bs) false
  said_behind shut [] [] all = says_mark shut
  said_behind shut [] (b ∷ bs) all = absurd all
  said_behind shut (x ∷ xs) [] all = absurd all
  said_behind shut (x ∷ xs) (b ∷ bs) all =
      says_as (ap comma_before (sym (append_assoc x (flat_map comma_before xs) (mark_text shut)))) refl
      (says_both (says_mark Comma) (says_both all.0 (said_behind shut xs bs all.1)))

  pub says_items : (shut : Mark) (x : List ℕ) (xs : List (List ℕ)) (b : B) (bs : List B) → AllSaid (x ∷ xs) (b ∷ bs)
      → Says false (with_commas (x ∷ xs) ++ mark_text shut) (spell_items shut spell (items_from b bs)) false
  says_items shut x xs b bs all =
      says_as (sym (append_assoc x (flat_map comma_before xs) (mark_text shut))) (items_spelled shut b bs) (says_both all.0 (said_behind shut xs bs all.1))

  pub says_maybe : (shut : Mark) (xs : List (List ℕ)) (bs : List B) → AllSaid xs bs → Says false (with_commas xs ++ mark_text shut) (spell_maybe shut spell (maybe_items bs)) false
  says_maybe shut [] [] all = says_closed (says_mark shut)
  says_maybe shut [] (b ∷ bs) all = absurd all
  says_maybe shut (x ∷ xs) [] all = absurd all
  says_maybe shut (x ∷ xs) (b ∷ bs) all = says_items shut x xs b bs all

  pub says_bracketed : (xs : List (List ℕ)) (bs : List B) → AllSaid xs bs → Says true (bracketed xs) (mark OpenSquare ∷ spell_maybe CloseSquare spell (maybe_items bs)) false
  unfolding bracketed
  says_bracketed xs bs all = says_both (says_mark OpenSquare) (says_maybe CloseSquare xs bs all)

  pub says_braced : (xs : List (List ℕ)) (bs : List B) → AllSaid xs bs → Says true (braced xs) (mark OpenCurly ∷ spell_maybe CloseCurly spell (maybe_items bs)) false
  unfolding braced
  says_braced xs bs all = says_both (says_mark OpenCurly) (says_maybe CloseCurly xs bs all)

-- Lines one behind another.
pub both_lists : {B : Type 0} {x y : List ℕ} (spell : B → List Terminal) (bs cs : List B) → Says false x (flat_map spell bs) false → Says false y (flat_map spell cs) false
    → Says false (x ++ y) (flat_map spell (bs ++ cs)) false
both_lists spell bs cs one two = says_as refl (sym (flat_map-append spell bs cs)) (says_both one two)

pub says_each : {A B : Type 0} (spell : B → List Terminal) (text : A → List ℕ) (tree : A → B) (P : A → Type 0) → ((a : A) → P a → Says false (text a) (spell (tree a)) false)
    → (list : List A) → AllByRecursion P list → Says false (flat_map text list) (flat_map spell (map tree list)) false
says_each spell text tree P each [] all = says_nothing
says_each spell text tree P each (a ∷ list) all = says_both (each a all.0) (says_each spell text tree P each list all.1)
