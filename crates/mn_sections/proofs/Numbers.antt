-- Lists of numbers break nothing, and stand for their numbers.
use Rattle.std.proofs.Common.{◌≡◌, ℕ, suc, ◌+◌, ◌<◌, ℤ, leb, Bool, false, not, ◌&&◌, ◌||◌, List, [], ◌∷◌, ◌++◌, length, None, refl, ap, ap₂, ◌∙◌, arith, append_assoc, length-append}
use Rattle.mn_model.specs.Parts.{IsEven}
use Rattle.mn_model.specs.declared.limits.TheConstants.{PLACES}
use Rattle.mn_grammar.specs.Places.{on, behind}
use Rattle.mn_grammar.specs.Lists.{breaks_items, value_items}
use Rattle.mn_grammar.specs.declared.Kind.TheVariants.{Shape, Limit}
use Rattle.mn_grammar.specs.declared.Limit.TheVariants.{Vector as OfVector}
use Rattle.mn_references.specs.Conditions.{lesser}
use Rattle.mn_language.specs.Arguments.{Wanted, exactly, is_full, is_short, is_odd, at_one, at_another, at_close, number_judge, with_number, breaks_numbers, value_numbers}
use Rattle.mn_sections.specs.Trees.{items_from, maybe_items}
use Rattle.mn_sections.proofs.Kept.{token_nothing, when_not, ltb_not, leb_not}

-- n numbers are as many as are wanted, and fewer are never too many
pub record IsCount (w : Wanted) (n : ℕ) : Type 0 where
  pub wanted : (k : ℕ) → k < n → is_full w.count k ≡ false
  pub room : (k : ℕ) → k < n → (w.limited && leb PLACES k) ≡ false
  pub enough : (is_short w.count n || (w.paired && is_odd n)) ≡ false

one_more : (before : List ℤ) (z : ℤ) → length (before ++ z ∷ []) ≡ suc (length before)
one_more before z = length-append before (z ∷ []) ∙ by_one (length before)
  where
    by_one : (n : ℕ) → n + 1 ≡ suc n
    by_one n = omega arith

both_none : (w : Wanted) (k : ℕ) → is_full w.count k ≡ false → (w.limited && leb PLACES k) ≡ false → at_another w k ≡ None
both_none w k full limited = ap₂ lesser (when_not (w.limited && leb PLACES k) (Limit OfVector) limited) (when_not (is_full w.count k) Shape full)

-- numbers behind those before them, n in all
numbers_break : (w : Wanted) (n : ℕ) → IsCount w n → (before : List ℤ) (z : ℤ) (zs : List ℤ) → length before + suc (length zs) ≡ n → breaks_items (number_judge w) (items_from z zs) before ≡ []
numbers_break w n is before z [] size =
    let longer = one_more before z in
    let all : length (before ++ z ∷ []) ≡ n = omega (arith, longer, size) in
    let ends : at_close w (length (before ++ z ∷ [])) ≡ None = ap (at_close w) all ∙ when_not (is_short w.count n || (w.paired && is_odd n)) Shape is.enough in
    token_nothing (at_one w before z) 1 (on (at_close w (length (before ++ z ∷ []))))
    (when_not (is_full w.count (length before)) Shape (is.wanted (length before) (omega (arith, size))))
    (ap on ends)
numbers_break w n is before z (y ∷ zs) size =
    let longer = one_more before z in
    let below : length (before ++ z ∷ []) < n = omega (arith, longer, size) in
    token_nothing (at_one w before z) 1 (on (at_another w (length (before ++ z ∷ []))) ++ behind 1 (breaks_items (number_judge w) (items_from y zs) (before ++ z ∷ [])))
    (when_not (is_full w.count (length before)) Shape (is.wanted (length before) (omega (arith, size))))
    (token_nothing (at_another w (length (before ++ z ∷ []))) 1 (breaks_items (number_judge w) (items_from y zs) (before ++ z ∷ []))
    (both_none w (length (before ++ z ∷ [])) (is.wanted (length (before ++ z ∷ [])) below) (is.room (length (before ++ z ∷ [])) below))
    (numbers_break w n is (before ++ z ∷ []) y zs (omega (arith, longer, size))))

numbers_value : (w : Wanted) (before : List ℤ) (z : ℤ) (zs : List ℤ) → value_items (number_judge w) with_number (items_from z zs) before ≡ before ++ z ∷ zs
numbers_value w before z [] = refl
numbers_value w before z (y ∷ zs) = numbers_value w (before ++ z ∷ []) y zs ∙ append_assoc before (z ∷ []) (y ∷ zs)

-- a bracketed list of numbers
pub list_breaks : (w : Wanted) (zs : List ℤ) → IsCount w (length zs) → breaks_numbers w (maybe_items zs) ≡ []
list_breaks w [] is = ap (λ c. behind 1 (on c)) (when_not (is_short w.count 0 || (w.paired && false)) Shape is.enough)
list_breaks w (z ∷ zs) is = ap (behind 1) (numbers_break w (suc (length zs)) is [] z zs (omega arith))

pub list_value : (w : Wanted) (zs : List ℤ) → value_numbers w (maybe_items zs) ≡ zs
list_value w [] = refl
list_value w (z ∷ zs) = numbers_value w [] z zs

-- a tuple of the wanted length
pub exact_count : (n : ℕ) → IsCount (exactly n) n
exact_count n = record {
  wanted = λ k below. leb_not n k below;
  room = λ k below. refl;
  enough = ap (λ b. b || false) (ltb_not n n (omega arith));
}

pub tuple_breaks : (n : ℕ) (z : ℤ) (zs : List ℤ) → suc (length zs) ≡ n → breaks_items (number_judge (exactly n)) (items_from z zs) [] ≡ []
tuple_breaks n z zs size = numbers_break (exactly n) n (exact_count n) [] z zs (omega (arith, size))

pub tuple_value : (n : ℕ) (z : ℤ) (zs : List ℤ) → value_items (number_judge (exactly n)) with_number (items_from z zs) [] ≡ z ∷ zs
tuple_value n z zs = numbers_value (exactly n) [] z zs

-- numbers in pairs
twice : (b : Bool) → b ≡ false → not (not b) ≡ false
twice b e = ap (λ x. not (not x)) e

pub even_length : (zs : List ℤ) → IsEven zs → is_odd (length zs) ≡ false
even_length [] even = refl
even_length (z ∷ []) even = absurd even
even_length (y ∷ z ∷ zs) even = twice (is_odd (length zs)) (even_length zs even)
