-- The first and the last of values that pass a test.
use Rattle.std.proofs.Common.{◌≡◌, ℕ, suc, ◌+◌, ◌<◌, ◌≤◌, ℤ, pos, ◌≤ℤ◌, ◌⊎◌, inl, inr, Bool, true, false, true≢false, cond, ◌&&◌, ◌||◌, List, [], ◌∷◌, length, filter, get_or, Some, None, refl, sym, subst, ap, ◌∙◌, arith}
use Rattle.std.specs.List.{list_any}
use Rattle.std.proofs.lemmas.Bool.{cases_lt}
use Rattle.mn_model.specs.Domain.{Ascends, Has}
use Rattle.mn_model.proofs.Ordered.{has_at, in_order}
use Rattle.mn_model.proofs.Filtered.{filter_ascends, filter_has, has_filter}
use Rattle.mn_boxes.specs.Sets.{greatest, least}
use Rattle.mn_boxes.proofs.Members.{is_first, is_last}
use Rattle.mn_domains.proofs.Filtered.{filter_none}

pub both_true : (a b : Bool) → a ≡ true → b ≡ true → (a && b) ≡ true
both_true true b is h = h
both_true false b is h = is

pub left_true : (a b : Bool) → (a && b) ≡ true → a ≡ true
left_true true b h = refl
left_true false b h = h

pub right_true : (a b : Bool) → (a && b) ≡ true → b ≡ true
right_true true b h = h
right_true false b h = absurd (true≢false (sym h))

pub least_is : (q : ℤ → Bool) (xs : List ℤ) (a : ℤ) → Ascends xs → Has xs a → q a ≡ true → ((b : ℤ) → Has xs b → q b ≡ true → a ≤ℤ b) → least (filter q xs) ≡ Some a
least_is q xs a up has pass others = is_first (filter q xs) a (filter_ascends q xs up) (record { has = filter_has q xs a has pass; others = λ b h. (let p = has_filter q xs b h in others b p.has p.passes) })

pub greatest_is : (q : ℤ → Bool) (xs : List ℤ) (a : ℤ) → Ascends xs → Has xs a → q a ≡ true → ((b : ℤ) → Has xs b → q b ≡ true → b ≤ℤ a) → greatest (filter q xs) ≡ Some a
greatest_is q xs a up has pass others = is_last (filter q xs) a (filter_ascends q xs up) (record { has = filter_has q xs a has pass; others = λ b h. (let p = has_filter q xs b h in others b p.has p.passes) })

pub least_none : (q : ℤ → Bool) (xs : List ℤ) → ((a : ℤ) → Has xs a → q a ≡ false) → least (filter q xs) ≡ None
least_none q xs none = ap least (filter_none q xs none)

pub greatest_none : (q : ℤ → Bool) (xs : List ℤ) → ((a : ℤ) → Has xs a → q a ≡ false) → greatest (filter q xs) ≡ None
greatest_none q xs none = ap greatest (filter_none q xs none)

-- what has no first value is empty, and so is what has no last one
pub no_least : (xs : List ℤ) → least xs ≡ None → xs ≡ []
no_least [] none = refl
no_least (x ∷ xs) none = cc

-- whether some value passes is whether there is a first one
pub any_least : (q : ℤ → Bool) (xs : List ℤ) (a : ℤ) → least (filter q xs) ≡ Some a → list_any q xs ≡ true
any_least q [] a first = cc
any_least q (x ∷ xs) a first = by (any_least q xs a) (q x) first
  where
    by : (least (filter q xs) ≡ Some a → list_any q xs ≡ true) → (t : Bool) → least (cond t (x ∷ filter q xs) (filter q xs)) ≡ Some a → (t || list_any q xs) ≡ true
    by rest true h = refl
    by rest false h = rest h

pub any_none : (q : ℤ → Bool) (xs : List ℤ) → least (filter q xs) ≡ None → list_any q xs ≡ false
any_none q [] none = refl
any_none q (x ∷ xs) none = by (any_none q xs) (q x) none
  where
    by : (least (filter q xs) ≡ None → list_any q xs ≡ false) → (t : Bool) → least (cond t (x ∷ filter q xs) (filter q xs)) ≡ None → (t || list_any q xs) ≡ false
    by rest true h = cc
    by rest false h = rest h

-- ---- by places

pub record Stands (xs : List ℤ) (b : ℤ) : Type 0 where
  pub place : ℕ
  pub within : place < length xs
  pub at : get_or xs place (pos 0) ≡ b

pub stands : (xs : List ℤ) (b : ℤ) → Has xs b → Stands xs b
stands [] b has = absurd has
stands (x ∷ xs) b (inl is) = record { place = 0; within = omega arith; at = is }
stands (x ∷ xs) b (inr later) = let s = stands xs b later in let w = s.within in record { place = suc s.place; within = omega arith; at = s.at }

abbrev pub NoneBefore : (ℤ → Bool) → List ℤ → ℕ → Type 0
NoneBefore q xs i = (j : ℕ) → j < i → j < length xs → q (get_or xs j (pos 0)) ≡ false

abbrev pub NoneBehind : (ℤ → Bool) → List ℤ → ℕ → Type 0
NoneBehind q xs i = (j : ℕ) → i ≤ j → j < length xs → q (get_or xs j (pos 0)) ≡ false

pub first_at : (q : ℤ → Bool) (xs : List ℤ) (i : ℕ) → Ascends xs → i < length xs → NoneBefore q xs i → q (get_or xs i (pos 0)) ≡ true → least (filter q xs) ≡ Some (get_or xs i (pos 0))
first_at q xs i up within none pass = least_is q xs (get_or xs i (pos 0)) up (has_at xs i (pos 0) within) pass others
  where
    others : (b : ℤ) → Has xs b → q b ≡ true → get_or xs i (pos 0) ≤ℤ b
    others b has t = let s = stands xs b has in by s.place s.within s.at (cases_lt s.place i)
      where
        by : (j : ℕ) → j < length xs → get_or xs j (pos 0) ≡ b → (j < i) ⊎ (i ≤ j) → get_or xs i (pos 0) ≤ℤ b
        by j inside at (inl less) = absurd (true≢false (sym t ∙ (ap q (sym at) ∙ none j less inside)))
        by j inside at (inr le) = subst (λ z. get_or xs i (pos 0) ≤ℤ z) at (in_order xs i j (pos 0) up le inside)

pub last_at : (q : ℤ → Bool) (xs : List ℤ) (i : ℕ) → Ascends xs → i < length xs → NoneBehind q xs (i + 1) → q (get_or xs i (pos 0)) ≡ true → greatest (filter q xs) ≡ Some (get_or xs i (pos 0))
last_at q xs i up within none pass = greatest_is q xs (get_or xs i (pos 0)) up (has_at xs i (pos 0) within) pass others
  where
    others : (b : ℤ) → Has xs b → q b ≡ true → b ≤ℤ get_or xs i (pos 0)
    others b has t = let s = stands xs b has in by s.place s.within s.at (cases_lt i s.place)
      where
        by : (j : ℕ) → j < length xs → get_or xs j (pos 0) ≡ b → (i < j) ⊎ (j ≤ i) → b ≤ℤ get_or xs i (pos 0)
        by j inside at (inl more) = absurd (true≢false (sym t ∙ (ap q (sym at) ∙ none j (omega arith) inside)))
        by j inside at (inr le) = subst (λ z. z ≤ℤ get_or xs i (pos 0)) at (in_order xs j i (pos 0) up le within)

nowhere : (q : ℤ → Bool) (xs : List ℤ) → ((j : ℕ) → j < length xs → q (get_or xs j (pos 0)) ≡ false) → (a : ℤ) → Has xs a → q a ≡ false
nowhere q xs none a has = let s = stands xs a has in ap q (sym s.at) ∙ none s.place s.within

pub none_before : (q : ℤ → Bool) (xs : List ℤ) (i : ℕ) → length xs ≤ i → NoneBefore q xs i → least (filter q xs) ≡ None
none_before q xs i past none = least_none q xs (nowhere q xs (λ j inside. none j (omega arith) inside))

pub none_behind : (q : ℤ → Bool) (xs : List ℤ) (i : ℕ) → i ≡ 0 → NoneBehind q xs i → greatest (filter q xs) ≡ None
none_behind q xs i past none = greatest_none q xs (nowhere q xs (λ j inside. none j (omega arith) inside))

pub before_next : (q : ℤ → Bool) (xs : List ℤ) (i : ℕ) → NoneBefore q xs i → q (get_or xs i (pos 0)) ≡ false → NoneBefore q xs (i + 1)
before_next q xs i none here j less inside = by (cases_lt j i)
  where
    by : (j < i) ⊎ (i ≤ j) → q (get_or xs j (pos 0)) ≡ false
    by (inl earlier) = none j earlier inside
    by (inr at) = ap (λ k. q (get_or xs k (pos 0))) (omega arith) ∙ here

pub behind_next : (q : ℤ → Bool) (xs : List ℤ) (i : ℕ) → NoneBehind q xs (i + 1) → q (get_or xs i (pos 0)) ≡ false → NoneBehind q xs i
behind_next q xs i none here j at inside = by (cases_lt i j)
  where
    by : (i < j) ⊎ (j ≤ i) → q (get_or xs j (pos 0)) ≡ false
    by (inl later) = none j (omega arith) inside
    by (inr same) = ap (λ k. q (get_or xs k (pos 0))) (omega arith) ∙ here
