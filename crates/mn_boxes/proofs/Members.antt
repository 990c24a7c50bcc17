-- The members of values that ascend.
use Rattle.std.proofs.Common.{◌≡◌, suc, ◌-◌, ◌≤◌, ℤ, ◌<ℤ◌, ◌≤ℤ◌, inl, inr, List, [], ◌∷◌, length, Some, refl, sym, ap, arith}
use Rattle.std.proofs.lemmas.Int.{ints}
use Rattle.mn_boxes.specs.Sets.{IsEnd}
use Rattle.mn_model.specs.Decided.{Decided, decide_int}
use Rattle.mn_model.specs.Domain.{Ascends, Has, IsFirst, IsLast}
use Rattle.mn_model.proofs.Ordered.{above_all}

-- each member of xs is one of ys
abbrev pub PartOf : List ℤ → List ℤ → Type 0
PartOf xs ys = (a : ℤ) → Has xs a → Has ys a

-- a part has no more members, and is the whole where it has as many
pub record Parted (xs ys : List ℤ) : Type 0 where
  pub no_more : length xs ≤ length ys
  pub same : length xs ≡ length ys → xs ≡ ys

pub parted : (xs ys : List ℤ) → Ascends xs → Ascends ys → PartOf xs ys → Parted xs ys
parted [] [] up_x up_y part = record { no_more = omega arith; same = λ e. refl }
parted [] (y ∷ ys) up_x up_y part = record { no_more = omega arith; same = λ e. cc }
parted (x ∷ xs) [] up_x up_y part = absurd (part x (inl refl))
parted (x ∷ xs) (y ∷ ys) up_x up_y part = by (decide_int x y) (λ is. parted xs ys up_x.1 up_y.1 (rest is)) (λ differs. parted (x ∷ xs) ys up_x up_y.1 (behind differs))
  where
    rest : x ≡ y → PartOf xs ys
    rest is a has = elim (part a (inr has)) [
      | inl same ↦ absurd (let less = above_all x xs a up_x.0 has in omega (arith, ints, less, same, is))
      | inr later ↦ later
    ]

    first : (x ≡ y → ⊥) → y <ℤ x
    first differs = elim (part x (inl refl)) [
      | inl same ↦ absurd (differs (sym same))
      | inr later ↦ above_all y ys x up_y.0 later
    ]

    behind : (x ≡ y → ⊥) → PartOf (x ∷ xs) ys
    behind differs a (inl same) = elim (part a (inl same)) [
      | inl is ↦ absurd (let less = first differs in omega (arith, ints, less, same, is))
      | inr later ↦ later
    ]
    behind differs a (inr has) = elim (part a (inr has)) [
      | inl is ↦ absurd (let less = first differs in let above = above_all x xs a up_x.0 has in omega (arith, ints, less, above, is))
      | inr later ↦ later
    ]

    by : Decided (x ≡ y) → (x ≡ y → Parted xs ys) → ((x ≡ y → ⊥) → Parted (x ∷ xs) ys) → Parted (x ∷ xs) (y ∷ ys)
    by (inl is) here there = let p = here is in record { no_more = let n = p.no_more in omega arith; same = λ e. let s : xs ≡ ys = p.same (omega arith) in cc }
    by (inr differs) here there = let n = (there differs).no_more in record { no_more = omega arith; same = λ e. absurd (omega arith) }

-- values that ascend and have the same members are the same
pub same_members : (xs ys : List ℤ) → Ascends xs → Ascends ys → PartOf xs ys → PartOf ys xs → xs ≡ ys
same_members xs ys up_x up_y there back =
    let to = parted xs ys up_x up_y there in
    let from = parted ys xs up_y up_x back in
    to.same (let n = to.no_more in let m = from.no_more in omega arith)

-- the first is a member, and no other is less
pub record StandsFirst (xs : List ℤ) (a : ℤ) : Type 0 where
  pub has : Has xs a
  pub others : (b : ℤ) → Has xs b → a ≤ℤ b

pub stands_first : (xs : List ℤ) (a : ℤ) → Ascends xs → IsFirst a xs → StandsFirst xs a
stands_first [] a up first = cc
stands_first (x ∷ xs) a up first = record { has = inl is; others = least }
  where
    is : x ≡ a
    is = cc

    least : (b : ℤ) → Has (x ∷ xs) b → a ≤ℤ b
    least b (inl same) = omega (arith, ints, same, is)
    least b (inr later) = let less = above_all x xs b up.0 later in omega (arith, ints, less, is)

-- and it is known by that
pub is_first : (xs : List ℤ) (a : ℤ) → Ascends xs → StandsFirst xs a → IsFirst a xs
is_first [] a up stands = absurd stands.has
is_first (x ∷ xs) a up stands = ap Some (by stands.has)
  where
    by : Has (x ∷ xs) a → x ≡ a
    by (inl is) = is
    by (inr later) = absurd (let less = above_all x xs a up.0 later in let le = stands.others x (inl refl) in omega (arith, ints, less, le))

-- so it is with the last
pub record StandsLast (xs : List ℤ) (a : ℤ) : Type 0 where
  pub has : Has xs a
  pub others : (b : ℤ) → Has xs b → b ≤ℤ a

pub stands_last : (xs : List ℤ) (a : ℤ) → Ascends xs → IsLast a xs → StandsLast xs a
stands_last [] a up last = cc
stands_last (x ∷ []) a up last = record { has = inl is; others = greatest }
  where
    is : x ≡ a
    is = cc

    greatest : (b : ℤ) → Has (x ∷ []) b → b ≤ℤ a
    greatest b (inl same) = omega (arith, ints, same, is)
    greatest b (inr none) = absurd none
stands_last (x ∷ y ∷ xs) a up last = let rest = stands_last (y ∷ xs) a up.1 (step last) in record { has = inr rest.has; others = greatest rest }
  where
    step : IsLast a (x ∷ y ∷ xs) → IsLast a (y ∷ xs)
    step e = let same : suc (suc (length xs)) - 1 ≡ suc (suc (length xs) - 1) = omega arith in rw same at e

    greatest : StandsLast (y ∷ xs) a → (b : ℤ) → Has (x ∷ y ∷ xs) b → b ≤ℤ a
    greatest rest b (inl same) = let less = above_all x (y ∷ xs) a up.0 rest.has in omega (arith, ints, less, same)
    greatest rest b (inr later) = rest.others b later

pub end_has : (xs : List ℤ) (a : ℤ) → Ascends xs → IsEnd a xs → Has xs a
end_has xs a up (inl first) = (stands_first xs a up first).has
end_has xs a up (inr last) = (stands_last xs a up last).has

pub is_last : (xs : List ℤ) (a : ℤ) → Ascends xs → StandsLast xs a → IsLast a xs
is_last [] a up stands = absurd stands.has
is_last (x ∷ []) a up stands = ap Some (by stands.has)
  where
    by : Has (x ∷ []) a → x ≡ a
    by (inl is) = is
    by (inr none) = absurd none
is_last (x ∷ y ∷ xs) a up stands = step (is_last (y ∷ xs) a up.1 (record { has = later stands.has; others = λ b has. stands.others b (inr has) }))
  where
    later : Has (x ∷ y ∷ xs) a → Has (y ∷ xs) a
    later (inl is) = absurd (let less = up.0.0 in let le = stands.others y (inr (inl refl)) in omega (arith, ints, less, le, is))
    later (inr has) = has

    step : IsLast a (y ∷ xs) → IsLast a (x ∷ y ∷ xs)
    step e = let same : suc (suc (length xs)) - 1 ≡ suc (suc (length xs) - 1) = omega arith in rw same e

-- whether a is a member can be told
pub decide_has : (xs : List ℤ) (a : ℤ) → Decided (Has xs a)
decide_has [] a = inr (λ none. none)
decide_has (x ∷ xs) a = by (decide_int x a) (decide_has xs a)
  where
    by : Decided (x ≡ a) → Decided (Has xs a) → Decided (Has (x ∷ xs) a)
    by (inl is) rest = inl (inl is)
    by (inr differs) (inl has) = inl (inr has)
    by (inr differs) (inr none) = inr (λ has. elim has [ inl is ↦ differs is | inr later ↦ none later ])

-- and whether two lists are the same
pub decide_list : (xs ys : List ℤ) → Decided (xs ≡ ys)
decide_list [] [] = inl refl
decide_list [] (y ∷ ys) = inr (λ e. cc)
decide_list (x ∷ xs) [] = inr (λ e. cc)
decide_list (x ∷ xs) (y ∷ ys) = by (decide_int x y) (decide_list xs ys)
  where
    by : Decided (x ≡ y) → Decided (xs ≡ ys) → Decided ((x ∷ xs) ≡ (y ∷ ys))
    by (inl is) (inl same) = inl (cc)
    by (inl is) (inr differs) = inr (λ e. differs (cc))
    by (inr differs) rest = inr (λ e. differs (cc))

-- what isn't refuted holds, where it can be told
pub so : {P : Type 0} → Decided P → ((P → ⊥) → ⊥) → P
so (inl p) refuted = p
so (inr not) refuted = absurd (refuted not)
