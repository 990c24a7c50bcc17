-- What a test leaves of values that ascend.
use Rattle.std.proofs.Common.{◌≡◌, ◌+◌, ℤ, inl, inr, Bool, true, false, cond, not, List, [], ◌∷◌, length, filter, refl, sym, subst, ap, ◌∙◌, arith, true≢false}
use Rattle.std.proofs.lemmas.Int.{ints}
use Rattle.std.specs.Ordering.{int_eq}
use Rattle.std.specs.Cmp.{signed_Decides}
use Rattle.mn_model.specs.Domain.{Ascends, Has}
use Rattle.mn_domains.specs.Changes.{is_not}
use Rattle.mn_model.proofs.Filtered.{Passes, filter_ascends, filter_has, has_filter}
use Rattle.mn_model.proofs.Ordered.{above_all}
use Rattle.mn_boxes.proofs.Members.{same_members}

-- ---- the test of equality

pub eq_true : (a b : ℤ) → a ≡ b → int_eq a b ≡ true
eq_true a b h = (signed_Decides a b).1 h

pub eq_so : (a b : ℤ) → int_eq a b ≡ true → a ≡ b
eq_so a b h = (signed_Decides a b).0 h

-- ---- what is left

-- values are what a test leaves of others where they are those that pass
pub is_filter : (p : ℤ → Bool) (xs ys : List ℤ) → Ascends xs → Ascends ys → ((a : ℤ) → Has ys a → Passes p xs a) → ((a : ℤ) → Has xs a → p a ≡ true → Has ys a) → ys ≡ filter p xs
is_filter p xs ys up_x up_y to from =
    same_members ys (filter p xs) up_y (filter_ascends p xs up_x)
    (λ a has. let t = to a has in filter_has p xs a t.has t.passes)
    (λ a has. let t = has_filter p xs a has in from a t.has t.passes)

-- tests that agree on the members leave the same
pub filter_alike : (p q : ℤ → Bool) (xs : List ℤ) → ((a : ℤ) → Has xs a → p a ≡ q a) → filter p xs ≡ filter q xs
filter_alike p q [] agree = refl
filter_alike p q (x ∷ xs) agree = ap (λ t. cond t (x ∷ filter p xs) (filter p xs)) (agree x (inl refl)) ∙ ap (λ ys. cond (q x) (x ∷ ys) ys) (filter_alike p q xs (λ a has. agree a (inr has)))

-- what passes all is left whole
pub filter_whole : (p : ℤ → Bool) (xs : List ℤ) → ((a : ℤ) → Has xs a → p a ≡ true) → filter p xs ≡ xs
filter_whole p [] all = refl
filter_whole p (x ∷ xs) all = ap (λ t. cond t (x ∷ filter p xs) (filter p xs)) (all x (inl refl)) ∙ ap (λ ys. x ∷ ys) (filter_whole p xs (λ a has. all a (inr has)))

-- and of what passes nowhere nothing is left
pub filter_none : (p : ℤ → Bool) (xs : List ℤ) → ((a : ℤ) → Has xs a → p a ≡ false) → filter p xs ≡ []
filter_none p [] none = refl
filter_none p (x ∷ xs) none = ap (λ t. cond t (x ∷ filter p xs) (filter p xs)) (none x (inl refl)) ∙ filter_none p xs (λ a has. none a (inr has))

-- one member passes
pub filter_single : (xs : List ℤ) (a : ℤ) → Ascends xs → Has xs a → filter (λ x. int_eq x a) xs ≡ a ∷ []
filter_single xs a up has = sym (is_filter (λ x. int_eq x a) xs (a ∷ []) up (tt, tt) to (λ b there pass. inl (sym (eq_so b a pass))))
  where
    to : (b : ℤ) → Has (a ∷ []) b → Passes (λ x. int_eq x a) xs b
    to b (inl is) = record { has = subst (Has xs) is has; passes = eq_true b a (sym is) }
    to b (inr none) = absurd none

pub is_not_so : (a b : ℤ) → is_not a b ≡ true → b ≡ a → ⊥
is_not_so a b t is = true≢false (sym t ∙ ap not (eq_true b a is))

pub is_not_true : (a b : ℤ) → (b ≡ a → ⊥) → is_not a b ≡ true
is_not_true a b differs = by (int_eq b a) refl
  where
    by : (t : Bool) → int_eq b a ≡ t → not t ≡ true
    by true e = absurd (differs (eq_so b a e))
    by false e = refl

pub is_not_false : (a b : ℤ) → b ≡ a → is_not a b ≡ false
is_not_false a b same = ap not (eq_true b a same)

-- one member less
pub length-without : (xs : List ℤ) (a : ℤ) → Ascends xs → Has xs a → length (filter (is_not a) xs) + 1 ≡ length xs
length-without [] a up has = absurd has
length-without (x ∷ xs) a up (inl is) =
    let first : is_not a x ≡ false = ap not (eq_true x a is) in
    let rest : filter (is_not a) xs ≡ xs = filter_whole (is_not a) xs (λ b has. is_not_true a b (λ same. let less = above_all x xs b up.0 has in omega (arith, ints, less, same, is))) in
    ap (λ t. length (cond t (x ∷ filter (is_not a) xs) (filter (is_not a) xs)) + 1) first ∙ (ap (λ ys. length ys + 1) rest ∙ omega arith)
length-without (x ∷ xs) a up (inr later) =
    let first : is_not a x ≡ true = is_not_true a x (λ is. let less = above_all x xs a up.0 later in omega (arith, ints, less, is)) in
    let rest = length-without xs a up.1 later in
    ap (λ t. length (cond t (x ∷ filter (is_not a) xs) (filter (is_not a) xs)) + 1) first ∙ omega arith

-- to take out what a test leaves out changes nothing for it
pub filter-without : (p : ℤ → Bool) (xs : List ℤ) (a : ℤ) → p a ≡ false → filter p (filter (is_not a) xs) ≡ filter p xs
filter-without p [] a out = refl
filter-without p (x ∷ xs) a out = by (filter-without p xs a out) (is_not a x) refl
  where
    by : filter p (filter (is_not a) xs) ≡ filter p xs → (t : Bool) → is_not a x ≡ t → filter p (cond t (x ∷ filter (is_not a) xs) (filter (is_not a) xs)) ≡ cond (p x) (x ∷ filter p xs) (filter p xs)
    by rest true e = ap (λ ys. cond (p x) (x ∷ ys) ys) rest
    by rest false e = rest ∙ sym (ap (λ t. cond t (x ∷ filter p xs) (filter p xs)) (ap p (same e) ∙ out))
      where
        same : is_not a x ≡ false → x ≡ a
        same h = eq_so x a (turned (int_eq x a) h)
          where
            turned : (b : Bool) → not b ≡ false → b ≡ true
            turned true k = refl
            turned false k = absurd (true≢false k)
