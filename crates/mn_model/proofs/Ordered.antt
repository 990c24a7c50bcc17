-- Values in order: their tests, and lists of values that ascend.
use Rattle.std.proofs.Common.{◌≡◌, ℕ, zero, suc, ◌<◌, ◌≤◌, ℤ, pos, ◌+ℤ◌, ◌<ℤ◌, ◌≤ℤ◌, inl, inr, true, false, int_le, int_lt, List, [], ◌∷◌, length, take, get_or, refl, subst, arith}
use Rattle.std.proofs.lemmas.Int.{ints}
use Rattle.std.specs.List.{AllByRecursion}
use Rattle.mn_model.specs.Domain.{Ascends, Has, IsValue}

-- ---- tests

pub le_true : (a b : ℤ) → a ≤ℤ b → int_le a b ≡ true
le_true a b h = grind (arith, ints)

pub le_so : (a b : ℤ) → int_le a b ≡ true → a ≤ℤ b
le_so a b h = grind (arith, ints)

pub le_false : (a b : ℤ) → b <ℤ a → int_le a b ≡ false
le_false a b h = grind (arith, ints)

pub lt_true : (a b : ℤ) → a <ℤ b → int_lt a b ≡ true
lt_true a b h = grind (arith, ints)

pub lt_so : (a b : ℤ) → int_lt a b ≡ true → a <ℤ b
lt_so a b h = grind (arith, ints)

pub lt_false : (a b : ℤ) → b ≤ℤ a → int_lt a b ≡ false
lt_false a b h = grind (arith, ints)

-- not less is at least
pub at_least : (x a : ℤ) → int_lt x a ≡ false → int_le a x ≡ true
at_least x a e = grind (arith, ints)

pub not_at_least : (x a : ℤ) → int_lt x a ≡ true → int_le a x ≡ false
not_at_least x a e = grind (arith, ints)

-- at least the next number is more
pub next_le : (a x : ℤ) → int_le (a +ℤ pos 1) x ≡ int_lt a x
next_le a x = grind (arith, ints)

-- ---- members

pub has_at : (xs : List ℤ) (i : ℕ) (d : ℤ) → i < length xs → Has xs (get_or xs i d)
has_at [] i d within = absurd (omega (arith, within))
has_at (x ∷ xs) zero d within = inl refl
has_at (x ∷ xs) (suc i) d within = inr (has_at xs i d (omega (arith, within)))

pub has_take : (n : ℕ) (xs : List ℤ) (a : ℤ) → Has (take n xs) a → Has xs a
has_take zero xs a has = absurd has
has_take (suc n) [] a has = absurd has
has_take (suc n) (x ∷ xs) a (inl is) = inl is
has_take (suc n) (x ∷ xs) a (inr later) = inr (has_take n xs a later)

pub each_valued : (xs : List ℤ) (a : ℤ) → AllByRecursion IsValue xs → Has xs a → IsValue a
each_valued [] a all has = absurd has
each_valued (x ∷ xs) a all (inl is) = subst IsValue is all.0
each_valued (x ∷ xs) a all (inr later) = each_valued xs a all.1 later

-- a number is less than all of some values where it is less than each member
pub above_all : (x : ℤ) (xs : List ℤ) (a : ℤ) → AllByRecursion (λ y. x <ℤ y) xs → Has xs a → x <ℤ a
above_all x [] a less has = absurd has
above_all x (y ∷ xs) a less (inl is) = subst (λ b. x <ℤ b) is less.0
above_all x (y ∷ xs) a less (inr later) = above_all x xs a less.1 later

pub all_above : (x : ℤ) (xs : List ℤ) → ((a : ℤ) → Has xs a → x <ℤ a) → AllByRecursion (λ y. x <ℤ y) xs
all_above x [] each = tt
all_above x (y ∷ xs) each = (each y (inl refl), all_above x xs (λ a has. each a (inr has)))

-- ---- places

-- values that ascend are in order
pub in_order : (xs : List ℤ) (i j : ℕ) (d : ℤ) → Ascends xs → i ≤ j → j < length xs → get_or xs i d ≤ℤ get_or xs j d
in_order [] i j d up order within = absurd (omega (arith, within))
in_order (x ∷ xs) zero zero d up order within = omega (arith, ints)
in_order (x ∷ xs) zero (suc j) d up order within = let less = above_all x xs (get_or xs j d) up.0 (has_at xs j d (omega arith)) in omega (arith, ints, less)
in_order (x ∷ xs) (suc i) zero d up order within = absurd (omega (arith, order))
in_order (x ∷ xs) (suc i) (suc j) d up order within = in_order xs i j d up.1 (omega (arith, order)) (omega (arith, within))

-- so what is less than a stands in front
pub less_in_front : (xs : List ℤ) (a : ℤ) (i j : ℕ) (d : ℤ) → Ascends xs → i ≤ j → j < length xs → int_lt (get_or xs j d) a ≡ true → int_lt (get_or xs i d) a ≡ true
less_in_front xs a i j d up order within less = let le = in_order xs i j d up order within in let lt = lt_so (get_or xs j d) a less in lt_true (get_or xs i d) a (omega (arith, ints, le, lt))
