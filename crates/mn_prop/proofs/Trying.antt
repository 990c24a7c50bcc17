-- Values of a place that are tried one by one, and the next one of a set.
use Rattle.std.proofs.Common.{◌≡◌, ℤ, pos, ◌+ℤ◌, ◌≤ℤ◌, ◌<ℤ◌, ◌<◌, ◌⊎◌, inl, inr, int_lt, int_le, true, false, Bool, List, [], ◌∷◌, Option, Some, None, filter, refl, sym, subst, arith}
use Rattle.std.proofs.lemmas.Int.{ints}
use Rattle.std.specs.Int.{int_gap}
use Rattle.mn_model.proofs.Stretches.{plus-int_gap}
use Rattle.mn_model.specs.Domain.{Ascends, Has}
use Rattle.mn_model.specs.Variable.{number_of}
use Rattle.mn_model.specs.declared.constraint.Term.TheVariants.{Var, Not}
use Rattle.mn_model.specs.declared.variable.VarId.{VarId}
use Rattle.mn_model.proofs.Filtered.{Passes, filter_ascends, filter_has, has_filter}
use Rattle.mn_model.proofs.Ordered.{lt_so, lt_true}
use Rattle.mn_boxes.specs.Boxes.{set_of}
use Rattle.mn_boxes.specs.Places.{PlaceHas}
use Rattle.mn_boxes.specs.Sets.{least}
use Rattle.mn_boxes.proofs.Members.{stands_first}
use Rattle.mn_prop.specs.Contexts.{IsGreatestAt, IsNextAt}

-- one number is at most another, or it is greater
pub at_most_or : (a b : ℤ) → (a ≤ℤ b) ⊎ (b <ℤ a)
at_most_or a b = by (int_le a b) refl
  where
    by : (t : Bool) → int_le a b ≡ t → (a ≤ℤ b) ⊎ (b <ℤ a)
    by true e = inl (omega (arith, ints, e))
    by false e = inr (omega (arith, ints, e))

-- no value of the place is between a and b
pub record Tried (sets : List (List ℤ)) (v : VarId) (a b hi : ℤ) : Type 0 where
  pub above : a <ℤ b
  pub within : b ≤ℤ hi
  pub none : (x : ℤ) → PlaceHas sets (Not v) x → (x ≤ℤ a) ⊎ (b ≤ℤ x)

-- at first none is between a and the number behind it
pub first_tried : (sets : List (List ℤ)) (v : VarId) (a hi : ℤ) → a <ℤ hi → Tried sets v a (a +ℤ pos 1) hi
first_tried sets v a hi below = record { above = omega (arith, ints); within = omega (arith, ints); none = λ x has. by x (at_most_or x a) }
  where
    by : (x : ℤ) → (x ≤ℤ a) ⊎ (a <ℤ x) → (x ≤ℤ a) ⊎ ((a +ℤ pos 1) ≤ℤ x)
    by x (inl le) = inl le
    by x (inr not) = inr (omega (arith, ints, not))

-- where b isn't there the next one is tried
pub record Less (sets : List (List ℤ)) (v : VarId) (a b hi : ℤ) : Type 0 where
  pub tried : Tried sets v a (b +ℤ pos 1) hi
  pub smaller : int_gap (b +ℤ pos 1) hi < int_gap b hi

gap_less : (b hi : ℤ) → b <ℤ hi → int_gap (b +ℤ pos 1) hi < int_gap b hi
gap_less b hi below = let from = plus-int_gap b hi (omega (arith, ints)) in let next = plus-int_gap (b +ℤ pos 1) hi (omega (arith, ints)) in omega (arith, ints, from, next)

pub next_tried : (sets : List (List ℤ)) (v : VarId) (a b hi : ℤ) → Tried sets v a b hi → IsGreatestAt sets (Not v) hi → (PlaceHas sets (Not v) b → ⊥) → Less sets v a b hi
next_tried sets v a b hi tried great absent = record {
  tried = record { above = (let above = tried.above in omega (arith, ints, above)); within = (let lt = below in omega (arith, ints, lt)); none = λ x has. by x has (tried.none x has) (at_most_or x b) };
  smaller = gap_less b hi below;
}
  where
    below : b <ℤ hi
    below = at (at_most_or hi b)
      where
        at : (hi ≤ℤ b) ⊎ (b <ℤ hi) → b <ℤ hi
        at (inl le) = absurd (absent (let within = tried.within in let same : hi ≡ b = omega (arith, ints, le, within) in subst (PlaceHas sets (Not v)) same great.there))
        at (inr not) = omega (arith, ints, not)

    by : (x : ℤ) → PlaceHas sets (Not v) x → (x ≤ℤ a) ⊎ (b ≤ℤ x) → (x ≤ℤ b) ⊎ (b <ℤ x) → (x ≤ℤ a) ⊎ ((b +ℤ pos 1) ≤ℤ x)
    by x has (inl le) d = inl le
    by x has (inr ge) (inl le) = absurd (absent (let same : x ≡ b = omega (arith, ints, ge, le) in subst (PlaceHas sets (Not v)) same has))
    by x has (inr ge) (inr not) = inr (omega (arith, ints, not))

-- the least of the values that are greater than a is the next one
pub next_of : (sets : List (List ℤ)) (v : VarId) (a : ℤ) (next : Option ℤ) → Ascends (set_of sets (number_of v)) → next ≡ least (filter (λ x. int_lt a x) (set_of sets (number_of v))) → IsNextAt sets (Var v) a next
next_of sets v a next up is = by next (filter (λ x. int_lt a x) xs) (filter_ascends (λ x. int_lt a x) xs up) is (λ b has. has_filter (λ x. int_lt a x) xs b has) (λ b has lt. filter_has (λ x. int_lt a x) xs b has lt)
  where
    xs : List ℤ
    xs = set_of sets (number_of v)

    by : (n : Option ℤ) (ys : List ℤ) → Ascends ys → n ≡ least ys → ((b : ℤ) → Has ys b → Passes (λ x. int_lt a x) xs b) → ((b : ℤ) → Has xs b → int_lt a b ≡ true → Has ys b) → IsNextAt sets (Var v) a n
    by None [] up e to from = λ b has. at b has (at_most_or b a)
      where
        at : (b : ℤ) → Has xs b → (b ≤ℤ a) ⊎ (a <ℤ b) → b ≤ℤ a
        at b has (inl le) = le
        at b has (inr not) = absurd (from b has (lt_true a b (omega (arith, ints, not))))
    by None (y ∷ ys) up e to from = cc
    by (Some n) [] up e to from = cc
    by (Some n) (y ∷ ys) up e to from =
        let f = stands_first (y ∷ ys) n up (sym e) in
        let passes = to n f.has in
        (passes.has, lt_so a n passes.passes, λ b has. at f.others b has (at_most_or b a))
      where
        at : ((b : ℤ) → Has (y ∷ ys) b → n ≤ℤ b) → (b : ℤ) → Has xs b → (b ≤ℤ a) ⊎ (a <ℤ b) → (b ≤ℤ a) ⊎ (n ≤ℤ b)
        at others b has (inl le) = inl le
        at others b has (inr not) = inr (others b (from b has (lt_true a b (omega (arith, ints, not)))))
