-- The ends of a place, which have to be supported whatever its variable.
use Rattle.std.proofs.Common.{◌≡◌, ℕ, suc, ◌-◌, ℤ, pos, ◌-ℤ◌, ◌≤ℤ◌, inl, inr, List, [], ◌∷◌, length, refl, sym, subst, arith}
use Rattle.std.proofs.lemmas.Int.{ints}
use Rattle.mn_model.specs.Domain.{Has, IsFirst, IsLast}
use Rattle.mn_model.specs.Variable.{number_of}
use Rattle.mn_model.specs.declared.constraint.Term.{Term}
use Rattle.mn_model.specs.declared.constraint.Term.TheVariants.{Var, Const, Not}
use Rattle.mn_boxes.specs.Boxes.{IsBox, set_of}
use Rattle.mn_boxes.specs.Sets.{IsEnd, Variable}
use Rattle.mn_boxes.proofs.Members.{stands_first, stands_last}
use Rattle.mn_boxes.proofs.Quiet.{ascends_at}
use Rattle.mn_closure.specs.Closed.{Asked}
use Rattle.mn_closure.specs.Levels.{Level}
use Rattle.mn_prop.specs.Contexts.{IsGreatestAt, IsLeastAt, IsNamed, first_of, last_of}
use Rattle.mn_prop.proofs.PlaceLemmas.{back}
use Rattle.mn_prop.proofs.Boxing.{some_in}

first_stands : (xs : List ℤ) (a : ℤ) → Has xs a → IsFirst (first_of xs) xs
first_stands [] a has = absurd has
first_stands (x ∷ xs) a has = refl

last_stands : (xs : List ℤ) (a : ℤ) → Has xs a → IsLast (last_of xs) xs
last_stands [] a has = absurd has
last_stands (x ∷ []) a has = refl
last_stands (x ∷ y ∷ xs) a has = step (last_stands (y ∷ xs) y (inl refl))
  where
    step : IsLast (last_of (y ∷ xs)) (y ∷ xs) → IsLast (last_of (y ∷ xs)) (x ∷ y ∷ xs)
    step e = let same : suc (suc (length xs)) - 1 ≡ suc (suc (length xs) - 1) = omega arith in rw same e

-- a place has a greatest value and a least one, and each has to be supported
pub record Greatest (l : Level) (vars : List Variable) (box : List (List ℤ)) (t : Term) : Type 0 where
  pub value : ℤ
  pub greatest : IsGreatestAt box t value
  pub asked : Asked l vars box t value

pub record Least (l : Level) (vars : List Variable) (box : List (List ℤ)) (t : Term) : Type 0 where
  pub value : ℤ
  pub least : IsLeastAt box t value
  pub asked : Asked l vars box t value

-- the ends of a variable's set
record Ends (xs : List ℤ) : Type 0 where
  pub has_first : Has xs (first_of xs)
  pub has_last : Has xs (last_of xs)
  pub is_first : IsEnd (first_of xs) xs
  pub is_last : IsEnd (last_of xs) xs
  pub from : (b : ℤ) → Has xs b → first_of xs ≤ℤ b
  pub to : (b : ℤ) → Has xs b → b ≤ℤ last_of xs

ends_of : (vars : List Variable) (box : List (List ℤ)) (v : ℕ) (a : ℤ) → IsBox vars box → Has (set_of box v) a → Ends (set_of box v)
ends_of vars box v a is has =
    let xs = set_of box v in
    let up = ascends_at vars box v is in
    let first = stands_first xs (first_of xs) up (first_stands xs a has) in
    let last = stands_last xs (last_of xs) up (last_stands xs a has) in
    record { has_first = first.has; has_last = last.has; is_first = inl (first_stands xs a has); is_last = inr (last_stands xs a has); from = first.others; to = last.others }

pub greatest_of : (l : Level) (vars : List Variable) (box : List (List ℤ)) (t : Term) → IsBox vars box → IsNamed vars t → Greatest l vars box t
greatest_of l vars box (Var v) is named =
    let some = some_in vars box (number_of v) is named in
    let ends = ends_of vars box (number_of v) some.0 is some.1 in
    record { value = last_of (set_of box (number_of v)); greatest = record { there = ends.has_last; greatest = ends.to }; asked = record { there = ends.has_last; ends = λ e. ends.is_last } }
greatest_of l vars box (Const k) is named = record { value = k; greatest = record { there = refl; greatest = λ b same. omega (arith, ints, same) }; asked = record { there = refl; ends = λ e. refl } }
greatest_of l vars box (Not v) is named =
    let xs = set_of box (number_of v) in
    let some = some_in vars box (number_of v) is named in
    let ends = ends_of vars box (number_of v) some.0 is some.1 in
    let there = subst (Has xs) (sym (back (first_of xs))) ends.has_first in
    record {
      value = pos 1 -ℤ first_of xs;
      greatest = record { there = there; greatest = λ b has. (let from = ends.from (pos 1 -ℤ b) has in omega (arith, ints, from)) };
      asked = record { there = there; ends = λ e. subst (λ a. IsEnd a xs) (sym (back (first_of xs))) ends.is_first };
    }

pub least_of : (l : Level) (vars : List Variable) (box : List (List ℤ)) (t : Term) → IsBox vars box → IsNamed vars t → Least l vars box t
least_of l vars box (Var v) is named =
    let some = some_in vars box (number_of v) is named in
    let ends = ends_of vars box (number_of v) some.0 is some.1 in
    record { value = first_of (set_of box (number_of v)); least = record { there = ends.has_first; least = ends.from }; asked = record { there = ends.has_first; ends = λ e. ends.is_first } }
least_of l vars box (Const k) is named = record { value = k; least = record { there = refl; least = λ b same. omega (arith, ints, same) }; asked = record { there = refl; ends = λ e. refl } }
least_of l vars box (Not v) is named =
    let xs = set_of box (number_of v) in
    let some = some_in vars box (number_of v) is named in
    let ends = ends_of vars box (number_of v) some.0 is some.1 in
    let there = subst (Has xs) (sym (back (last_of xs))) ends.has_last in
    record {
      value = pos 1 -ℤ last_of xs;
      least = record { there = there; least = λ b has. (let to = ends.to (pos 1 -ℤ b) has in omega (arith, ints, to)) };
      asked = record { there = there; ends = λ e. subst (λ a. IsEnd a xs) (sym (back (last_of xs))) ends.is_last };
    }
