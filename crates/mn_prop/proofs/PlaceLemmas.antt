-- The ends of a place.
use Rattle.std.proofs.Common.{◌≡◌, suc, ◌-◌, ℤ, pos, ◌-ℤ◌, inl, inr, List, [], ◌∷◌, length, sym, subst, ap, arith}
use Rattle.std.proofs.lemmas.Int.{ints}
use Rattle.mn_model.specs.Domain.{Ascends, Has, IsFirst, IsLast}
use Rattle.mn_model.specs.Variable.{number_of}
use Rattle.mn_model.specs.declared.constraint.Term.{Term}
use Rattle.mn_model.specs.declared.constraint.Term.TheVariants.{Var, Not}
use Rattle.mn_model.specs.declared.variable.VarId.{VarId}
use Rattle.mn_boxes.specs.Boxes.{set_of}
use Rattle.mn_boxes.specs.Places.{IsPlaceEnd}
use Rattle.mn_boxes.proofs.Members.{stands_first, stands_last}
use Rattle.mn_prop.specs.Contexts.{Context, IsGreatestAt, IsLeastAt, first_of, last_of, place_hi, place_lo}

-- a fact of the context inside is one of what contracts see, at the place that was matched
pub seen_at : (P : Context → Term → Type 0) {inside seen : Context} {t u : Term} → inside ≡ seen → t ≡ u → P inside u → P seen t
seen_at P {inside = inside} {seen = seen} {t = t} {u = u} view is h = subst (λ x. P seen x) (sym is) (subst (λ (x : Context). P x u) view h)

pub first_is : (xs : List ℤ) (a : ℤ) → IsFirst a xs → a ≡ first_of xs
first_is [] a first = cc
first_is (x ∷ xs) a first = cc

pub last_is : (xs : List ℤ) (a : ℤ) → IsLast a xs → a ≡ last_of xs
last_is [] a last = cc
last_is (x ∷ []) a last = cc
last_is (x ∷ y ∷ xs) a last = last_is (y ∷ xs) a (step last)
  where
    step : IsLast a (x ∷ y ∷ xs) → IsLast a (y ∷ xs)
    step e = let same : suc (suc (length xs)) - 1 ≡ suc (suc (length xs) - 1) = omega arith in rw same at e

-- one less one less b is b
pub back : (b : ℤ) → (pos 1 -ℤ (pos 1 -ℤ b)) ≡ b
back b = omega (arith, ints)

-- what is answered of a place's least value
pub record TellsLow (sets : List (List ℤ)) (t : Term) (a : ℤ) : Type 0 where
  pub is : a ≡ place_lo sets t
  pub least : IsLeastAt sets t a
  pub end : IsPlaceEnd sets t a

pub record TellsHigh (sets : List (List ℤ)) (t : Term) (a : ℤ) : Type 0 where
  pub is : a ≡ place_hi sets t
  pub greatest : IsGreatestAt sets t a
  pub end : IsPlaceEnd sets t a

pub low_var : (sets : List (List ℤ)) (v : VarId) (a : ℤ) → Ascends (set_of sets (number_of v)) → IsFirst a (set_of sets (number_of v)) → TellsLow sets (Var v) a
low_var sets v a up first =
    let f = stands_first (set_of sets (number_of v)) a up first in
    record { is = first_is (set_of sets (number_of v)) a first; least = record { there = f.has; least = f.others }; end = inl first }

pub high_var : (sets : List (List ℤ)) (v : VarId) (a : ℤ) → Ascends (set_of sets (number_of v)) → IsLast a (set_of sets (number_of v)) → TellsHigh sets (Var v) a
high_var sets v a up last =
    let l = stands_last (set_of sets (number_of v)) a up last in
    record { is = last_is (set_of sets (number_of v)) a last; greatest = record { there = l.has; greatest = l.others }; end = inr last }

pub low_not : (sets : List (List ℤ)) (v : VarId) (b : ℤ) → Ascends (set_of sets (number_of v)) → IsLast b (set_of sets (number_of v)) → TellsLow sets (Not v) (pos 1 -ℤ b)
low_not sets v b up last =
    let l = stands_last (set_of sets (number_of v)) b up last in
    record {
      is = ap (λ x. pos 1 -ℤ x) (last_is (set_of sets (number_of v)) b last);
      least = record {
        there = subst (Has (set_of sets (number_of v))) (sym (back b)) l.has;
        least = λ a has. (let le = l.others (pos 1 -ℤ a) has in omega (arith, ints, le));
      };
      end = inr (subst (λ x. IsLast x (set_of sets (number_of v))) (sym (back b)) last);
    }

pub high_not : (sets : List (List ℤ)) (v : VarId) (b : ℤ) → Ascends (set_of sets (number_of v)) → IsFirst b (set_of sets (number_of v)) → TellsHigh sets (Not v) (pos 1 -ℤ b)
high_not sets v b up first =
    let f = stands_first (set_of sets (number_of v)) b up first in
    record {
      is = ap (λ x. pos 1 -ℤ x) (first_is (set_of sets (number_of v)) b first);
      greatest = record {
        there = subst (Has (set_of sets (number_of v))) (sym (back b)) f.has;
        greatest = λ a has. (let le = f.others (pos 1 -ℤ a) has in omega (arith, ints, le));
      };
      end = inl (subst (λ x. IsFirst x (set_of sets (number_of v))) (sym (back b)) first);
    }
