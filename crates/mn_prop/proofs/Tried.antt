-- The values of a trial.
use Rattle.std.proofs.Common.{◌≡◌, ℕ, zero, suc, ◌<◌, ◌≤◌, nat_eq, FitsSigned, w64, ℤ, pos, ◌-ℤ◌, Bool, true, false, if◌then◌else◌, inl, List, [], ◌∷◌, length, Option, Some, None, refl, sym, subst, ap, arith}
use Rattle.std.proofs.lemmas.Bool.{eq-eqb}
use Rattle.std.proofs.lemmas.Bool.Decides.{Decides-eqb}
use Rattle.std.proofs.lemmas.Int.{ints}
use Rattle.mn_model.specs.Domain.{Has, IsValue}
use Rattle.mn_model.specs.Variable.{number_of}
use Rattle.mn_model.specs.declared.constraint.Term.{Term}
use Rattle.mn_model.specs.declared.constraint.Term.TheVariants.{Var, Const, Not}
use Rattle.mn_model.specs.declared.variable.VarId.{VarId}
use Rattle.mn_boxes.specs.Boxes.{IsBox, set_of}
use Rattle.mn_boxes.specs.Places.{PlaceHas}
use Rattle.mn_boxes.specs.Sets.{Variable}
use Rattle.mn_meaning.specs.Meaning.{value_of}
use Rattle.mn_prop.specs.Contexts.{AreValued, IsNamed, first_of}
use Rattle.mn_prop.proofs.PlaceLemmas.{back}
use Rattle.mn_prop.proofs.Boxing.{some_in}
use Rattle.mn_prop.proofs.Valued.{valued_at}
use Rattle.mn_prop.specs.Trials.{IsTrial, is_tried, tried_value}

zero_valued : IsValue (pos 0)
zero_valued = (omega (arith, ints), omega (arith, ints))

first_valued : (vars : List Variable) (box : List (List ℤ)) (n : ℕ) → IsBox vars box → AreValued vars → IsValue (first_of (set_of box n))
first_valued vars box n is valued = by (set_of box n) (λ a has. valued_at vars box n a is valued has)
  where
    by : (xs : List ℤ) → ((a : ℤ) → Has xs a → IsValue a) → IsValue (first_of xs)
    by [] of = zero_valued
    by (x ∷ xs) of = of x (inl refl)

first_there : (vars : List Variable) (box : List (List ℤ)) (n : ℕ) → IsBox vars box → n < length vars → Has (set_of box n) (first_of (set_of box n))
first_there vars box n is below = let some = some_in vars box n is below in by (set_of box n) some.0 some.1
  where
    by : (xs : List ℤ) (a : ℤ) → Has xs a → Has xs (first_of xs)
    by [] a has = absurd has
    by (x ∷ xs) a has = inl refl

tried_valued : (vars : List Variable) (box : List (List ℤ)) (v : Option VarId) (a : ℤ) → IsBox vars box → AreValued vars → IsValue a → (n : ℕ) → IsValue (tried_value box v a n)
tried_valued vars box v a is valued value n = by (is_tried v n)
  where
    by : (b : Bool) → IsValue (if b then a else first_of (set_of box n))
    by true = value
    by false = first_valued vars box n is valued

-- a value in the set of the variable that is tried makes all values stand in their sets
tried_there : (vars : List Variable) (box : List (List ℤ)) (v : Option VarId) (a : ℤ) (n : ℕ) → IsBox vars box → ((w : VarId) → v ≡ Some w → Has (set_of box (number_of w)) a) → n < length vars → Has (set_of box n) (tried_value box v a n)
tried_there vars box None a n is has below = first_there vars box n is below
tried_there vars box (Some w) a n is has below = by (nat_eq n (number_of w)) refl
  where
    by : (b : Bool) → nat_eq n (number_of w) ≡ b → Has (set_of box n) (if b then a else first_of (set_of box n))
    by true e = subst (λ m. Has (set_of box m) a) (sym ((Decides-eqb n (number_of w)).0 e)) (has w refl)
    by false e = first_there vars box n is below

trial_there : (vars : List Variable) (box : List (List ℤ)) (v : Option VarId) (a : ℤ) → IsBox vars box → ((w : VarId) → v ≡ Some w → Has (set_of box (number_of w)) a) → (u : Term) → IsNamed vars u → PlaceHas box u (value_of (tried_value box v a) u)
trial_there vars box v a is has (Var w) named = tried_there vars box v a (number_of w) is has named
trial_there vars box v a is has (Const k) named = refl
trial_there vars box v a is has (Not w) named = subst (Has (set_of box (number_of w))) (sym (back (tried_value box v a (number_of w)))) (tried_there vars box v a (number_of w) is has named)

tried_itself : (box : List (List ℤ)) (w : VarId) (a : ℤ) → tried_value box (Some w) a (number_of w) ≡ a
tried_itself box w a = ap (λ b. if b then a else first_of (set_of box (number_of w))) (eq-eqb (number_of w) (number_of w) refl)

only : (box : List (List ℤ)) (v : VarId) (a : ℤ) → Has (set_of box (number_of v)) a → (w : VarId) → Some v ≡ Some w → Has (set_of box (number_of w)) a
only box v a has w e = let same : v ≡ w = cc in subst (λ x. Has (set_of box (number_of x)) a) same has

-- the trials of a variable, of a constant and of one less a variable
pub var_trial : (vars : List Variable) (box : List (List ℤ)) (v : VarId) (a : ℤ) → IsBox vars box → AreValued vars → Has (set_of box (number_of v)) a → IsTrial vars box (Var v) a (tried_value box (Some v) a)
var_trial vars box v a is valued has = record {
  valued = tried_valued vars box (Some v) a is valued (valued_at vars box (number_of v) a is valued has);
  there = trial_there vars box (Some v) a is (only box v a has);
  given = tried_itself box v a;
}

pub const_trial : (vars : List Variable) (box : List (List ℤ)) (k a : ℤ) → IsBox vars box → AreValued vars → k ≡ a → IsTrial vars box (Const k) a (tried_value box None (pos 0))
const_trial vars box k a is valued has = record {
  valued = tried_valued vars box None (pos 0) is valued zero_valued;
  there = trial_there vars box None (pos 0) is (λ w e. cc);
  given = has;
}

pub not_trial : (vars : List Variable) (box : List (List ℤ)) (v : VarId) (a : ℤ) → IsBox vars box → AreValued vars → Has (set_of box (number_of v)) (pos 1 -ℤ a) → IsTrial vars box (Not v) a (tried_value box (Some v) (pos 1 -ℤ a))
not_trial vars box v a is valued has = record {
  valued = tried_valued vars box (Some v) (pos 1 -ℤ a) is valued (valued_at vars box (number_of v) (pos 1 -ℤ a) is valued has);
  there = trial_there vars box (Some v) (pos 1 -ℤ a) is (only box v (pos 1 -ℤ a) has);
  given = (let same = tried_itself box v (pos 1 -ℤ a) in omega (arith, ints, same));
}

-- one less a value of a model fits
pub near_fits : (a : ℤ) → IsValue (pos 1 -ℤ a) → FitsSigned w64 (pos 1 -ℤ a)
near_fits a value = let low = value.0 in let high = value.1 in omega (arith, ints)

-- where there is no such variable the first value is 0
pub none_first : (vars : List Variable) (box : List (List ℤ)) (n : ℕ) → IsBox vars box → length vars ≤ n → pos 0 ≡ first_of (set_of box n)
none_first [] [] n is past = refl
none_first [] (xs ∷ box) n is past = absurd is
none_first (var ∷ vars) [] n is past = absurd is
none_first (var ∷ vars) (xs ∷ box) zero is past = absurd (omega (arith, past))
none_first (var ∷ vars) (xs ∷ box) (suc n) is past = none_first vars box n is.1 (omega (arith, past))
