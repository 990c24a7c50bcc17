-- What values add at places, and the least that all places add.
use Rattle.std.proofs.Common.{◌≡◌, ℕ, zero, suc, ◌-◌, ℤ, pos, negsuc, ◌+ℤ◌, ◌*ℤ◌, ◌≤ℤ◌, inl, inr, if◌then◌else◌, List, [], ◌∷◌, length, map, slice_get, Some, refl, sym, subst, ap, arith}
use Rattle.std.proofs.lemmas.Int.{ints}
use Rattle.std.specs.List.{AllByRecursion}
use Rattle.mn_model.specs.Decided.{Decided, decide_int}
use Rattle.mn_model.specs.Domain.{Has, IsFirst, IsLast}
use Rattle.mn_model.specs.Variable.{number_of}
use Rattle.mn_model.specs.declared.constraint.Term.{Term}
use Rattle.mn_model.specs.declared.constraint.Term.TheVariants.{Var, Const, Not}
use Rattle.mn_model.proofs.Ordered.{lt_false, lt_true}
use Rattle.mn_boxes.specs.Boxes.{IsBox, set_of}
use Rattle.mn_boxes.specs.Places.{PlaceHas}
use Rattle.mn_boxes.specs.Sets.{Variable}
use Rattle.mn_boxes.proofs.Quiet.{ascends_at}
use Rattle.mn_meaning.specs.Meaning.{at}
use Rattle.mn_meaning.proofs.Places.{int_eq-other, int_eq-same}
use Rattle.mn_closure.specs.Closed.{Asked}
use Rattle.mn_closure.specs.Deciding.{decide_place}
use Rattle.mn_closure.specs.Levels.{Arc}
use Rattle.mn_closure.specs.Supports.{Choice}
use Rattle.mn_prop.specs.Contexts.{IsGreatestAt, IsLeastAt, IsNamed, place_hi, place_lo}
use Rattle.mn_prop.proofs.Boxing.{some_in, some_value}
use Rattle.mn_prop.proofs.Ended.{Greatest, Least, greatest_of, least_of}
use Rattle.mn_prop.proofs.PlaceLemmas.{high_not, high_var, low_not, low_var}
use Rattle.mn_sums.specs.Parts.{cost, least_cost, least_total, least_when, term_of, total}
use Rattle.mn_sums.specs.declared.part.Part.{Part}
use Rattle.mn_sums.specs.declared.part.Part.TheVariants.{Times, Is}
use Rattle.mn_sums.proofs.Numbers.{times_le, turned}

-- ---- the ends of a place

some_first : (xs : List ℤ) (a : ℤ) → Has xs a → (b : ℤ) × IsFirst b xs
some_first [] a has = absurd has
some_first (x ∷ xs) a has = (x, refl)

some_last : (xs : List ℤ) (a : ℤ) → Has xs a → (b : ℤ) × IsLast b xs
some_last [] a has = absurd has
some_last (x ∷ []) a has = (x, refl)
some_last (x ∷ y ∷ xs) a has = let last = some_last (y ∷ xs) y (inl refl) in (last.0, step last.0 last.1)
  where
    step : (b : ℤ) → IsLast b (y ∷ xs) → IsLast b (x ∷ y ∷ xs)
    step b e = let same : suc (suc (length xs)) - 1 ≡ suc (suc (length xs) - 1) = omega arith in rw same e

pub lo_at : (vars : List Variable) (box : List (List ℤ)) (t : Term) → IsBox vars box → IsNamed vars t → IsLeastAt box t (place_lo box t)
lo_at vars box (Var v) is named =
    let some = some_in vars box (number_of v) is named in
    let first = some_first (set_of box (number_of v)) some.0 some.1 in
    let low = low_var box v first.0 (ascends_at vars box (number_of v) is) first.1 in
    subst (IsLeastAt box (Var v)) low.is low.least
lo_at vars box (Const k) is named = record { there = refl; least = λ b same. omega (arith, ints, same) }
lo_at vars box (Not v) is named =
    let some = some_in vars box (number_of v) is named in
    let last = some_last (set_of box (number_of v)) some.0 some.1 in
    let low = low_not box v last.0 (ascends_at vars box (number_of v) is) last.1 in
    subst (IsLeastAt box (Not v)) low.is low.least

pub hi_at : (vars : List Variable) (box : List (List ℤ)) (t : Term) → IsBox vars box → IsNamed vars t → IsGreatestAt box t (place_hi box t)
hi_at vars box (Var v) is named =
    let some = some_in vars box (number_of v) is named in
    let last = some_last (set_of box (number_of v)) some.0 some.1 in
    let high = high_var box v last.0 (ascends_at vars box (number_of v) is) last.1 in
    subst (IsGreatestAt box (Var v)) high.is high.greatest
hi_at vars box (Const k) is named = record { there = refl; greatest = λ b same. omega (arith, ints, same) }
hi_at vars box (Not v) is named =
    let some = some_in vars box (number_of v) is named in
    let first = some_first (set_of box (number_of v)) some.0 some.1 in
    let high = high_not box v first.0 (ascends_at vars box (number_of v) is) first.1 in
    subst (IsGreatestAt box (Not v)) high.is high.greatest

-- ---- one place

-- what a value with the number adds, and any other
pub is_cost : (k a : ℤ) (t : Term) → a ≡ k → cost (Is k t) a ≡ negsuc 0
is_cost k a t same = ap (λ b. if b then negsuc 0 else pos 0) (int_eq-same a k same)

pub other_cost : (k a : ℤ) (t : Term) → (a ≡ k → ⊥) → cost (Is k t) a ≡ pos 0
other_cost k a t other = ap (λ b. if b then negsuc 0 else pos 0) (int_eq-other a k other)

pub cost_between : (k a : ℤ) (t : Term) → (negsuc 0 ≤ℤ cost (Is k t) a) × (cost (Is k t) a ≤ℤ pos 0)
cost_between k a t = by (decide_int a k)
  where
    by : Decided (a ≡ k) → (negsuc 0 ≤ℤ cost (Is k t) a) × (cost (Is k t) a ≤ℤ pos 0)
    by (inl same) = let e = is_cost k a t same in (omega (arith, ints, e), omega (arith, ints, e))
    by (inr other) = let e = other_cost k a t other in (omega (arith, ints, e), omega (arith, ints, e))

-- the least cost of a weight of either sign
pub above_cost : (n : ℕ) (box : List (List ℤ)) (t : Term) → least_cost box (Times (pos n) t) ≡ pos n *ℤ place_lo box t
above_cost n box t = ap (λ b. pos n *ℤ (if b then place_hi box t else place_lo box t)) (lt_false (pos n) (pos 0) (omega (arith, ints)))

pub below_cost : (m : ℕ) (box : List (List ℤ)) (t : Term) → least_cost box (Times (negsuc m) t) ≡ negsuc m *ℤ place_hi box t
below_cost m box t = ap (λ b. negsuc m *ℤ (if b then place_hi box t else place_lo box t)) (lt_true (negsuc m) (pos 0) (omega (arith, ints)))

pub falls : (m : ℕ) (a b : ℤ) → a ≤ℤ b → (negsuc m *ℤ b) ≤ℤ (negsuc m *ℤ a)
falls m a b le = let more = times_le (suc m) a b le in omega (arith, ints, turned m a, turned m b, more)

-- some value of the place adds the least, and no value adds less
pub record IsCheapest (box : List (List ℤ)) (p : Part) (least : ℤ) : Type 0 where
  pub value : ℤ
  pub there : PlaceHas box (term_of p) value
  pub is : cost p value ≡ least
  pub others : (a : ℤ) → PlaceHas box (term_of p) a → least ≤ℤ cost p a

pub cheapest : (vars : List Variable) (box : List (List ℤ)) (p : Part) → IsBox vars box → IsNamed vars (term_of p) → IsCheapest box p (least_cost box p)
cheapest vars box (Times (pos n) t) is named =
    let low = lo_at vars box t is named in
    let e = above_cost n box t in
    record { value = place_lo box t; there = low.there; is = sym e; others = λ a has. (let le = times_le n (place_lo box t) a (low.least a has) in omega (arith, ints, e, le)) }
cheapest vars box (Times (negsuc m) t) is named =
    let high = hi_at vars box t is named in
    let e = below_cost m box t in
    record { value = place_hi box t; there = high.there; is = sym e; others = λ a has. (let le = falls m a (place_hi box t) (high.greatest a has) in omega (arith, ints, e, le)) }
cheapest vars box (Is k t) is named = by (decide_place box t k)
  where
    by : (d : Decided (PlaceHas box t k)) → IsCheapest box (Is k t) (least_when d)
    by (inl has) = record { value = k; there = has; is = is_cost k k t refl; others = λ a at. (cost_between k a t).0 }
    by (inr not) =
        let some = some_value vars box t is named in
        let none : (a : ℤ) → PlaceHas box t a → cost (Is k t) a ≡ pos 0 = λ a at. other_cost k a t (λ same. not (subst (PlaceHas box t) same at)) in
        record { value = some.0; there = some.1; is = none some.0 some.1; others = λ a at. (let e = none a at in omega (arith, ints, e)) }

-- some value that has to be supported adds the most
pub record IsDearest (vars : List Variable) (box : List (List ℤ)) (p : Part) : Type 0 where
  pub value : ℤ
  pub asked : Asked Arc vars box (term_of p) value
  pub others : (a : ℤ) → PlaceHas box (term_of p) a → cost p a ≤ℤ cost p value

pub dearest : (vars : List Variable) (box : List (List ℤ)) (p : Part) → IsBox vars box → IsNamed vars (term_of p) → IsDearest vars box p
dearest vars box (Times (pos n) t) is named =
    let high = greatest_of Arc vars box t is named in
    record { value = high.value; asked = high.asked; others = λ a has. times_le n a high.value (high.greatest.greatest a has) }
dearest vars box (Times (negsuc m) t) is named =
    let low = least_of Arc vars box t is named in
    record { value = low.value; asked = low.asked; others = λ a has. falls m low.value a (low.least.least a has) }
dearest vars box (Is k t) is named = by (decide_int high.value k) (decide_int low.value k)
  where
    high : Greatest Arc vars box t
    high = greatest_of Arc vars box t is named

    low : Least Arc vars box t
    low = least_of Arc vars box t is named

    by : Decided (high.value ≡ k) → Decided (low.value ≡ k) → IsDearest vars box (Is k t)
    by (inr other) d = record { value = high.value; asked = high.asked; others = λ a has. (let e = other_cost k high.value t other in let most = (cost_between k a t).1 in omega (arith, ints, e, most)) }
    by (inl same) (inr other) = record { value = low.value; asked = low.asked; others = λ a has. (let e = other_cost k low.value t other in let most = (cost_between k a t).1 in omega (arith, ints, e, most)) }
    by (inl same) (inl alike) = record {
      value = high.value;
      asked = high.asked;
      others = λ a has. (let to = high.greatest.greatest a has in let from = low.least.least a has in let e = is_cost k a t (omega (arith, ints, to, from, same, alike)) in let f = is_cost k high.value t same in omega (arith, ints, e, f));
    }

-- ---- all places

abbrev pub AreParts : List Variable → List Part → Type 0
AreParts vars ps = AllByRecursion (λ p. IsNamed vars (term_of p)) ps

pub as_long : (box : List (List ℤ)) (ps : List Part) (values : List ℤ) → Choice box (map term_of ps) values → length values ≡ length ps
as_long box [] [] chosen = refl
as_long box [] (a ∷ values) chosen = absurd chosen
as_long box (p ∷ ps) [] chosen = absurd chosen
as_long box (p ∷ ps) (a ∷ values) chosen = ap suc (as_long box ps values chosen.1)

-- no choice adds less
pub none_less : (vars : List Variable) (box : List (List ℤ)) (ps : List Part) (values : List ℤ) → IsBox vars box → AreParts vars ps → Choice box (map term_of ps) values → least_total box ps ≤ℤ total ps values
none_less vars box [] values is named chosen = omega (arith, ints)
none_less vars box (p ∷ ps) [] is named chosen = absurd chosen
none_less vars box (p ∷ ps) (a ∷ values) is named chosen =
    let here = (cheapest vars box p is named.0).others a chosen.0 in
    let behind = none_less vars box ps values is named.1 chosen.1 in
    omega (arith, ints, here, behind)

-- one with a value at a place adds what the value does and the least of each other place
pub with_value : (vars : List Variable) (box : List (List ℤ)) (ps : List Part) (values : List ℤ) (i : ℕ) (p : Part) → IsBox vars box → AreParts vars ps → Choice box (map term_of ps) values → slice_get ps i ≡ Some p → (least_total box ps +ℤ cost p (at values i)) ≤ℤ (total ps values +ℤ least_cost box p)
with_value vars box [] values i p is named chosen here = cc
with_value vars box (q ∷ ps) [] i p is named chosen here = absurd chosen
with_value vars box (q ∷ ps) (a ∷ values) zero p is named chosen here =
    let same : q ≡ p = cc in
    let behind = none_less vars box ps values is named.1 chosen.1 in
    subst (λ r. (least_total box (q ∷ ps) +ℤ cost r a) ≤ℤ (total (q ∷ ps) (a ∷ values) +ℤ least_cost box r)) same (omega (arith, ints, behind))
with_value vars box (q ∷ ps) (a ∷ values) (suc i) p is named chosen here =
    let first = (cheapest vars box q is named.0).others a chosen.0 in
    let behind = with_value vars box ps values i p is named.1 chosen.1 here in
    omega (arith, ints, first, behind)

-- a choice that adds the least
pub record IsLeastChoice (box : List (List ℤ)) (ps : List Part) : Type 0 where
  pub values : List ℤ
  pub chosen : Choice box (map term_of ps) values
  pub sum : total ps values ≡ least_total box ps

pub least_choice : (vars : List Variable) (box : List (List ℤ)) (ps : List Part) → IsBox vars box → AreParts vars ps → IsLeastChoice box ps
least_choice vars box [] is named = record { values = []; chosen = tt; sum = refl }
least_choice vars box (p ∷ ps) is named =
    let here = cheapest vars box p is named.0 in
    let behind = least_choice vars box ps is named.1 in
    record { values = here.value ∷ behind.values; chosen = (here.there, behind.chosen); sum = (let e = here.is in let f = behind.sum in omega (arith, ints, e, f)) }

-- and one that does with a value at a place
pub record IsChoiceOf (box : List (List ℤ)) (ps : List Part) (i : ℕ) (p : Part) (a : ℤ) : Type 0 where
  pub values : List ℤ
  pub chosen : Choice box (map term_of ps) values
  pub given : at values i ≡ a
  pub sum : (total ps values +ℤ least_cost box p) ≡ (least_total box ps +ℤ cost p a)

pub choice_of : (vars : List Variable) (box : List (List ℤ)) (ps : List Part) (i : ℕ) (p : Part) (a : ℤ) → IsBox vars box → AreParts vars ps → slice_get ps i ≡ Some p → PlaceHas box (term_of p) a → IsChoiceOf box ps i p a
choice_of vars box [] i p a is named here has = cc
choice_of vars box (q ∷ ps) zero p a is named here has =
    let same : p ≡ q = cc in
    let behind = least_choice vars box ps is named.1 in
    let f = behind.sum in
    record {
      values = a ∷ behind.values;
      chosen = (subst (λ r. PlaceHas box (term_of r) a) same has, behind.chosen);
      given = refl;
      sum = subst (λ r. (total (q ∷ ps) (a ∷ behind.values) +ℤ least_cost box r) ≡ (least_total box (q ∷ ps) +ℤ cost r a)) (sym same) (omega (arith, ints, f));
    }
choice_of vars box (q ∷ ps) (suc i) p a is named here has =
    let first = cheapest vars box q is named.0 in
    let behind = choice_of vars box ps i p a is named.1 here has in
    let e = first.is in
    let f = behind.sum in
    record { values = first.value ∷ behind.values; chosen = (first.there, behind.chosen); given = behind.given; sum = omega (arith, ints, e, f) }
