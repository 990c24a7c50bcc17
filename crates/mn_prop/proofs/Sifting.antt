-- Keeping what passes a test is a change that narrows.
use Rattle.std.proofs.Common.{◌≡◌, ◌↔◌, IsTrue, ℕ, ◌<◌, ◌≤◌, ◌⊎◌, ℤ, pos, ◌-ℤ◌, ◌≤ℤ◌, inl, inr, Bool, true, false, not, cond, ◌&&◌, ◌||◌, int_le, List, [], ◌∷◌, length, filter, Result, Ok, Err, OnOk, OnErr, refl, sym, subst, ap, ◌∙◌, arith, true≢false}
use Rattle.std.proofs.lemmas.Int.{ints}
use Rattle.std.specs.List.{list_any}
use Rattle.mn_model.specs.Domain.{Ascends, Has, IsFirst, IsLast}
use Rattle.mn_model.specs.Lawful.{IsLawfulTerm, AreBits}
use Rattle.mn_model.specs.Variable.{number_of}
use Rattle.mn_model.specs.declared.constraint.Term.{Term}
use Rattle.mn_model.specs.declared.constraint.Term.TheVariants.{Var, Const, Not}
use Rattle.mn_model.specs.declared.variable.VarId.{VarId}
use Rattle.mn_model.proofs.Filtered.{filter_has, has_filter}
use Rattle.mn_model.proofs.Ordered.{le_true, le_so}
use Rattle.mn_boxes.specs.Boxes.{Inside, IsBox, set_of, variable_at}
use Rattle.mn_boxes.specs.Places.{IsPlaceEnd, PlaceHas, is_place_bounded}
use Rattle.mn_boxes.specs.Sets.{IsSetOf, Variable}
use Rattle.mn_boxes.specs.declared.change.Moved.{Moved}
use Rattle.mn_boxes.proofs.Quiet.{set_or_none}
use Rattle.mn_domains.specs.Changes.{Changed, kept}
use Rattle.mn_domains.specs.Sets.{Sets}
use Rattle.mn_domains.specs.Sifting.{stays}
use Rattle.mn_domains.specs.declared.doms.Emptied.{Emptied}
use Rattle.mn_closure.specs.Closed.{Asked}
use Rattle.mn_closure.specs.Levels.{Level}
use Rattle.mn_closure.specs.Ready.{declared_sets}
use Rattle.mn_closure.proofs.Covering.{declared_has}
use Rattle.mn_closure.proofs.Wider.{wider_place}
use Rattle.mn_meaning.specs.Laws.{IsZeroOrOne}
use Rattle.mn_prop.specs.Contexts.{AreValued, ChangedAt, Context, IsAnswer, IsAnswerIf, IsChange, IsNamed, NonePasses, SomePasses, box_of, kept_at, vars_of}
use Rattle.mn_prop.specs.Passes.{AllPass, Keeps, Narrows, NoneHas}
use Rattle.mn_prop.specs.Losses.{Loses}
use Rattle.mn_prop.specs.Sifting.{HasBits, IsSift, IsSifted, MightGo, bits_test}
use Rattle.mn_prop.specs.declared.context.Fail.{Fail}
use Rattle.mn_prop.proofs.Boxing.{has_kept, inside_itself, kept_at_passes, kept_inside, kept_passes}
use Rattle.mn_prop.proofs.Changing.{changed_var}
use Rattle.mn_prop.proofs.Narrowing.{narrows_as}
use Rattle.mn_prop.proofs.PlaceLemmas.{high_var, low_var}
use Rattle.mn_prop.proofs.Stepping.{change_step, changed_box, changed_vars}

-- ---- what stays

any_of : (q : ℤ → Bool) (xs : List ℤ) (a : ℤ) → Has xs a → q a ≡ true → list_any q xs ≡ true
any_of q [] a has e = absurd has
any_of q (x ∷ xs) a (inl is) e = by (q x) (ap q is ∙ e)
  where
    by : (t : Bool) → t ≡ true → (t || list_any q xs) ≡ true
    by true e = refl
    by false e = absurd (true≢false (sym e))
any_of q (x ∷ xs) a (inr later) e = by (q x) (any_of q xs a later e)
  where
    by : (t : Bool) → list_any q xs ≡ true → (t || list_any q xs) ≡ true
    by true some = refl
    by false some = some

record Found (q : ℤ → Bool) (xs : List ℤ) : Type 0 where
  pub value : ℤ
  pub there : Has xs value
  pub is : q value ≡ true

found_any : (q : ℤ → Bool) (xs : List ℤ) → list_any q xs ≡ true → Found q xs
found_any q [] e = absurd (true≢false (sym e))
found_any q (x ∷ xs) e = by (λ some. found_any q xs some) (q x) refl e
  where
    by : (list_any q xs ≡ true → Found q xs) → (t : Bool) → q x ≡ t → (t || list_any q xs) ≡ true → Found q (x ∷ xs)
    by among true is some = record { value = x; there = inl refl; is = is }
    by among false is some = let later = among some in record { value = later.value; there = inr later.there; is = later.is }

both : (s t : Bool) → s ≡ true → t ≡ true → (s && t) ≡ true
both true t one other = other
both false t one other = one

one_of : (s t : Bool) → (s && t) ≡ true → s ≡ true
one_of true t e = refl
one_of false t e = e

other_of : (s t : Bool) → (s && t) ≡ true → t ≡ true
other_of true t e = e
other_of false t e = absurd (true≢false (sym e))

itself : (a : ℤ) → int_le a a ≡ true
itself a = le_true a a (omega (arith, ints))

module _ (p : ℤ → Bool) where
  -- what passes stays
  stays_if : (var : Variable) (xs : List ℤ) (a : ℤ) → Has xs a → p a ≡ true → stays var p xs a ≡ true
  unfolding Rattle.mn_domains.specs.Sifting.stays
  stays_if var xs a has e = by var.bounded
    where
      low : list_any (λ x. int_le x a && p x) xs ≡ true
      low = any_of (λ x. int_le x a && p x) xs a has (both (int_le a a) (p a) (itself a) e)

      high : list_any (λ x. int_le a x && p x) xs ≡ true
      high = any_of (λ x. int_le a x && p x) xs a has (both (int_le a a) (p a) (itself a) e)

      by : (t : Bool) → cond t (list_any (λ x. int_le x a && p x) xs && list_any (λ x. int_le a x && p x) xs) (p a) ≡ true
      by true = both (list_any (λ x. int_le x a && p x) xs) (list_any (λ x. int_le a x && p x) xs) low high
      by false = e

  -- what stays passes, or values go at the ends alone and it is between two that pass
  record IsBetween (var : Variable) (xs : List ℤ) (a : ℤ) : Type 0 where
    pub bounded : IsTrue var.bounded
    pub low : Found (λ x. int_le x a && p x) xs
    pub high : Found (λ x. int_le a x && p x) xs

  stays_so : (var : Variable) (xs : List ℤ) (a : ℤ) → stays var p xs a ≡ true → (p a ≡ true) ⊎ IsBetween var xs a
  unfolding Rattle.mn_domains.specs.Sifting.stays
  stays_so var xs a e = by var.bounded refl e
    where
      by : (t : Bool) → var.bounded ≡ t → cond t (list_any (λ x. int_le x a && p x) xs && list_any (λ x. int_le a x && p x) xs) (p a) ≡ true → (p a ≡ true) ⊎ IsBetween var xs a
      by true is all = inr (record {
        bounded = is;
        low = found_any (λ x. int_le x a && p x) xs (one_of (list_any (λ x. int_le x a && p x) xs) (list_any (λ x. int_le a x && p x) xs) all);
        high = found_any (λ x. int_le a x && p x) xs (other_of (list_any (λ x. int_le x a && p x) xs) (list_any (λ x. int_le a x && p x) xs) all);
      })
      by false is passes = inl passes

-- ---- what is left of a variable's set

ascends_at : (vars : List Variable) (box : List (List ℤ)) (v : ℕ) → IsBox vars box → Ascends (set_of box v)
ascends_at vars box v is = set_or_none vars box v is (λ none. subst Ascends (sym none) tt) (λ set. set.ascends)

-- the end of a set that passing ones were kept in passes, where they stayed
end_passes : (p : ℤ → Bool) (vars : List Variable) (old new : List (List ℤ)) (v : VarId) (q : ℤ → Bool) → IsBox vars new → new ≡ kept q (number_of v) old → ((a : ℤ) → Has (set_of old (number_of v)) a → p a ≡ true → q a ≡ true)
    → ((a : ℤ) → q a ≡ true → (p a ≡ true) ⊎ IsBetween p (variable_at vars (number_of v)) (set_of old (number_of v)) a) → (a : ℤ) → MightGo vars new (Var v) a → p a ≡ true
end_passes p vars old new v q box is stay so a might = by (so a (kept_passes q (number_of v) old a (subst (λ (b : List (List ℤ)). Has (set_of b (number_of v)) a) is might.there)))
  where
    up : Ascends (set_of new (number_of v))
    up = ascends_at vars new (number_of v) box

    -- a passing value of the old set is in the new one
    stayed : (x : ℤ) → Has (set_of old (number_of v)) x → p x ≡ true → Has (set_of new (number_of v)) x
    stayed x has e = subst (λ (b : List (List ℤ)). Has (set_of b (number_of v)) x) (sym is) (has_kept q (number_of v) old x has (stay x has e))

    by : (p a ≡ true) ⊎ IsBetween p (variable_at vars (number_of v)) (set_of old (number_of v)) a → p a ≡ true
    by (inl e) = e
    by (inr between) = at_end (might.ends between.bounded)
      where
        low_is : p between.low.value ≡ true
        low_is = other_of (int_le between.low.value a) (p between.low.value) between.low.is

        low_le : between.low.value ≤ℤ a
        low_le = le_so between.low.value a (one_of (int_le between.low.value a) (p between.low.value) between.low.is)

        high_is : p between.high.value ≡ true
        high_is = other_of (int_le a between.high.value) (p between.high.value) between.high.is

        high_le : a ≤ℤ between.high.value
        high_le = le_so a between.high.value (one_of (int_le a between.high.value) (p between.high.value) between.high.is)

        at_end : IsPlaceEnd new (Var v) a → p a ≡ true
        at_end (inl first) =
            let least = (low_var new v a up first).least.least between.low.value (stayed between.low.value between.low.there low_is) in
            let same : between.low.value ≡ a = omega (arith, ints, least, low_le) in
            subst (λ x. p x ≡ true) same low_is
        at_end (inr last) =
            let most = (high_var new v a up last).greatest.greatest between.high.value (stayed between.high.value between.high.there high_is) in
            let same : between.high.value ≡ a = omega (arith, ints, most, high_le) in
            subst (λ x. p x ≡ true) same high_is

pub sifted_var : (p : ℤ → Bool) (v : VarId) (d e : Sets) (before now : Bool) (change : Result Moved Emptied) (answer : Result (Unit {0}) Fail) → IsBox e.vars e.now.sets
    → Changed (stays (variable_at d.vars (number_of v)) p (set_of d.now.sets (number_of v))) (number_of v) d e change → IsAnswer change before now answer
    → IsSifted p (Var v) (record { doms = d; moved = before }) (record { doms = e; moved = now }) answer
sifted_var p v d e before now change answer box changed is = by answer (changed_var q v d e before now change answer box changed is)
  where
    q : ℤ → Bool
    q = stays (variable_at d.vars (number_of v)) p (set_of d.now.sets (number_of v))

    stay : (a : ℤ) → Has (set_of d.now.sets (number_of v)) a → p a ≡ true → q a ≡ true
    stay a has e = stays_if p (variable_at d.vars (number_of v)) (set_of d.now.sets (number_of v)) a has e

    old : Context
    old = record { doms = d; moved = before }

    new : Context
    new = record { doms = e; moved = now }

    by : (r : Result (Unit {0}) Fail) → ChangedAt q (Var v) old new r → IsSifted p (Var v) old new r
    by (Ok done) change = record {
      test = q;
      change = change;
      keeps = stay;
      passes = end_passes p d.vars d.now.sets e.now.sets v q (subst (λ (vars : List Variable). IsBox vars e.now.sets) (changed_vars change) box) (changed_box change) stay
          (λ a e. stays_so p (variable_at d.vars (number_of v)) (set_of d.now.sets (number_of v)) a e);
    }
    by (Err fail) none = (λ a has. fails a has (p a) refl, none.1)
      where
        fails : (a : ℤ) → Has (set_of d.now.sets (number_of v)) a → (t : Bool) → p a ≡ t → t ≡ false
        fails a has true e = absurd (true≢false (sym (stay a has e) ∙ none.0 a has))
        fails a has false e = refl

-- ---- what is left of a 0/1 place

-- a change by another test, which says the same of the values that are there
pub sift_as : (p q : ℤ → Bool) (t : Term) (old new : Context) (result : Result (Unit {0}) Fail) → ((a : ℤ) → PlaceHas (box_of old) t a → q a ≡ p a) → ChangedAt q t old new result → IsSifted p t old new result
sift_as p q t old new (Ok done) agree change = record {
  test = q;
  change = change;
  keeps = λ a has e. agree a has ∙ e;
  passes = λ a might.
      sym (agree a (wider_place (box_of new) (box_of old) inside t a might.there)) ∙ kept_at_passes q t (box_of old) a change.some (subst (λ (b : List (List ℤ)). PlaceHas b t a) (changed_box change) might.there);
}
  where
    inside : Inside (box_of new) (box_of old)
    inside = subst (λ (b : List (List ℤ)). Inside b (box_of old)) (sym (changed_box change)) (kept_inside q t (box_of old))
sift_as p q t old new (Err fail) agree none = (λ a has. sym (agree a has) ∙ none.0 a has, none.1)

-- and a sift by another test, which says the same
pub sift_same : (p q : ℤ → Bool) (t : Term) (old new : Context) (result : Result (Unit {0}) Fail) → ((a : ℤ) → PlaceHas (box_of old) t a → q a ≡ p a) → Inside (box_of new) (box_of old) → IsSifted q t old new result → IsSifted p t old new result
sift_same p q t old new (Ok done) agree inside sift = record {
  test = sift.test;
  change = sift.change;
  keeps = λ a has e. sift.keeps a has (agree a has ∙ e);
  passes = λ a might. sym (agree a (wider_place (box_of new) (box_of old) inside t a might.there)) ∙ sift.passes a might;
}
sift_same p q t old new (Err fail) agree inside none = (λ a has. sym (agree a has) ∙ none.0 a has, none.1)

-- a sift leaves a box inside
pub sift_inside : (p : ℤ → Bool) (t : Term) (old new : Context) (result : Result (Unit {0}) Fail) → IsSifted p t old new result → Inside (box_of new) (box_of old)
sift_inside p t old new (Ok done) sift = subst (λ (b : List (List ℤ)). Inside b (box_of old)) (sym (changed_box sift.change)) (kept_inside sift.test t (box_of old))
sift_inside p t old new (Err fail) none = subst (λ (c : Context). Inside (box_of c) (box_of old)) (sym none.1) (inside_itself (box_of old))

-- the values of one less a 0/1 variable
pub has_bits : (vars : List Variable) (box : List (List ℤ)) (v : VarId) → IsBox vars box → IsLawfulTerm (declared_sets vars) (Not v) → HasBits (Not v) box
has_bits vars box v is lawful a has = by (declared_has vars box (number_of v) (pos 1 -ℤ a) is lawful.1 has)
  where
    by : IsZeroOrOne (pos 1 -ℤ a) → (a ≡ pos 0) ⊎ (a ≡ pos 1)
    by (inl zero) = inr (omega (arith, ints, zero))
    by (inr one) = inl (omega (arith, ints, one))

-- a test of bits agrees with each that says the same of 0 and 1
pub bits_agree : (p : ℤ → Bool) (zero one : Bool) (t : Term) (box : List (List ℤ)) → HasBits t box → p (pos 0) ≡ zero → p (pos 1) ≡ one → (a : ℤ) → PlaceHas box t a → bits_test zero one a ≡ p a
bits_agree p zero one t box bits at_0 at_1 a has = by (bits a has)
  where
    by : (a ≡ pos 0) ⊎ (a ≡ pos 1) → bits_test zero one a ≡ p a
    by (inl is) = ap (bits_test zero one) is ∙ (sym at_0 ∙ ap p (sym is))
    by (inr is) = ap (bits_test zero one) is ∙ (sym at_1 ∙ ap p (sym is))

-- ---- whether something passes

pub met_var : (p : ℤ → Bool) (v : VarId) (sets : List (List ℤ)) (r : Bool) → r ≡ list_any p (set_of sets (number_of v)) → IsTrue r ↔ SomePasses p (Var v) sets
met_var p v sets r is = (
  λ true. (let found = found_any p (set_of sets (number_of v)) (sym is ∙ true) in record { value = found.value; there = found.there; passes = found.is }),
  λ some. is ∙ any_of p (set_of sets (number_of v)) some.value some.there some.passes,
)

pub met_bits : (p : ℤ → Bool) (t : Term) (sets : List (List ℤ)) (zero one : Bool) → HasBits t sets → zero ≡ false → IsTrue zero ↔ (PlaceHas sets t (pos 0) × IsTrue (p (pos 0))) → IsTrue one ↔ (PlaceHas sets t (pos 1) × IsTrue (p (pos 1))) → IsTrue one ↔ SomePasses p t sets
met_bits p t sets zero one bits not_zero at_0 at_1 =
    (λ true. (let passes = at_1.0 true in record { value = pos 1; there = passes.0; passes = passes.1 }), λ some. by some (bits some.value some.there))
  where
    by : (some : SomePasses p t sets) → (some.value ≡ pos 0) ⊎ (some.value ≡ pos 1) → IsTrue one
    by some (inl is) = absurd (true≢false (sym (at_0.1 (subst (PlaceHas sets t) is some.there, ap p (sym is) ∙ some.passes)) ∙ not_zero))
    by some (inr is) = at_1.1 (subst (PlaceHas sets t) is some.there, ap p (sym is) ∙ some.passes)

-- ---- how kinds use it

-- after it what has to be supported passes
pub sift_passes : {p : ℤ → Bool} {t : Term} {old new : Context} (l : Level) → IsSift p t old new → (a : ℤ) → Asked l (vars_of old) (box_of new) t a → p a ≡ true
sift_passes l sift a asked = sift.passes a (record { there = asked.there; ends = λ bounded. asked.ends (inl bounded) })

-- it is a step that narrows to each property whose boxes' values pass
pub sift_step : {R : List (List ℤ) → Term → ℤ → Type 0} {P : List (List ℤ) → Type 0} {p : ℤ → Bool} {old new : Context} {result : Result (Unit {0}) Fail} (t : Term) → IsNamed (vars_of old) t → ((a : ℤ) → PlaceHas (box_of old) t a → p a ≡ false → R (box_of old) t a)
    → ((box : List (List ℤ)) → IsBox (vars_of old) box → Inside box (box_of old) → P box → AllPass p t box) → IsSifted p t old new result → Narrows R P old new result
sift_step {p = p} {old = old} {result = Ok done} t named rule all sift =
    narrows_as (λ box is inside has a there. sift.keeps a (wider_place box (box_of old) inside t a there) (all box is inside has a there))
    (change_step sift.test t named (λ a there goes. rule a there (gone a there (p a) refl goes)) sift.change)
  where
    gone : (a : ℤ) → PlaceHas (box_of old) t a → (b : Bool) → p a ≡ b → sift.test a ≡ false → b ≡ false
    gone a there true e goes = absurd (true≢false (sym (sift.keeps a there e) ∙ goes))
    gone a there false e goes = refl
sift_step {p = p} {result = Err fail} t named rule all none = narrows_as all (change_step p t named rule none)
