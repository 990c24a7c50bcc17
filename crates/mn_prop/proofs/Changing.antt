-- What a change of a variable's set is at a place.
use Rattle.std.proofs.Common.{◌≡◌, ◌≢◌, ◌↔◌, IsTrue, ℕ, zero, suc, ◌<◌, ◌≤◌, ◌⊎◌, ℤ, pos, ◌-ℤ◌, inl, inr, Bool, true, false, int_le, not, List, [], ◌∷◌, length, filter, Result, Ok, Err, refl, sym, subst, ap, ◌∙◌, arith, true≢false}
use Rattle.std.proofs.lemmas.Int.{ints}
use Rattle.std.specs.Ordering.{int_eq}
use Rattle.std.specs.Prelude.{slice_set}
use Rattle.mn_meaning.proofs.Places.{int_eq-other}
use Rattle.mn_model.specs.Domain.{Has, IsValue}
use Rattle.mn_model.specs.Variable.{number_of}
use Rattle.mn_model.specs.declared.constraint.Term.{Term}
use Rattle.mn_model.specs.declared.constraint.Term.TheVariants.{Var, Const, Not}
use Rattle.mn_model.specs.declared.variable.VarId.{VarId}
use Rattle.mn_model.proofs.Filtered.{filter_has, has_filter}
use Rattle.mn_model.proofs.Ordered.{le_true}
use Rattle.mn_boxes.specs.Boxes.{IsBox, count_of, set_of}
use Rattle.mn_boxes.specs.Sets.{MayGo, Variable}
use Rattle.mn_boxes.specs.declared.change.Moved.{Moved}
use Rattle.mn_domains.specs.Changes.{Changed, is_not, kept, with_sets}
use Rattle.mn_domains.specs.Sets.{Sets}
use Rattle.mn_domains.specs.declared.doms.Emptied.{Emptied}
use Rattle.mn_domains.proofs.Filtered.{filter_alike, eq_so, eq_true}
use Rattle.mn_prop.specs.Contexts.{ChangedAt, Context, IsAnswer, IsAnswerIf, IsChange, IsTurned, Notes, SomePasses, box_of, kept_at, noted_if, vars_of}
use Rattle.mn_prop.specs.declared.context.Fail.{Fail}
use Rattle.mn_prop.proofs.Boxing.{all_kept, all_left, count_kept, few_left}
use Rattle.mn_prop.proofs.PlaceLemmas.{back}
use Rattle.mn_prop.proofs.Stepping.{nothing_noted}

-- some member passes where not none is left
pub some_left : (p : ℤ → Bool) (xs : List ℤ) → (filter p xs ≡ [] → ⊥) → (a : ℤ) × Has xs a × (p a ≡ true)
some_left p xs left = by (filter p xs) (λ a has. has) left
  where
    by : (ys : List ℤ) → ((a : ℤ) → Has ys a → Has (filter p xs) a) → (ys ≡ [] → ⊥) → (a : ℤ) × Has xs a × (p a ≡ true)
    by [] of some = absurd (some refl)
    by (y ∷ ys) of some = let passes = has_filter p xs y (of y (inl refl)) in (y, passes.has, passes.passes)

-- and no member does where none is
pub none_left : (p : ℤ → Bool) (xs : List ℤ) (a : ℤ) → filter p xs ≡ [] → Has xs a → p a ≡ false
none_left p xs a none has = by (p a) refl
  where
    by : (t : Bool) → p a ≡ t → t ≡ false
    by true e = absurd (subst (λ ys. Has ys a) none (filter_has p xs a has e))
    by false e = refl

-- it is noted if a value went
module _ (p : ℤ → Bool) (v : ℕ) (d : Sets) where
  less_or_all : (n m : ℕ) → n ≤ m → (n < m) ⊎ (n ≡ m)
  less_or_all zero zero le = inr refl
  less_or_all zero (suc m) le = inl (omega arith)
  less_or_all (suc n) zero le = absurd (omega (arith, le))
  less_or_all (suc n) (suc m) le = by (less_or_all n m (omega (arith, le)))
    where
      by : (n < m) ⊎ (n ≡ m) → (suc n < suc m) ⊎ (suc n ≡ suc m)
      by (inl less) = inl (omega (arith, less))
      by (inr same) = inr (ap suc same)

  note_of : (any before : Bool) → IsTrue any ↔ ((set_of d.now.sets v) ≢ filter p (set_of d.now.sets v)) → Notes (noted_if any before) (record { doms = d; moved = before }) (record { doms = with_sets d (kept p v d.now.sets); moved = noted_if any before })
  note_of true before tells = inr (by (less_or_all (length (filter p (set_of d.now.sets v))) (length (set_of d.now.sets v)) (few_left p (set_of d.now.sets v))))
    where
      by : (length (filter p (set_of d.now.sets v)) < length (set_of d.now.sets v)) ⊎ (length (filter p (set_of d.now.sets v)) ≡ length (set_of d.now.sets v)) → count_of (kept p v d.now.sets) < count_of d.now.sets
      by (inl less) = let count = count_kept p v d.now.sets in omega (arith, less, count)
      by (inr same) = absurd (tells.0 refl (sym (all_left p (set_of d.now.sets v) same)))
  note_of false true tells = inl refl
  note_of false false tells = (refl, all_kept p v d.now.sets (by (less_or_all (length (filter p (set_of d.now.sets v))) (length (set_of d.now.sets v)) (few_left p (set_of d.now.sets v)))))
    where
      by : (length (filter p (set_of d.now.sets v)) < length (set_of d.now.sets v)) ⊎ (length (filter p (set_of d.now.sets v)) ≡ length (set_of d.now.sets v)) → count_of (kept p v d.now.sets) ≡ count_of d.now.sets
      by (inl less) = absurd (true≢false (sym (tells.1 (λ same. let long = ap length same in omega (arith, less, long)))))
      by (inr same) = let count = count_kept p v d.now.sets in omega (arith, same, count)

-- a change of a variable's set is one of a place, where the same values stay
change_of : (p q : ℤ → Bool) (t : Term) (v : ℕ) (d e : Sets) (any before now : Bool) → SomePasses p t d.now.sets → kept q v d.now.sets ≡ kept_at p t d.now.sets → e ≡ with_sets d (kept q v d.now.sets) → IsBox e.vars e.now.sets
    → now ≡ noted_if any before → IsTrue any ↔ (set_of d.now.sets v ≢ filter q (set_of d.now.sets v)) → IsChange p t (record { doms = d; moved = before }) (record { doms = e; moved = now })
change_of p q t v d e any before now some alike is box note tells = record {
  some = some;
  is = ap (λ (x : Sets). record { doms = x; moved = now }) (is ∙ ap (with_sets d) alike);
  boxes = box;
  noted = subst (λ b. Notes b (record { doms = d; moved = before }) (record { doms = e; moved = b })) (sym note)
      (subst (λ (x : Sets). Notes (noted_if any before) (record { doms = d; moved = before }) (record { doms = x; moved = noted_if any before })) (sym is) (note_of q v d any before tells));
}

pub changed_var : (p : ℤ → Bool) (v : VarId) (d e : Sets) (before now : Bool) (change : Result Moved Emptied) (answer : Result (Unit {0}) Fail) → IsBox e.vars e.now.sets → Changed p (number_of v) d e change → IsAnswer change before now answer
    → ChangedAt p (Var v) (record { doms = d; moved = before }) (record { doms = e; moved = now }) answer
changed_var p v d e before now (Ok moved) (Ok done) box changed is =
    let some = some_left p (set_of d.now.sets (number_of v)) changed.0 in
    change_of p p (Var v) (number_of v) d e moved.any before now (record { value = some.0; there = some.1; passes = some.2 }) refl changed.1 box is changed.2.any
changed_var p v d e before now (Ok moved) (Err fail) box changed is = absurd is
changed_var p v d e before now (Err emptied) (Ok done) box changed is = absurd is
changed_var p v d e before now (Err emptied) (Err fail) box changed is =
    (λ a has. none_left p (set_of d.now.sets (number_of v)) a changed.0 has, ap (λ (x : Sets). record { doms = x; moved = now }) changed.1 ∙ ap (λ b. record { doms = d; moved = b }) is)

-- and of the place of one less it, where the tests agree
pub changed_not : (p q : ℤ → Bool) (v : VarId) (d e : Sets) (before now : Bool) (change : Result Moved Emptied) (answer : Result (Unit {0}) Fail) → ((b : ℤ) → Has (set_of d.now.sets (number_of v)) b → q b ≡ p (pos 1 -ℤ b)) → IsBox e.vars e.now.sets
    → Changed q (number_of v) d e change → IsAnswer change before now answer → ChangedAt p (Not v) (record { doms = d; moved = before }) (record { doms = e; moved = now }) answer
changed_not p q v d e before now (Ok moved) (Ok done) agree box changed is =
    let xs = set_of d.now.sets (number_of v) in
    let some = some_left q xs changed.0 in
    change_of p q (Not v) (number_of v) d e moved.any before now (record { value = pos 1 -ℤ some.0; there = subst (Has xs) (sym (back some.0)) some.1; passes = sym (agree some.0 some.1) ∙ some.2 })
    (ap (λ ys. slice_set d.now.sets (number_of v) ys) (filter_alike q (λ b. p (pos 1 -ℤ b)) xs agree)) changed.1 box is changed.2.any
changed_not p q v d e before now (Ok moved) (Err fail) agree box changed is = absurd is
changed_not p q v d e before now (Err emptied) (Ok done) agree box changed is = absurd is
changed_not p q v d e before now (Err emptied) (Err fail) agree box changed is =
    let xs = set_of d.now.sets (number_of v) in
    (λ a has. ap p (sym (back a)) ∙ (sym (agree (pos 1 -ℤ a) has) ∙ none_left q xs (pos 1 -ℤ a) changed.0 has), ap (λ (x : Sets). record { doms = x; moved = now }) changed.1 ∙ ap (λ b. record { doms = d; moved = b }) is)

-- a constant stays or doesn't
pub changed_const : (p : ℤ → Bool) (k : ℤ) (old : Context) (answer : Result (Unit {0}) Fail) (stays : Bool) → IsBox (vars_of old) (box_of old) → p k ≡ stays → IsAnswerIf stays answer → ChangedAt p (Const k) old old answer
changed_const p k old (Ok done) stays box e is = record { some = record { value = k; there = refl; passes = e ∙ is }; is = refl; boxes = box; noted = nothing_noted old.moved old refl }
changed_const p k old (Err fail) stays box e is = (λ a same. ap p (sym same) ∙ (e ∙ is), refl)

-- tests of one less a value
le_back : (a b : ℤ) → int_le b (pos 1 -ℤ a) ≡ int_le a (pos 1 -ℤ b)
le_back a b = grind (arith, ints)

ge_back : (a b : ℤ) → int_le (pos 1 -ℤ a) b ≡ int_le (pos 1 -ℤ b) a
ge_back a b = grind (arith, ints)

eq_back : (a b : ℤ) → int_eq b (pos 1 -ℤ a) ≡ int_eq (pos 1 -ℤ b) a
eq_back a b = by (int_eq b (pos 1 -ℤ a)) refl
  where
    by : (t : Bool) → int_eq b (pos 1 -ℤ a) ≡ t → t ≡ int_eq (pos 1 -ℤ b) a
    by true e = let same = eq_so b (pos 1 -ℤ a) e in sym (eq_true (pos 1 -ℤ b) a (omega (arith, ints, same)))
    by false e = other (int_eq (pos 1 -ℤ b) a) refl
      where
        other : (t : Bool) → int_eq (pos 1 -ℤ b) a ≡ t → false ≡ t
        other true h = let same = eq_so (pos 1 -ℤ b) a h in absurd (true≢false (sym (eq_true b (pos 1 -ℤ a) (omega (arith, ints, same))) ∙ e))
        other false h = refl

pub turned_le : (a turned b : ℤ) → IsTurned a turned → IsValue b → int_le b turned ≡ int_le a (pos 1 -ℤ b)
turned_le a turned b (inl is) value = ap (λ x. int_le b x) is ∙ le_back a b
turned_le a turned b (inr great) value = le_true b turned (omega (arith, ints)) ∙ sym (le_true a (pos 1 -ℤ b) (omega (arith, ints)))

pub turned_ge : (a turned b : ℤ) → IsTurned a turned → IsValue b → int_le turned b ≡ int_le (pos 1 -ℤ b) a
turned_ge a turned b (inl is) value = ap (λ x. int_le x b) is ∙ ge_back a b
turned_ge a turned b (inr great) value = grind (arith, ints)

pub turned_eq : (a turned b : ℤ) → IsTurned a turned → IsValue b → int_eq b turned ≡ int_eq (pos 1 -ℤ b) a
turned_eq a turned b (inl is) value = ap (λ x. int_eq b x) is ∙ eq_back a b
turned_eq a turned b (inr great) value = int_eq-other b turned (λ e. omega (arith, ints, e)) ∙ sym (int_eq-other (pos 1 -ℤ b) a (λ e. omega (arith, ints, e)))

pub turned_not : (a turned b : ℤ) → IsTurned a turned → IsValue b → is_not turned b ≡ is_not a (pos 1 -ℤ b)
turned_not a turned b is value = ap not (turned_eq a turned b is value)

-- the value turned is there exactly where one less a is
pub turned_has : (xs : List ℤ) (a turned : ℤ) → ((b : ℤ) → Has xs b → IsValue b) → IsTurned a turned → (Has xs turned → Has xs (pos 1 -ℤ a)) × (Has xs (pos 1 -ℤ a) → Has xs turned)
turned_has xs a turned valued (inl is) = (λ has. subst (Has xs) is has, λ has. subst (Has xs) (sym is) has)
turned_has xs a turned valued (inr great) = (λ has. absurd (let v = valued turned has in omega (arith, ints, v.1, great.0)), λ has. absurd (let v = valued (pos 1 -ℤ a) has in omega (arith, ints, v.1, great.1)))

pub turned_may : (var : Variable) (xs : List ℤ) (a turned : ℤ) → ((b : ℤ) → Has xs b → IsValue b) → IsTurned a turned → (MayGo var xs turned → MayGo var xs (pos 1 -ℤ a)) × (MayGo var xs (pos 1 -ℤ a) → MayGo var xs turned)
turned_may var xs a turned valued (inl is) = (λ may. subst (MayGo var xs) is may, λ may. subst (MayGo var xs) (sym is) may)
turned_may var xs a turned valued (inr great) =
    (λ may bounded has. absurd (let v = valued (pos 1 -ℤ a) has in omega (arith, ints, v.1, great.1)), λ may bounded has. absurd (let v = valued turned has in omega (arith, ints, v.1, great.0)))
