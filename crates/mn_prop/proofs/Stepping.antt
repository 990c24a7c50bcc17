-- Steps from changes, and steps one behind another.
use Rattle.std.proofs.Common.{◌≡◌, ◌<◌, ◌≤◌, ℤ, Bool, true, false, inl, inr, List, Result, Ok, Err, IsErr, refl, sym, subst, ap, ◌∙◌, arith, true≢false}
use Rattle.mn_closure.proofs.Wider.{wider_place}
use Rattle.mn_model.specs.declared.constraint.Term.{Term}
use Rattle.mn_boxes.specs.Boxes.{Inside, IsBox, count_of}
use Rattle.mn_boxes.specs.Places.{PlaceHas}
use Rattle.mn_prop.specs.Contexts.{ChangedAt, Context, IsChange, IsNamed, Notes, box_of, kept_at, vars_of, with_box}
use Rattle.mn_prop.specs.Losses.{Anything, Loses, nothing_goes, some_go}
use Rattle.mn_prop.specs.Passes.{AllPass, IsStep, NoneHas, OnlyTakes}
use Rattle.mn_prop.specs.declared.context.Fail.{Fail}
use Rattle.mn_prop.proofs.Boxing.{all_at, few_at, inside_itself, inside_through, kept_at_passes, kept_inside, passing_inside, same_passes, some_value}

abbrev pub Rules : Type 1
Rules = List (List ℤ) → Term → ℤ → Type 0

abbrev pub Property : Type 1
Property = List (List ℤ) → Type 0

-- ---- one change

pub changed_box : {p : ℤ → Bool} {t : Term} {old new : Context} → IsChange p t old new → box_of new ≡ kept_at p t (box_of old)
changed_box change = ap (λ (c : Context). box_of c) change.is

pub changed_vars : {p : ℤ → Bool} {t : Term} {old new : Context} → IsChange p t old new → vars_of new ≡ vars_of old
changed_vars change = ap (λ (c : Context). vars_of c) change.is

change_inside : {p : ℤ → Bool} {t : Term} {old new : Context} → IsChange p t old new → Inside (box_of new) (box_of old)
change_inside {p = p} {t = t} {old = old} {new = new} change = subst (λ box. Inside box (box_of old)) (sym (changed_box change)) (kept_inside p t (box_of old))

-- all values that are left at the place pass
pub change_passes : (p : ℤ → Bool) (t : Term) (old new : Context) → IsChange p t old new → AllPass p t (box_of new)
change_passes p t old new change = subst (AllPass p t) (sym (changed_box change)) (λ a has. kept_at_passes p t (box_of old) a change.some has)

-- ---- values that go, one change after another

pub loses_more : {R : Rules} {old mid new : Context} → Loses R old mid → Loses R mid new → Loses R old new
loses_more (nothing_goes c) more = more
loses_more (some_go old next mid t p change may rest) more = some_go old next _ t p change may (loses_more rest more)

-- by another rule, that lets go what the one does from each box inside the old one
pub loses_so : {R S : Rules} {old new : Context} → ((box : List (List ℤ)) → Inside box (box_of old) → (t : Term) (a : ℤ) → PlaceHas box t a → R box t a → S box t a) → Loses R old new → Loses S old new
loses_so so (nothing_goes c) = nothing_goes c
loses_so so (some_go old mid new t p change may rest) =
    some_go old mid new t p change (λ a has out. so (box_of old) (inside_itself (box_of old)) t a has (may a has out))
    (loses_so (λ box inside. so box (inside_through inside (change_inside change))) rest)

pub same_vars : {R : Rules} {old new : Context} → Loses R old new → vars_of new ≡ vars_of old
same_vars (nothing_goes c) = refl
same_vars (some_go old mid new t p change may rest) = same_vars rest ∙ changed_vars change

pub goes_inside : {R : Rules} {old new : Context} → Loses R old new → Inside (box_of new) (box_of old)
goes_inside (nothing_goes c) = inside_itself (box_of c)
goes_inside (some_go old mid new t p change may rest) = inside_through (goes_inside rest) (change_inside change)

-- what is left is a box
pub box_again : {R : Rules} {old new : Context} → Loses R old new → IsBox (vars_of old) (box_of old) → IsBox (vars_of new) (box_of new)
box_again (nothing_goes c) is = is
box_again (some_go old mid new t p change may rest) is = box_again rest change.boxes

same_frame : {R : Rules} {old new : Context} → Loses R old new → new ≡ with_box old (box_of new) new.moved
same_frame (nothing_goes c) = refl
same_frame (some_go old mid new t p change may rest) = same_frame rest ∙ ap (λ (c : Context). with_box c (box_of new) new.moved) change.is

pub only_takes : {R : Rules} {old new : Context} → Loses R old new → OnlyTakes old new
only_takes loses = record { frame = same_frame loses; boxes = box_again loses; inside = goes_inside loses }

pub taken_through : {old mid new : Context} → OnlyTakes old mid → OnlyTakes mid new → OnlyTakes old new
taken_through {old = old} {mid = mid} {new = new} one two = record {
  frame = two.frame ∙ ap (λ (c : Context). with_box c (box_of new) new.moved) one.frame;
  boxes = λ is. two.boxes (one.boxes is);
  inside = inside_through two.inside one.inside;
}

-- where it is said that the context is at rest nothing goes
pub taken_at_rest : (c : Context) → OnlyTakes c (record c { moved = false })
taken_at_rest c = record { frame = refl; boxes = λ is. is; inside = inside_itself (box_of c) }

pub taken_vars : {old new : Context} → OnlyTakes old new → vars_of new ≡ vars_of old
taken_vars takes = ap (λ (c : Context). vars_of c) takes.frame

-- there are no more values than before
pub no_more : {R : Rules} {old new : Context} → Loses R old new → count_of (box_of new) ≤ count_of (box_of old)
no_more (nothing_goes c) = omega arith
no_more (some_go old mid new t p change may rest) =
    let less = no_more rest in
    let few = few_at p t (box_of old) in
    let count = ap count_of (changed_box change) in
    omega (arith, less, few, count)

-- and where there are as many, none went
pub as_many : {R : Rules} {old new : Context} → Loses R old new → count_of (box_of new) ≡ count_of (box_of old) → box_of new ≡ box_of old
as_many (nothing_goes c) same = refl
as_many (some_go old mid new t p change may rest) same =
    let less = no_more rest in
    let few = few_at p t (box_of old) in
    let count = ap count_of (changed_box change) in
    as_many rest (omega (arith, less, few, count, same)) ∙ (changed_box change ∙ all_at p t (box_of old) (omega (arith, less, few, count, same)))

-- where none is gone at the end, none was gone on the way
pub same_between : {R S : Rules} {old mid new : Context} → Loses R old mid → Loses S mid new → box_of new ≡ box_of old → box_of mid ≡ box_of old
same_between one two same =
    let less = no_more one in
    let more = no_more two in
    let count = ap count_of same in
    as_many one (omega (arith, less, more, count))

-- the mark says whether values went
notes_through : (mid_moved moved : Bool) (old mid new : Context) → mid.moved ≡ mid_moved → Notes mid_moved old mid → Notes moved mid new → count_of (box_of mid) ≤ count_of (box_of old) → count_of (box_of new) ≤ count_of (box_of mid) → Notes moved old new
notes_through false false old mid new is one two less more = (one.0, two.1 ∙ one.1)
notes_through true false old mid new is one two less more = absurd (true≢false (sym is ∙ two.0))
notes_through b true old mid new is one (inr fewer) less more = inr (omega (arith, fewer, less))
notes_through false true old mid new is one (inl before) less more = absurd (true≢false (sym before ∙ is))
notes_through true true old mid new is (inl before) (inl was) less more = inl before
notes_through true true old mid new is (inr fewer) (inl was) less more = inr (omega (arith, fewer, more))

pub nothing_noted : (moved : Bool) (c : Context) → c.moved ≡ moved → Notes moved c c
nothing_noted false c is = (is, refl)
nothing_noted true c is = inl is

pub noted : {R : Rules} {old new : Context} → Loses R old new → Notes new.moved old new
noted (nothing_goes c) = nothing_noted c.moved c refl
noted (some_go old mid new t p change may rest) =
    let few = few_at p t (box_of old) in
    let count = ap count_of (changed_box change) in
    notes_through mid.moved new.moved old mid new refl change.noted (noted rest) (omega (arith, few, count)) (no_more rest)

-- what the mark says
pub none_gone : (old new : Context) → new.moved ≡ false → Notes new.moved old new → box_of new ≡ box_of old
none_gone old new quiet notes = by new.moved quiet notes
  where
    by : (b : Bool) → b ≡ false → Notes b old new → box_of new ≡ box_of old
    by false is tells = tells.1
    by true is tells = absurd (true≢false is)

pub some_gone : (old new : Context) → old.moved ≡ false → new.moved ≡ true → Notes new.moved old new → count_of (box_of new) < count_of (box_of old)
some_gone old new before moved notes = by new.moved moved notes
  where
    by : (b : Bool) → b ≡ true → Notes b old new → count_of (box_of new) < count_of (box_of old)
    by false is tells = absurd (true≢false (sym is))
    by true is (inl was) = absurd (true≢false (sym was ∙ before))
    by true is (inr fewer) = fewer

-- ---- steps

-- nothing is done where the sets have the property, and nothing can be where no box inside them has it
pub no_step : {R : Rules} {P : Property} (c : Context) → P (box_of c) → IsStep R P c c (Ok tt)
no_step c has = record { loses = nothing_goes c; sound = λ box is i p. i; fail = tt; still = λ same. has }

pub failing : {R : Rules} {P : Property} {old new : Context} (fail : Fail) → Loses R old new → NoneHas (vars_of old) P (box_of old) → IsStep R P old new (Err fail)
failing fail loses none = record { loses = loses; sound = tt; fail = none; still = tt }

-- a change of a place is a step
pub change_step : {R : Rules} {old new : Context} {result : Result (Unit {0}) Fail} (p : ℤ → Bool) (t : Term) → IsNamed (vars_of old) t → ((a : ℤ) → PlaceHas (box_of old) t a → p a ≡ false → R (box_of old) t a) → ChangedAt p t old new result → IsStep R (AllPass p t) old new result
change_step {R = R} {old = old} {new = new} {result = Ok done} p t named may change = record {
  loses = some_go old new new t p change may (nothing_goes new);
  sound = λ box lawful i pass. subst (Inside box) (sym (changed_box change)) (passing_inside p t box (box_of old) i pass);
  fail = tt;
  still = λ same. same_passes p t (box_of old) change.some (sym (changed_box change) ∙ same);
}
change_step {R = R} {old = old} {new = new} {result = Err fail} p t named may changed = subst (λ c. IsStep R (AllPass p t) old c (Err fail)) (sym changed.1) (record {
  loses = nothing_goes old;
  sound = tt;
  fail = λ box lawful i pass. (let some = some_value (vars_of old) box t lawful named in true≢false (sym (pass some.0 some.1) ∙ changed.0 some.0 (wider_place box (box_of old) i t some.0 some.1)));
  still = tt;
})

-- a step towards one property is a step towards another, where a box with the other has the one, and sets with the one have
-- the other
pub as_step : {R : Rules} {P Q : Property} {old new : Context} {result : Result (Unit {0}) Fail} → ((box : List (List ℤ)) → IsBox (vars_of old) box → Inside box (box_of old) → Q box → P box) → (P (box_of old) → Q (box_of old)) → IsStep R P old new result → IsStep R Q old new result
as_step {R = R} {P = P} {Q = Q} {old = old} {new = new} {result = Ok done} less more step = record { loses = step.loses; sound = λ box is i q. step.sound box is i (less box is i q); fail = tt; still = λ same. more (step.still same) }
as_step {R = R} {P = P} {Q = Q} {old = old} {new = new} {result = Err fail} less more step = record { loses = step.loses; sound = tt; fail = λ box is i q. step.fail box is i (less box is i q); still = tt }

-- and one by another rule
pub by_rule : {R S : Rules} {P : Property} {old new : Context} {result : Result (Unit {0}) Fail} → ((box : List (List ℤ)) → Inside box (box_of old) → (t : Term) (a : ℤ) → PlaceHas box t a → R box t a → S box t a) → IsStep R P old new result → IsStep S P old new result
by_rule so step = record { loses = loses_so so step.loses; sound = step.sound; fail = step.fail; still = step.still }

pub by_any : {R : Rules} {P : Property} {old new : Context} {result : Result (Unit {0}) Fail} → IsStep R P old new result → IsStep Anything P old new result
by_any step = by_rule (λ box inside t a has may. tt) step

-- a step behind another one is a step towards both properties
pub then_step : {R : Rules} {P Q : Property} {old mid new : Context} {done : Unit {0}} {result : Result (Unit {0}) Fail} → IsStep R P old mid (Ok done) → IsStep R Q mid new result → IsStep R (λ box. P box × Q box) old new result
then_step {R = R} {P = P} {Q = Q} {old = old} {mid = mid} {new = new} {done = done} {result = Ok end} one two =
    let first : (box : List (List ℤ)) → IsBox (vars_of old) box → Inside box (box_of old) → P box → Inside box (box_of mid) = one.sound in
    let second : (box : List (List ℤ)) → IsBox (vars_of mid) box → Inside box (box_of mid) → Q box → Inside box (box_of new) = two.sound in
    record {
      loses = loses_more one.loses two.loses;
      sound = λ box is i both. second box (subst (λ vars. IsBox vars box) (sym (same_vars one.loses)) is) (first box is i both.0) both.1;
      fail = tt;
      still = λ same. (let mid_is = same_between one.loses two.loses same in (one.still mid_is, subst Q mid_is (two.still (same ∙ sym mid_is))));
    }
then_step {R = R} {P = P} {Q = Q} {old = old} {mid = mid} {new = new} {done = done} {result = Err fail} one two =
    let first : (box : List (List ℤ)) → IsBox (vars_of old) box → Inside box (box_of old) → P box → Inside box (box_of mid) = one.sound in
    let none : (box : List (List ℤ)) → IsBox (vars_of mid) box → Inside box (box_of mid) → Q box → ⊥ = two.fail in
    record {
      loses = loses_more one.loses two.loses;
      sound = tt;
      fail = λ box is i both. none box (subst (λ vars. IsBox vars box) (sym (same_vars one.loses)) is) (first box is i both.0) both.1;
      still = tt;
    }

-- a step that fails ends the whole
pub stop_step : {R : Rules} {P Q : Property} {old new : Context} {result end : Result (Unit {0}) Fail} (fail : Fail) → result ≡ Err fail → ((box : List (List ℤ)) → IsBox (vars_of old) box → Inside box (box_of old) → Q box → P box) → IsStep R P old new result → IsErr end → IsStep R Q old new end
stop_step {R = R} {P = P} {Q = Q} {old = old} {new = new} {result = Ok done} {end = end} fail is less step err = cc
stop_step {R = R} {P = P} {Q = Q} {old = old} {new = new} {result = Err f} {end = Ok done} fail is less step err = cc
stop_step {R = R} {P = P} {Q = Q} {old = old} {new = new} {result = Err f} {end = Err g} fail is less step err = failing g step.loses (λ box lawful i q. step.fail box lawful i (less box lawful i q))
